-- Values that are pushed one after the other.
use Rattle.std.proofs.Common.{◌≡◌, ℕ, zero, suc, ◌+◌, ◌<◌, ◌⊎◌, List, [], ◌∷◌, ◌++◌, length, get_or, take, Some, refl, sym, ap, ◌∙◌, subst, inl, inr, arith}
use Rattle.std.specs.List.{slice_get}
use Rattle.std.proofs.lemmas.List.{take_more, length_push}
use Rattle.std.proofs.lemmas.Option.{slice_get_within, none-some, same_Some}
use Rattle.settings.specs.Layout.{Given}
use Rattle.ir.specs.declared.tables.Override.{Override}
use Rattle.walking.specs.declared.overrides.Valued.{Valued}
use Rattle.overrides.specs.Values.{ValuedAs, ValuedFor}

-- what stands in a list with one item more
at_push : {A : Type 0} (xs : List A) (x y : A) (p : ℕ) → slice_get (xs ++ x ∷ []) p ≡ Some y → (slice_get xs p ≡ Some y) ⊎ ((p ≡ length xs) × (x ≡ y))
at_push [] x y zero h = inr (refl, same_Some x y h)
at_push [] x y (suc p) h = absurd (none-some y h)
at_push (z ∷ xs) x y zero h = inl h
at_push (z ∷ xs) x y (suc p) h = elim (at_push xs x y p h) [ inl e ↦ inl e | inr e ↦ inr (ap suc e.0, e.1) ]

module _ (g : Given) (names : List ℕ) where
  none_yet : ValuedFor g names [] []
  none_yet = record { every = refl; each = λ p o v h k. absurd (none-some o h) }

  one_more : (os : List Override) (vs : List Valued) (o : Override) (v : Valued) → ValuedFor g names os vs → ValuedAs g names o v → ValuedFor g names (os ++ o ∷ []) (vs ++ v ∷ [])
  one_more os vs o v h a =
      record {
        every = length_push vs v ∙ ap (λ n. n + 1) h.every ∙ sym (length_push os o);
        each = λ p o' v' at_o at_v. elim (at_push os o o' p at_o) [
          | inl e ↦ elim (at_push vs v v' p at_v) [ inl f ↦ h.each p o' v' e f | inr f ↦ absurd (past p (slice_get_within os p o' e) (f.0 ∙ h.every)) ]
          | inr e ↦ elim (at_push vs v v' p at_v) [
            | inl f ↦ absurd (past p (subst (λ n. p < n) h.every (slice_get_within vs p v' f)) e.0)
            | inr f ↦ subst (λ x. ValuedAs g names x v') e.1 (subst (λ y. ValuedAs g names o y) f.1 a)
          ]
        ];
      }
    where
      past : (p : ℕ) → p < length os → p ≡ length os → ⊥
      past p l e = omega (arith, l, e)

  more : (os : List Override) (vs ws : List Valued) (i : ℕ) (d : Override) (v : Valued) → i < length os → ValuedFor g names (take i os) vs → ValuedAs g names (get_or os i d) v →
      ws ≡ vs ++ v ∷ [] → ValuedFor g names (take (i + 1) os) ws
  more os vs ws i d v l h a e =
      subst (λ xs. ValuedFor g names xs ws) (sym (take_more os i d l))
      (subst (ValuedFor g names (take i os ++ get_or os i d ∷ [])) (sym e) (one_more (take i os) vs (get_or os i d) v h a))

  -- the same where names and overrides are lent under other names
  pub filled : (ns : List ℕ) (os ps : List Override) (vs ws : List Valued) (i : ℕ) (d : Override) (v : Valued) → ns ≡ names → ps ≡ os →
      i < length ps → ValuedFor g names (take i os) vs → ValuedAs g ns (get_or ps i d) v → ws ≡ vs ++ v ∷ [] → ValuedFor g names (take (i + 1) os) ws
  filled ns os ps vs ws i d v en eo l h a =
      more os vs ws i d v (subst (λ xs. i < length xs) eo l) h
      (subst (λ xs. ValuedAs g xs (get_or os i d) v) en (subst (λ xs. ValuedAs g ns (get_or xs i d) v) eo a))
