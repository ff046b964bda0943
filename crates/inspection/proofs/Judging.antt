-- The verdicts of the bodies so far, and of one more.
use Rattle.std.proofs.Common.{◌≡◌, ℕ, zero, suc, ◌+◌, ◌⊎◌, List, [], ◌∷◌, ◌++◌, length, Some, refl, sym, ap, ◌∙◌, subst, inl, inr, arith, length-append}
use Rattle.std.specs.List.{slice_get}
use Rattle.std.proofs.lemmas.Option.{slice_get_within}
use Rattle.ir.specs.declared.tables.Body.{Body}
use Rattle.ir.specs.declared.tables.Source.{Source}
use Rattle.ir.specs.Tables.{local}
use Rattle.ir.specs.Checks.{CheckedBody}
use Rattle.inspection.specs.Verdicts.{Verdict, JudgedBodies}

some_injective : {X : Type 0} (x y : X) → Some x ≡ Some y → x ≡ y
some_injective x y e = cc

-- what stands at a place of a list with one more item stood there before, or is that item
last_or_earlier : {X : Type 0} (xs : List X) (x y : X) (k : ℕ) → slice_get (xs ++ x ∷ []) k ≡ Some y → (slice_get xs k ≡ Some y) ⊎ ((k ≡ length xs) × (x ≡ y))
last_or_earlier [] x y zero e = inr (refl, some_injective x y e)
last_or_earlier [] x y (suc k) e = inl e
last_or_earlier (z ∷ xs) x y zero e = inl e
last_or_earlier (z ∷ xs) x y (suc k) e = elim (last_or_earlier xs x y k e) [ inl before ↦ inl before | inr now ↦ inr (ap suc now.0, now.1) ]

judged_last : (m : Source) (b b' : Body) (v v' : Verdict) → CheckedBody (local b m) v → b ≡ b' → v ≡ v' → CheckedBody (local b' m) v'
judged_last m b b' v v' h e f = subst (λ w. CheckedBody (local b' m) w) f (subst (λ x. CheckedBody (local x m) v) e h)

judged_either : (bs : List Body) (m : Source) (vs : List Verdict) (b b' : Body) (v v' : Verdict) (k : ℕ) → JudgedBodies bs m vs → CheckedBody (local b m) v →
    ((slice_get bs k ≡ Some b') ⊎ ((k ≡ length bs) × (b ≡ b'))) → ((slice_get vs k ≡ Some v') ⊎ ((k ≡ length vs) × (v ≡ v'))) → CheckedBody (local b' m) v'
judged_either bs m vs b b' v v' k so_far h (inl e) (inl f) = so_far.each k b' v' e f
judged_either bs m vs b b' v v' k so_far h (inr e) (inr f) = judged_last m b b' v v' h e.1 f.1
judged_either bs m vs b b' v v' k so_far h (inl e) (inr f) =
    let no : ⊥ = omega (arith, slice_get_within bs k b' e, f.0, so_far.as_many) in elim no [ ]
judged_either bs m vs b b' v v' k so_far h (inr e) (inl f) =
    let no : ⊥ = omega (arith, slice_get_within vs k v' f, e.0, so_far.as_many) in elim no [ ]

pub judged_more : (bodies bs : List Body) (m : Source) (vs vs' : List Verdict) (b : Body) (v : Verdict) →
    bodies ≡ bs ++ b ∷ [] → vs' ≡ vs ++ v ∷ [] → JudgedBodies bs m vs → CheckedBody (local b m) v → JudgedBodies bodies m vs'
judged_more bodies bs m vs vs' b v is more so_far h =
    record {
      as_many = ap length more ∙ length-append vs (v ∷ []) ∙ ap (λ n. n + 1) so_far.as_many ∙ sym (length-append bs (b ∷ [])) ∙ sym (ap length is);
      each = λ k b' v' e f.
          judged_either bs m vs b b' v v' k so_far h
          (last_or_earlier bs b b' k (sym (ap (λ l. slice_get l k) is) ∙ e))
          (last_or_earlier vs v v' k (sym (ap (λ l. slice_get l k) more) ∙ f));
    }
