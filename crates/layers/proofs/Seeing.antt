-- Seeing through constants one at a time.
use Rattle.std.proofs.Common.{◌≡◌, ℕ, zero, suc, ◌<◌, ◌≤◌, List, Some, None, Option, refl, sym, subst, ap, ◌∙◌, arith}
use Rattle.std.proofs.lemmas.Bool.Decides.{nat_tests}
use Rattle.arena.specs.Nodes.{Node}
use Rattle.layers.specs.declared.values.Value.{Value}
use Rattle.layers.specs.Values.{value_at, init_at, if_below, init_below, through, seen, behind_in}

below_is : (h : ℕ) (o : Option ℕ) (i : ℕ) → if_below h o ≡ Some i → i < h
below_is h o i p = grind (arith, nat_tests, p)

module _ (es : List Node) (inits : List ℕ) where
  pub init_is_below : (h i : ℕ) → init_below es inits h ≡ Some i → i < h
  init_is_below h i p = below_is h (init_at es inits h) i p

  -- as many as there are handles below are enough
  through_same : (f g : ℕ → Option Value) (d : Option Value) (o : Option ℕ) → ((i : ℕ) → o ≡ Some i → f i ≡ g i) → through f d o ≡ through g d o
  through_same f g d None p = refl
  through_same f g d (Some i) p = p i refl

  none_below : (o : Option ℕ) → if_below 0 o ≡ None
  none_below o = grind (arith, nat_tests)

  pub seen_enough : (n m h : ℕ) → h ≤ n → h ≤ m → seen es inits n h ≡ seen es inits m h
  seen_enough zero zero h p q = refl
  seen_enough zero (suc m) h p q =
      let z : h ≡ 0 = omega arith in
      subst (λ k. value_at es k ≡ through (seen es inits m) (value_at es k) (init_below es inits k)) (sym z)
      (sym (ap (through (seen es inits m) (value_at es 0)) (none_below (init_at es inits 0))))
  seen_enough (suc n) zero h p q =
      let z : h ≡ 0 = omega arith in
      subst (λ k. through (seen es inits n) (value_at es k) (init_below es inits k) ≡ value_at es k) (sym z)
      (ap (through (seen es inits n) (value_at es 0)) (none_below (init_at es inits 0)))
  seen_enough (suc n) (suc m) h p q =
      through_same (seen es inits n) (seen es inits m) (value_at es h) (init_below es inits h)
      (λ i e. let l = init_is_below h i e in seen_enough n m i (omega (arith, l)) (omega (arith, l)))

  -- a constant is seen through
  pub behind_step : (h i : ℕ) → init_below es inits h ≡ Some i → behind_in es inits h ≡ behind_in es inits i
  behind_step zero i p = let l = init_is_below zero i p in absurd (omega (arith, l))
  behind_step (suc h) i p =
      let l = init_is_below (suc h) i p in
      ap (through (seen es inits h) (value_at es (suc h))) p ∙ seen_enough h i i (omega (arith, l)) (omega (arith))

  -- what is no constant with its init below stands for itself
  pub behind_here : (h : ℕ) → init_below es inits h ≡ None → behind_in es inits h ≡ value_at es h
  behind_here zero p = refl
  behind_here (suc h) p = ap (through (seen es inits h) (value_at es (suc h))) p
