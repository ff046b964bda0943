-- No name stands twice in a table.
use Rattle.std.proofs.Common.{◌≡◌, ℕ, zero, suc, ◌<◌, ◌≤◌, Bool, true, false, not, ◌&&◌, List, [], ◌∷◌, length, ◌==◌, Some, None, Option, MatchOption, refl, sym, ap, ◌∙◌, rules, tests, arith, lit≤}
use Rattle.std.specs.List.{slice_get}
use Rattle.std.proofs.lemmas.Option.{slice_get_within}
use Rattle.places.specs.First.{Least}
use Rattle.operands.specs.declared.Sort.{Sort}
use Rattle.operands.specs.declared.Sort.TheVariants.{Expressions, Records}
use Rattle.shader_text.specs.KindNames.{names_of}

-- whether two texts are equal
same : List ℕ → List ℕ → Bool
same [] [] = true
same [] (y ∷ ys) = false
same (x ∷ xs) [] = false
same (x ∷ xs) (y ∷ ys) = (x == y) && same xs ys

-- whether a text is none of these
absent : List ℕ → List (List ℕ) → Bool
absent x [] = true
absent x (y ∷ ys) = not (same x y) && absent x ys

distinct : List (List ℕ) → Bool
distinct [] = true
distinct (x ∷ xs) = absent x xs && distinct xs

all_distinct : (sort : Sort) → distinct (names_of sort) ≡ true
unfolding distinct absent same
all_distinct Expressions = refl
all_distinct Records = refl

same_refl : (x : List ℕ) → same x x ≡ true
unfolding same
same_refl [] = refl
same_refl (x ∷ xs) = grind (arith, tests, same_refl xs)

absent_nowhere : (x : List ℕ) (xs : List (List ℕ)) (k : ℕ) → absent x xs ≡ true → slice_get xs k ≡ Some x → ⊥
unfolding absent
absent_nowhere x [] k h e = search (rules, e)
absent_nowhere x (y ∷ ys) zero h e = grind (arith, tests, h, e, same_refl x)
absent_nowhere x (y ∷ ys) (suc k) h e = absent_nowhere x ys k (grind (arith, tests, h)) (search (rules, e))

one_place : (w : List ℕ) (xs : List (List ℕ)) (j k : ℕ) → distinct xs ≡ true → slice_get xs j ≡ Some w → slice_get xs k ≡ Some w → j ≡ k
unfolding distinct
one_place w [] j k d e f = cc
one_place w (x ∷ xs) zero zero d e f = refl
one_place w (x ∷ xs) zero (suc k) d e f = elim (absent_nowhere x xs k (grind (arith, tests, d)) (f ∙ sym e)) [ ]
one_place w (x ∷ xs) (suc j) zero d e f = elim (absent_nowhere x xs j (grind (arith, tests, d)) (e ∙ sym f)) [ ]
one_place w (x ∷ xs) (suc j) (suc k) d e f = ap suc (one_place w xs j k (grind (arith, tests, d)) e f)

-- a kind's name is no other kind's
pub one_kind : (sort : Sort) (w : List ℕ) (j k : ℕ) → slice_get (names_of sort) j ≡ Some w → slice_get (names_of sort) k ≡ Some w → j ≡ k
one_kind sort w j k e f = one_place w (names_of sort) j k (all_distinct sort) e f

few : (sort : Sort) → length (names_of sort) ≤ 34
few Expressions = lit≤ tt
few Records = lit≤ tt

-- no number from 34 on has a name
past_names : (sort : Sort) (w : List ℕ) (k : ℕ) → slice_get (names_of sort) k ≡ Some w → k < 34
past_names sort w k e = let within = slice_get_within (names_of sort) k w e in omega (arith, within, few sort)

-- what is found among the numbers below 34 is the least of all
pub least_named : (sort : Sort) (w : List ℕ) (r : Option ℕ) →
    MatchOption r ((k : ℕ) → 0 ≤ k → k < 34 → slice_get (names_of sort) k ≡ Some w → ⊥) (λ i. (0 ≤ i) × (i < 34) × (slice_get (names_of sort) i ≡ Some w) × ((k : ℕ) → 0 ≤ k → k < i → slice_get (names_of sort) k ≡ Some w → ⊥)) →
    Least (λ k. slice_get (names_of sort) k ≡ Some w) r
least_named sort w None h = λ k e. h k (omega arith) (past_names sort w k e) e
least_named sort w (Some i) h = (h.2, λ j below e. h.3 j (omega arith) below e)

-- and the only one
pub back_named : (sort : Sort) (w : List ℕ) (r : Option ℕ) → Least (λ k. slice_get (names_of sort) k ≡ Some w) r →
    (k : ℕ) → slice_get (names_of sort) k ≡ Some w → r ≡ Some k
back_named sort w None h k e = elim (h k e) [ ]
back_named sort w (Some i) h k e = ap Some (one_kind sort w i k h.0 e)
