-- Overrides with the inits that they took, one after the other.
use Rattle.std.proofs.Common.{◌≡◌, ℕ, suc, ◌+◌, ◌<◌, ◌≤◌, List, [], ◌∷◌, ◌++◌, length, take, refl, ap, ◌∙◌, get_or}
use Rattle.std.proofs.lemmas.List.{length-take-le}
use Rattle.std.proofs.Math.Seq.{take-suc}
use native.Mathlib.Omega.{arith}
use Rattle.ir.specs.declared.tables.Override.{Override}
use Rattle.evaluator.specs.declared.tables.NewConstant.{NewConstant}
use Rattle.pipeline_constants.specs.Contents.{taken, taken_from}

module _ (cs : List NewConstant) (ss : List ℕ) where
  -- one more at the end
  snoc : (p : ℕ) (os : List Override) (o : Override) → taken_from cs ss p (os ++ o ∷ []) ≡ taken_from cs ss p os ++ taken cs ss (p + length os) o ∷ []
  snoc p [] o = let at : p ≡ p + 0 = omega arith in ap (λ (k : ℕ). taken cs ss k o ∷ []) at
  snoc p (q ∷ os) o =
      let at : p + 1 + length os ≡ p + suc (length os) = omega arith in
      ap (λ (qs : List Override). taken cs ss p q ∷ qs) (snoc (p + 1) os o ∙ ap (λ (k : ℕ). taken_from cs ss (p + 1) os ++ taken cs ss k o ∷ []) at)

  pub taken_more : (n : ℕ) (os : List Override) (d : Override) → n < length os → taken_from cs ss 0 (take (n + 1) os) ≡ taken_from cs ss 0 (take n os) ++ taken cs ss n (get_or os n d) ∷ []
  taken_more n os d l =
      let one : n + 1 ≡ suc n = omega arith in
      let low : n ≤ length os = omega (arith, l) in
      let zeroed : 0 + length (take n os) ≡ length (take n os) = omega arith in
      let count : 0 + length (take n os) ≡ n = zeroed ∙ length-take-le n os low in
      ap (λ (k : ℕ). taken_from cs ss 0 (take k os)) one ∙ (ap (taken_from cs ss 0) (take-suc os n d l) ∙ (snoc 0 (take n os) (get_or os n d) ∙ ap (λ (k : ℕ). taken_from cs ss 0 (take n os) ++ taken cs ss k (get_or os n d) ∷ []) count))

  pub taken_count : (p : ℕ) (os : List Override) → length (taken_from cs ss p os) ≡ length os
  taken_count p [] = refl
  taken_count p (o ∷ os) = ap suc (taken_count (p + 1) os)

  pub count_of : (p n : ℕ) (os : List Override) → n < length os → length (taken_from cs ss p (take n os)) ≡ n
  count_of p n os l = let low : n ≤ length os = omega (arith, l) in taken_count p (take n os) ∙ length-take-le n os low
