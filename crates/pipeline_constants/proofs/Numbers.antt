-- Numbers in a row.
use Rattle.std.proofs.Common.{◌≡◌, ℕ, zero, suc, ◌+◌, ◌<◌, slice_set, List, [], ◌∷◌, ◌++◌, length, take, refl, sym, ap, ◌∙◌}
use Rattle.std.proofs.lemmas.List.{take_more_set}
use native.Mathlib.Omega.{arith}
use Rattle.pipeline_constants.specs.Contents.{numbers}

-- one more at the end
pub numbers_more : (k n : ℕ) → numbers k (suc n) ≡ numbers k n ++ (k + n) ∷ []
numbers_more k zero = ap (λ (i : ℕ). i ∷ []) (omega arith)
numbers_more k (suc n) = ap (λ (is : List ℕ). k ∷ is) (numbers_more (k + 1) n ∙ ap (λ (i : ℕ). numbers (k + 1) n ++ i ∷ []) (omega arith))

pub numbers_count : (k n : ℕ) → length (numbers k n) ≡ n
numbers_count k zero = refl
numbers_count k (suc n) = ap suc (numbers_count (k + 1) n)

-- from 0 on
pub numbers_next : (n : ℕ) → numbers 0 (n + 1) ≡ numbers 0 n ++ n ∷ []
numbers_next n =
    let one : n + 1 ≡ suc n = omega arith in
    let last : 0 + n ≡ n = omega arith in
    ap (numbers 0) one ∙ (numbers_more 0 n ∙ ap (λ (i : ℕ). numbers 0 n ++ i ∷ []) last)

-- the next number is written
pub write_next : (xs : List ℕ) (h : ℕ) → h < length xs → take h xs ≡ numbers 0 h → take (h + 1) (slice_set xs h h) ≡ numbers 0 (h + 1)
write_next xs h l e = take_more_set xs h h l ∙ (ap (λ (is : List ℕ). is ++ h ∷ []) e ∙ sym (numbers_next h))
