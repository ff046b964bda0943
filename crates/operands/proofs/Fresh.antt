-- The memory before any place was looked at.
use Rattle.std.proofs.Common.{◌≡◌, ℕ, zero, suc, ◌<◌, ◌≤◌, List, length, get_or, take, replicate, refl, ap, arith}
use Rattle.std.proofs.lemmas.List.{length-take}
use Rattle.std.proofs.lemmas.Simd.{length-replicate}
use Rattle.operands.specs.Walk.{Reached}

abbrev zeros : ℕ → List ℕ
zeros n = replicate n 0

zero_there : (n p : ℕ) → ◌≡◌ {A = ℕ} (get_or (zeros n) p 0) 0
zero_there zero p = refl
zero_there (suc n) zero = refl
zero_there (suc n) (suc p) = zero_there n p

pub none_reached : (n q : ℕ) → Reached (zeros n) q → ⊥
none_reached n q h = omega (arith, h.2, zero_there n h.0)

pub enough : (n : ℕ) (xs ys : List ℕ) → ys ≡ take n xs → length ys ≤ length (zeros n)
enough n xs ys e = omega (arith, ap length e, length-take n xs, length-replicate {A = ℕ} n 0)

pub few : (n : ℕ) (xs ys : List ℕ) → n < 4294967296 → ys ≡ take n xs → length ys < 4294967296
few n xs ys l e = omega (arith, ap length e, length-take n xs)
