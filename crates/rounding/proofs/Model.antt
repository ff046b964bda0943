-- The nearest pattern, computed, for examples. Assumes nothing.
use Rattle.std.proofs.Common.{ℕ, ◌+◌, ◌*◌, ◌/◌, ◌%◌, ◌^◌, min, cond, ltb, refl, arith, le-ltb, lt-ltb}
use Rattle.rounding.specs.Formats.{Format, double, weight, infinity, significand, doublings, magnitude}
use Rattle.rounding.specs.Nearest.{Nearest}
use Rattle.rounding.specs.Shifts.{Narrow, Rounded}
use Rattle.rounding.proofs.Doubles.{fields_of, drop_of, nearest_of}

abbrev closest : ℕ → ℕ → ℕ
closest m u = cond (ltb (m % u * 2) u) (m / u) (cond (ltb u (m % u * 2)) (m / u + 1) (m / u + m / u % 2))

closest_rounds : (m u : ℕ) → Rounded m u (closest m u)
closest_rounds m u = record {
  below = λ h. simp (lt-ltb (m % u * 2) u h);
  tie = λ h. simp (le-ltb (m % u * 2) u (omega arith), le-ltb u (m % u * 2) (omega arith));
  above = λ h. simp (le-ltb (m % u * 2) u (omega arith), lt-ltb u (m % u * 2) h);
}

unfoldable pub made : Format → ℕ → ℕ
unfolding significand doublings
made f bits =
    let e = doublings double bits in
    min (fields_of f e * weight f + closest (significand double bits) (2 ^ drop_of f e)) (infinity f)

pub made_nearest : (f : Format) → Narrow f → (bits : ℕ) → Nearest f (magnitude double bits) (made f bits)
unfolding made
made_nearest f n bits = nearest_of f n bits _ _ _ _ refl refl (closest_rounds (significand double bits) (2 ^ drop_of f (doublings double bits))) refl
