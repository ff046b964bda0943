-- A double, which the logic has as a NaN, an infinity, or a sign, digits m and an exponent e that stand for m * 2 ^ e: in units of 2^-1074, without its fraction, and as a truth.
use Rattle.std.specs.Prelude.{◌≡◌, ℕ, ◌*◌, ◌/◌, ◌^◌, Bool, true, false, cond, not, T, ℤ, pos, neg_ℤ, ◌==◌, Float}
use Rattle.std.specs.Float.Ieee.{up, down, fits}
use Rattle.std.specs.Float.Ieee.Exact.{HasValue}
use Rattle.std.specs.Float.{float_is_finite, is_sign_negative, nan, inf, fin, binary64}

-- the size of a finite double is a whole number of units
unfoldable pub units : Float → ℕ
units nan = 0
units (inf s) = 0
units (fin s m e) = m * up e * 2 ^ 1074 / down e

-- the fraction dropped toward zero
unfoldable pub whole : Float → ℤ
unfolding units
whole x = cond (is_sign_negative x) (neg_ℤ (pos (units x / 2 ^ 1074))) (pos (units x / 2 ^ 1074))

-- every value but the zeros and the NaNs, the infinities among them
unfoldable pub truth : Float → Bool
truth nan = false
truth (inf s) = true
truth (fin s m e) = not (m == 0)

-- No part of a unit is lost: a finite double is its units / 2 ^ 1074, with its sign.
abbrev pub UnitsExact : Type 0
UnitsExact = (x : Float) → T (fits binary64 x) → float_is_finite x ≡ true → HasValue x (is_sign_negative x) (units x) (2 ^ 1074)
