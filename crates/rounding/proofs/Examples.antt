-- The worked examples, computed. Assumes nothing.
use Rattle.std.proofs.Common.{◌≡◌, ℕ, ◌+◌, ◌%◌, ◌^◌, ◌<◌, ◌≤◌, true, cond, T, ltb, negsuc, Ok, Err, sym, refl, ap, subst, lit<, lit≤, le-ltb, lt-ltb}
use lib.Ieee as Ieee
use lib.Ieee.{binary64, fits, to_bits}
use Rattle.std.specs.Float.{float_is_finite, is_sign_negative}
use Rattle.rounding.specs.declared.literals.Literal.TheVariants as Literals
use Rattle.rounding.specs.declared.conversion.ConversionError.TheVariants.{DstRangeTooSmall}
use Rattle.rounding.specs.Formats.{half, infinity, sign_bit_of}
use Rattle.rounding.specs.Shifts.{Narrow}
use Rattle.rounding.specs.Nearest.{Nearest}
use Rattle.rounding.specs.Doubles.{units, whole, truth}
use Rattle.rounding.specs.Examples.{bool, i16, u32, f16, plus, minus, Gives, Refuses, Examples}
use Rattle.rounding.proofs.Floats.{units_is}
use Rattle.rounding.proofs.Conversions.{chosen, passed}
use Rattle.rounding.proofs.Pinning.{pinned}
use Rattle.rounding.proofs.Model.{made, made_nearest}

narrow : Narrow half
narrow = (lit≤ tt, lit≤ tt, lit≤ tt, lit≤ tt)

module _ (x : Ieee.Float) (f : T (fits binary64 x)) (h : float_is_finite x ≡ true) where
  abbrev bits : ℕ
  bits = to_bits binary64 x

  abbrev pattern : ℕ
  pattern = made half (bits % 2 ^ 63)

  near : Nearest half (units x) pattern
  near = subst (λ (n : ℕ). Nearest half n pattern) (sym (units_is x f h)) (made_nearest half narrow (bits % 2 ^ 63))

  -- a value that rounds to the pattern p, with its sign
  pub halved : (p : ℕ) → pattern < infinity half → p ≡ cond (is_sign_negative x) (sign_bit_of half) 0 + pattern → Gives f16 x (Literals.F16 p)
  halved p l e = pinned f16 x _ (chosen (float_is_finite x) _ _ h (pattern, near, chosen (ltb pattern (infinity half)) _ _ (lt-ltb pattern (infinity half) l) (ap (λ (k : ℕ). Ok (Literals.F16 k)) e)))

  pub past_half : infinity half ≤ pattern → Refuses f16 x 10
  past_half l = (DstRangeTooSmall, refl, pinned f16 x _ (chosen (float_is_finite x) _ _ h (pattern, near, passed (ltb pattern (infinity half)) _ _ (le-ltb pattern (infinity half) l) refl)))

pub examples : Examples
unfolding made to_bits fits float_is_finite is_sign_negative units whole truth Ieee.round
examples = record {
  bool_nan = pinned bool _ _ refl;
  bool_infinity = pinned bool _ _ refl;
  u32_minus_half = pinned u32 (minus 1 2) (Ok (Literals.U32 0)) refl;
  u32_past = (DstRangeTooSmall, refl, pinned u32 (plus 4294967296 1) (Err DstRangeTooSmall) refl);
  i16_least = pinned i16 (minus 327689 10) (Ok (Literals.I16 (negsuc 32767))) refl;
  i16_past = (DstRangeTooSmall, refl, pinned i16 (minus 32769 1) (Err DstRangeTooSmall) refl);
  f16_largest = halved (plus 65519 1) tt refl 0x7bff (lit< tt) refl;
  f16_past = past_half (plus 65520 1) tt refl (lit≤ tt);
  f16_tie = halved (plus (2 ^ 11 + 1) (2 ^ 11)) tt refl 0x3c00 (lit< tt) refl;
  f16_past_tie = halved (plus (2 ^ 40 + 2 ^ 29 + 1) (2 ^ 40)) tt refl 0x3c01 (lit< tt) refl;
  f16_minus_zero = halved (minus 1 (2 ^ 25)) tt refl 0x8000 (lit< tt) refl;
}
