-- What the steps of a conversion ask of each other and promise.
use Rattle.std.specs.Prelude.{◌≡◌, ℕ, ◌+◌, ◌*◌, ◌/◌, ◌%◌, ◌<◌, ◌≤◌, ℤ, Result, Err}
use Rattle.std.specs.Result.{result_or}
use Rattle.std.specs.Float.Ieee as Ieee
use Rattle.std.specs.Int.{saturate_to_bits}
use Rattle.rounding.specs.declared.conversion.ConversionError.TheVariants.{DstRangeTooSmall}
use Rattle.rounding.specs.Formats.{Format}
use Rattle.rounding.specs.Doubles.{whole}
use Rattle.rounding.specs.Conversion.{Answer, Finite}

-- a format that a double rounds to: its digits and its exponents are among a double's, by far
abbrev pub Narrow : Format → Type 0
Narrow f = (2 ≤ f.digits) × (f.digits ≤ 24) × (1 ≤ f.emax) × (f.emax ≤ 127)

-- m / u, rounded to a whole number: r is the nearest one, and at a tie the even one
pub record Rounded (m u r : ℕ) : Type 0 where
  pub below : m % u * 2 < u → r ≡ m / u
  pub tie : m % u * 2 ≡ u → r ≡ m / u + m / u % 2
  pub above : u < m % u * 2 → r ≡ m / u + 1

-- r is what a type makes of the value without its fraction, by the type's conversion from 64 bits, which `gives` states, and 10 where that gives none. A value past 64 bits counts as the nearest one there.
abbrev pub Converted : {X E : Type 0} → Ieee.Float → (ℤ → Result X E → Type 0) → Answer X → Type 0
Converted {X} {E} x gives r = Finite x r ((q : Result X E) × gives (saturate_to_bits 63 (whole x)) q × (r ≡ result_or q (Err DstRangeTooSmall)))
