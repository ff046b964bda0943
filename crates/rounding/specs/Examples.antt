-- Worked examples: what a value becomes, and nothing else. A value is written as the double nearest to a fraction.
use Rattle.std.specs.Prelude.{◌≡◌, ℕ, ◌+◌, ◌^◌, true, false, negsuc, Ok, Err}
use Rattle.std.specs.Float.Ieee as Ieee
use Rattle.std.specs.Float.{nan, inf, binary64}
use Rattle.rounding.specs.declared.scalars.Scalar.{Scalar}
use Rattle.rounding.specs.declared.scalars.ScalarKind.TheVariants.{Sint, Uint, Float, Bool}
use Rattle.rounding.specs.declared.literals.Literal.{Literal}
use Rattle.rounding.specs.declared.literals.Literal.TheVariants as Literals
use Rattle.rounding.specs.declared.conversion.ConversionError.{ConversionError}
use Rattle.rounding.specs.Conversion.{code_of, Pinned}

abbrev pub bool : Scalar
bool = record { kind = Bool; width = 1 }

abbrev pub i16 : Scalar
i16 = record { kind = Sint; width = 2 }

abbrev pub u32 : Scalar
u32 = record { kind = Uint; width = 4 }

abbrev pub f16 : Scalar
f16 = record { kind = Float; width = 2 }

-- the doubles nearest to num / den and to its negative
abbrev pub plus : ℕ → ℕ → Ieee.Float
plus num den = Ieee.round binary64 false num den

abbrev pub minus : ℕ → ℕ → Ieee.Float
minus num den = Ieee.round binary64 true num den

abbrev pub Gives : Scalar → Ieee.Float → Literal → Type 0
Gives scalar x l = Pinned scalar x (Ok l)

-- refused with this number
abbrev pub Refuses : Scalar → Ieee.Float → ℕ → Type 0
Refuses scalar x code = (e : ConversionError) × (code_of e ≡ code) × Pinned scalar x (Err e)

pub record Examples : Type 0 where
  pub bool_nan : Gives bool nan (Literals.Bool false)
  pub bool_infinity : Gives bool (inf false) (Literals.Bool true)
  pub u32_minus_half : Gives u32 (minus 1 2) (Literals.U32 0)
  pub u32_past : Refuses u32 (plus 4294967296 1) 10
  pub i16_least : Gives i16 (minus 327689 10) (Literals.I16 (negsuc 32767))
  pub i16_past : Refuses i16 (minus 32769 1) 10
  pub f16_largest : Gives f16 (plus 65519 1) (Literals.F16 0x7bff)
  pub f16_past : Refuses f16 (plus 65520 1) 10
  -- 1 + 2^-11, and 2^-40 more
  pub f16_tie : Gives f16 (plus (2 ^ 11 + 1) (2 ^ 11)) (Literals.F16 0x3c00)
  pub f16_past_tie : Gives f16 (plus (2 ^ 40 + 2 ^ 29 + 1) (2 ^ 40)) (Literals.F16 0x3c01)
  -- half of the smallest value is a tie, and goes to the zero with the sign
  pub f16_minus_zero : Gives f16 (minus 1 (2 ^ 25)) (Literals.F16 0x8000)
