-- What a pipeline value, a double, becomes for a scalar type. A finite double is a whole number of units, each 2^-1074.
use Rattle.std.specs.Prelude.{◌≡◌, ℕ, ◌+◌, ◌-◌, ◌^◌, cond, ◌&&◌, List, ℤ, pos, negsuc, Ok, Err, codes, Result, ◌==◌, int_le, nat_lt, unsigned_abs}
use Rattle.std.specs.Float.Ieee as Ieee
use Rattle.std.specs.Float.{float_is_finite, is_sign_negative, binary64}
use Rattle.rounding.specs.declared.scalars.Scalar.{Scalar}
use Rattle.rounding.specs.declared.scalars.ScalarKind.{ScalarKind}
use Rattle.rounding.specs.declared.scalars.ScalarKind.TheVariants.{Sint, Uint, Float, Bool}
use Rattle.rounding.specs.declared.literals.Literal.{Literal}
use Rattle.rounding.specs.declared.literals.Literal.TheVariants as Literals
use Rattle.rounding.specs.declared.conversion.ConversionError.{ConversionError}
use Rattle.rounding.specs.declared.conversion.ConversionError.TheVariants.{SrcNeedsToBeFinite, DstRangeTooSmall, UnsupportedScalar}
use Rattle.rounding.specs.Formats.{Format, half, single, infinity, sign_bit_of}
use Rattle.rounding.specs.Nearest.{Nearest}
use Rattle.rounding.specs.Doubles.{units, whole, truth}

abbrev pub Answer : Type 0 → Type 0
Answer X = Result X ConversionError

-- the refusals' numbers
abbrev pub code_of : ConversionError → ℕ
code_of SrcNeedsToBeFinite = 9
code_of DstRangeTooSmall = 10
code_of UnsupportedScalar = 11

-- how a refusal is told
abbrev pub told_as : ConversionError → List ℕ
told_as SrcNeedsToBeFinite = codes "the value is not finite"
told_as DstRangeTooSmall = codes "the value does not fit the type"
told_as UnsupportedScalar = codes "no literal has this scalar type"

abbrev pub Refused : {X : Type 0} → Answer X → ℕ → Type 0
Refused (Ok v) code = ⊥
Refused (Err e) code = code_of e ≡ code

-- P of a finite value. A NaN or an infinity is refused with 9.
abbrev pub Finite : {X : Type 0} → Ieee.Float → Answer X → Type 0 → Type 0
Finite x r P = cond (float_is_finite x) P (Refused r 9)

-- r is made of the value without its fraction, if that lies from low to high, and else refused with 10
abbrev pub Whole : {X : Type 0} → Ieee.Float → Answer X → ℤ → ℤ → (ℤ → X) → Type 0
Whole x r low high make = Finite x r (cond (int_le low (whole x) && int_le (whole x) high) (r ≡ Ok (make (whole x))) (Refused r 10))

-- r is made of the pattern of the nearest value of f, with the value's sign, and refused with 10 if that value is the infinity
abbrev pub Rounds : {X : Type 0} → Ieee.Float → Answer X → Format → (ℕ → X) → Type 0
Rounds x r f make =
    Finite x r ((q : ℕ) × Nearest f (units x) q × cond (nat_lt q (infinity f)) (r ≡ Ok (make (cond (is_sign_negative x) (sign_bit_of f) 0 + q))) (Refused r 10))

-- by the scalar's kind and its width in bytes: a value for any other scalar is refused with 11, whatever the value
abbrev pub OfKind : ScalarKind → ℕ → Ieee.Float → Answer Literal → Type 0
OfKind Bool w x r = cond (w == 1) (r ≡ Ok (Literals.Bool (truth x))) (Refused r 11)
OfKind Sint w x r =
    cond (w == 2) (Whole x r (negsuc (2 ^ 15 - 1)) (pos (2 ^ 15 - 1)) Literals.I16)
    (cond (w == 4) (Whole x r (negsuc (2 ^ 31 - 1)) (pos (2 ^ 31 - 1)) Literals.I32) (Refused r 11))
OfKind Uint w x r =
    cond (w == 2) (Whole x r (pos 0) (pos (2 ^ 16 - 1)) (λ z. Literals.U16 (unsigned_abs z)))
    (cond (w == 4) (Whole x r (pos 0) (pos (2 ^ 32 - 1)) (λ z. Literals.U32 (unsigned_abs z))) (Refused r 11))
OfKind Float w x r =
    cond (w == 2) (Rounds x r half Literals.F16)
    (cond (w == 4) (Rounds x r single Literals.F32)
    (cond (w == 8) (Finite x r (r ≡ Ok (Literals.F64 (Ieee.to_bits binary64 x)))) (Refused r 11)))

-- r is what the value x becomes for the scalar
abbrev pub Becomes : Scalar → Ieee.Float → Answer Literal → Type 0
Becomes scalar x r = OfKind scalar.kind scalar.width x r

-- r is the one answer that the rule allows
pub record Pinned (scalar : Scalar) (x : Ieee.Float) (r : Answer Literal) : Type 0 where
  pub becomes : Becomes scalar x r
  pub only : (s : Answer Literal) → Becomes scalar x s → s ≡ r
