-- A literal as words: its type's number, the low 32 bits and the high 32 bits. A literal holds the bits of its width, and zero above.
use Rattle.std.specs.Prelude.{ℕ, ◌-◌, ◌/◌, ◌%◌, ◌^◌, true, false, List, [], ◌∷◌, ℤ, pos, negsuc}
use Rattle.rounding.specs.declared.literals.Literal.{Literal}
use Rattle.rounding.specs.declared.literals.Literal.TheVariants.{Bool, I16, U16, I32, U32, F16, F32, F64, I64, U64, AbstractInt, AbstractFloat}

-- a signed number in w bits, by two's complement
abbrev pub twos : ℕ → ℤ → ℕ
twos w (pos n) = n
twos w (negsuc n) = 2 ^ w - 1 - n

abbrev pub type_of : Literal → ℕ
type_of (Bool b) = 0
type_of (I16 x) = 1
type_of (U16 x) = 2
type_of (I32 x) = 3
type_of (U32 x) = 4
type_of (F16 x) = 5
type_of (F32 x) = 6
type_of (F64 x) = 7
type_of (I64 x) = 8
type_of (U64 x) = 9
type_of (AbstractInt x) = 10
type_of (AbstractFloat x) = 11

abbrev pub literal_bits_of : Literal → ℕ
literal_bits_of (Bool true) = 1
literal_bits_of (Bool false) = 0
literal_bits_of (I16 x) = twos 16 x
literal_bits_of (U16 x) = x
literal_bits_of (I32 x) = twos 32 x
literal_bits_of (U32 x) = x
literal_bits_of (F16 x) = x
literal_bits_of (F32 x) = x
literal_bits_of (F64 x) = x
literal_bits_of (I64 x) = twos 64 x
literal_bits_of (U64 x) = x
literal_bits_of (AbstractInt x) = twos 64 x
literal_bits_of (AbstractFloat x) = x

abbrev pub words_of : Literal → List ℕ
words_of l = type_of l ∷ literal_bits_of l % 2 ^ 32 ∷ literal_bits_of l / 2 ^ 32 ∷ []
