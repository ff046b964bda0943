-- What the five sizes become.
use Rattle.std.specs.Prelude.{ℕ, ◌+◌, ◌-◌, cond, List, [], ◌∷◌, Some, None, Option, ◌==◌, nat_lt, option_and_then}
use Rattle.ir.specs.declared.tables.Size.{Size}
use Rattle.layers.specs.declared.values.Value.{Value}
use Rattle.layers.specs.Values.{behind}
use Rattle.walking.specs.States.{State}
use Rattle.walking.specs.Images.{image_of}

-- the types of the literals that may give a size
abbrev pub i32 : ℕ
i32 = 3

abbrev pub u32 : ℕ
u32 = 4

-- the numbers that a literal of this type may give a size lie below this: all of a U32's, and an I32's that are not negative
abbrev pub numbers_below : ℕ → ℕ
numbers_below type = cond (type == u32) 4294967296 (cond (type == i32) 2147483648 0)

-- the number that a literal is for a size
abbrev pub number_of : Value → Option ℕ
number_of v = cond (nat_lt v.bits (numbers_below v.ty)) (Some v.bits) None

-- the sizes at places 0 to 2, the workgroup's, are above zero
abbrev pub least_at : ℕ → ℕ
least_at at = cond (nat_lt at 3) 1 0

-- a number that is not below the least
abbrev pub admitted : ℕ → ℕ → Option ℕ
admitted least n = cond (nat_lt n least) None (Some n)

-- the number, not below the least, that the literal behind a handle's image gives
abbrev pub number_behind : State → ℕ → ℕ → Option ℕ
number_behind s least h = option_and_then (admitted least) (option_and_then number_of (behind s.tables (image_of s.images h)))

-- a size without a handle stays
abbrev pub size_by : State → ℕ → ℕ → Option ℕ → Option ℕ
size_by s least value None = Some value
size_by s least value (Some h) = number_behind s least h

-- the number of a size
abbrev pub size_at : State → ℕ → Size → Option ℕ
size_at s least z = size_by s least z.value z.handle

-- All five have their numbers, or the first that has none is refused.
pub data Sizing : Type 0 where
  sized : List Size → Sizing
  unsized : ℕ → List ℕ → Sizing

-- 15 with the axis of a workgroup's size, 16 with 0 for the vertices and 1 for the primitives
abbrev pub refused_at : ℕ → Sizing
refused_at at = cond (nat_lt at 3) (unsized 15 (at ∷ [])) (unsized 16 ((at - 3) ∷ []))

-- a size before those that come after it
abbrev pub before : Size → Sizing → Sizing
before z (sized zs) = sized (z ∷ zs)
before z (unsized code values) = unsized code values

-- a size keeps its handle
abbrev pub size_then : ℕ → Size → Option ℕ → Sizing → Sizing
size_then at z None rest = refused_at at
size_then at z (Some n) rest = before (record { value = n; handle = z.handle }) rest

-- the sizes from a place on
abbrev pub sizing : State → ℕ → List Size → Sizing
sizing s at [] = sized []
sizing s at (z ∷ zs) = size_then at z (size_at s (least_at at) z) (sizing s (at + 1) zs)
