-- What makes an entry, a record or an override bad.
use Rattle.std.specs.Prelude.{ℕ, ◌+◌, ◌-◌, ◌*◌, ◌^◌, Bool, true, false, cond, not, ◌&&◌, ◌||◌, List, [], ◌∷◌, length, Some, None, Option, ◌==◌, nat_le, nat_lt, slice_index, slice_index_or}
use Rattle.std.specs.List.{slice_get}
use Rattle.kinds.specs.Kinds.{Row, admitted}
use Rattle.operands.specs.declared.Sort.{Sort}
use Rattle.operands.specs.Faults.{slots_of}
use Rattle.arena.specs.declared.entry.Entry.{Entry}
use Rattle.arena.specs.declared.entry.Run.{Run}
use Rattle.ir.specs.declared.tables.Constant.{Constant}

-- a run ends past n
abbrev pub outside : ℕ → Run → Bool
outside n r = nat_lt n (r.at + r.len)

-- the kind is unknown, or has another number of operands
abbrev pub wrong_count : Option Row → ℕ → Bool
wrong_count None n = true
wrong_count (Some row) n = not (admitted row n)

-- an entry over n operands: unknown kind, wrong number of operands, run outside its list
abbrev pub misshapen : Sort → ℕ → Entry → Bool
misshapen sort n e = wrong_count (slots_of sort e.kind) e.run.len || outside n e.run

-- the run of an override's name lies outside n name bytes
abbrev pub name_outside : ℕ → Option Run → Bool
name_outside n None = false
name_outside n (Some r) = outside n r

-- how many bits each type of literal has: Bool, I16, U16, I32, U32, F16, F32, F64, I64, U64, AbstractInt, AbstractFloat
abbrev pub widths : List ℕ
widths = 1 ∷ 16 ∷ 16 ∷ 32 ∷ 32 ∷ 16 ∷ 32 ∷ 64 ∷ 64 ∷ 64 ∷ 64 ∷ 64 ∷ []

abbrev pub wider : Option ℕ → ℕ → Bool
wider None n = true
wider (Some w) n = nat_lt (2 ^ w - 1) n

-- a literal of unknown type, or with bits above its width
abbrev pub malformed : ℕ → ℕ → ℕ → Bool
malformed type low high = wider (slice_get widths type) (low + 4294967296 * high)

abbrev pub word : Entry → ℕ → ℕ
word e i = slice_index e.words i

-- the kinds whose words are read, by number
abbrev pub literal : ℕ
literal = 18

abbrev pub constant : ℕ
constant = 24

abbrev pub overriding : ℕ
overriding = 25

abbrev pub emit : ℕ
emit = 0

-- the entry at i names constant c of these, whose init is not below it
abbrev pub init_not_below : List Constant → ℕ → ℕ → Bool
init_not_below constants i c = nat_le i (slice_index_or constants c (record { init = 0 })).init

-- The expression at i is a malformed literal, or names a constant or an override that is not there, or is global and names a constant
-- whose init is not below it.
unfoldable pub misnamed : List Constant → ℕ → Bool → ℕ → Entry → Bool
misnamed constants overrides global i e =
    cond (e.kind == literal) (malformed (word e 0) (word e 1) (word e 2))
    (cond (e.kind == constant) (cond (nat_lt (word e 0) (length constants)) (global && init_not_below constants i (word e 0)) true)
    (cond (e.kind == overriding) (nat_le overrides (word e 0)) false))

-- there is a handle, and it is not below n
abbrev pub past : ℕ → Option ℕ → Bool
past n None = false
past n (Some h) = nat_le n h

-- an Emit that is not empty ends past n entries
abbrev pub emits_past : ℕ → Entry → Bool
emits_past n e = e.kind == emit && (nat_lt (word e 0) (word e 1) && nat_lt n (word e 1))

-- an override has neither id nor name
abbrev pub nameless : Option ℕ → Option Run → Bool
nameless (Some i) n = false
nameless None (Some r) = false
nameless None None = true
