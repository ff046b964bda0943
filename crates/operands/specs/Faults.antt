-- What makes an operand wrong for an entry.
use Rattle.std.specs.Prelude.{ℕ, ◌-◌, Bool, true, false, cond, ◌&&◌, Some, None, Option, ◌==◌, nat_le, nat_lt}
use Rattle.std.specs.List.{slice_get}
use Rattle.kinds.specs.Kinds.{Row, expressions, slots_in_records, admitted, front_length_of, needed_slot_at}
use Rattle.arena.specs.declared.entry.Entry.{Entry}
use Rattle.operands.specs.declared.Sort.{Sort}
use Rattle.operands.specs.declared.Sort.TheVariants.{Expressions, Records}

-- the handle that stands for no handle
abbrev pub absent : ℕ
absent = 4294967295

-- the row of a kind in its table
abbrev pub slots_of : Sort → ℕ → Option Row
slots_of Expressions kind = slice_get expressions kind
slots_of Records kind = slots_in_records kind

-- operand s of so many may not be absent: it stands before those that have a slot, or its slot needs it
abbrev pub needed_at : Row → ℕ → ℕ → Bool
needed_at row n s = cond (nat_lt s (front_length_of row n)) true (needed_slot_at row (s - front_length_of row n))

-- the same of a kind that may be unknown or have another number of operands: then none is needed, since no operand has a slot
abbrev pub needed : Option Row → ℕ → ℕ → Bool
needed None n s = false
needed (Some row) n s = admitted row n && needed_at row n s

-- operand h in slot s of an entry is absent, and needed
abbrev pub lacking : Sort → Entry → ℕ → ℕ → Bool
lacking sort e s h = h == absent && needed (slots_of sort e.kind) e.run.len s

-- a handle that is not below the bound, unless it is absent and may be
abbrev pub out_of_range_of : Bool → ℕ → ℕ → Bool
out_of_range_of optional bound h = cond (optional && h == absent) false (nat_le bound h)
