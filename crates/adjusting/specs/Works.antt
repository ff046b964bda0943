-- The tables as the program holds them while it rewrites records.
use Rattle.std.specs.Prelude.{◌≡◌, ℕ, min, List, Ok, Err, Result}
use Rattle.arena.specs.declared.entry.Entry.{Entry}
use Rattle.arena.specs.declared.table.Table.{Table}
use Rattle.arena.specs.Items.{items, limit, Stays}
use Rattle.arena.specs.Nodes.{Node, nodes}
use Rattle.arena.specs.Appends.{nodes_of}
use Rattle.refusals.specs.declared.Refusal.{Refusal}
use Rattle.refusals.specs.declared.Refusal.TheVariants.{Full}
use Rattle.adjusting.specs.declared.work.Inputs.{Inputs}
use Rattle.adjusting.specs.declared.work.Work.{Work}
use Rattle.adjusting.specs.Rules.{Room, State, Outcome, goes, full}

-- ---- what is read

-- the old records
abbrev pub records_of : Inputs → List Node
records_of i = nodes i.records.now i.operands.now

-- the new entries
abbrev pub entries_of : Inputs → List Node
entries_of i = nodes_of i.entries.now

-- ---- what is written

-- the room of two tables: the place of an operand has 32 bits
abbrev pub room_for : Table Entry → Table ℕ → Room
room_for records operands = record { records = limit records; operands = min (limit operands) 4294967295 }

-- the room of the tables that a work writes
abbrev pub room_of : Work → Room
room_of w = room_for w.records.now w.operands.now

-- the records that it has written
abbrev pub written_of : Work → List Node
written_of w = nodes (items w.records.now) (items w.operands.now)

-- these, and what it has counted
abbrev pub state_of : Work → State
state_of w = record { records = written_of w; emitted = w.emitted; struck = w.struck }

-- what is read stays, and the tables are those that were lent, with the limits and the memory that they had
pub record Lenders (a b : Work) : Type 0 where
  pub inputs : b.inputs ≡ a.inputs
  pub records : b.records.ghost_name ≡ a.records.ghost_name
  pub operands : b.operands.ghost_name ≡ a.operands.ghost_name
  pub records_stay : Stays a.records.now b.records.now
  pub operands_stay : Stays a.operands.now b.operands.now

-- a step that goes on is answered by Ok, and one that stops by refusal 17 with its table; the tables are as the rules have them
abbrev pub Went : {A : Type 0} → Outcome → State → Result A Refusal → Type 0
Went (goes s) t (Ok _) = t ≡ s
Went (goes s) t (Err _) = ⊥
Went (full s table) t (Ok _) = ⊥
Went (full s table) t (Err e) = (t ≡ s) × (e ≡ Full table)

-- what a step made of a, in the same room
pub record Stepped {A : Type 0} (o : Room → State → Outcome) (a b : Work) (r : Result A Refusal) : Type 0 where
  pub went : Went (o (room_of a) (state_of a)) (state_of b) r
  pub next : b.next ≡ a.next
  pub room : room_of b ≡ room_of a
  pub lenders : Lenders a b
