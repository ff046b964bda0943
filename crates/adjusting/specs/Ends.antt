-- How the rewriting of a body's records ends.
use Rattle.std.specs.Prelude.{◌≡◌, ℕ, ◌⊎◌, ◌==◌, List, length, MatchBool, Ok, Err, Result}
use Rattle.arena.specs.declared.entry.Entry.{Entry}
use Rattle.arena.specs.declared.table.Table.{Table}
use Rattle.arena.specs.Items.{items}
use Rattle.arena.specs.Nodes.{Node, nodes}
use Rattle.blocks.specs.Blocks.{Fault}
use Rattle.places.specs.First.{Over}
use Rattle.refusals.specs.declared.Refusal.{Refusal}
use Rattle.refusals.specs.declared.Refusal.TheVariants.{Full}
use Rattle.refusals.specs.Codes.{Faulty, FirstOf}
use Rattle.adjusting.specs.declared.emits.Counts.{Counts}
use Rattle.adjusting.specs.declared.work.Inputs.{Inputs}
use Rattle.adjusting.specs.Rules.{Room, Outcome, goes, full, adjust_records, none_yet}
use Rattle.adjusting.specs.Works.{entries_of, records_of, room_for}

-- ---- before anything is written

-- 3 applies at the limit of the table of records, 7, where it holds more
abbrev pub over_limit : List Node → ℕ → ℕ → Type 0
over_limit rs table k = MatchBool (table == 7) (Over 65536 (length rs) k) ⊥

-- and 5 at each number of the records that is at fault
abbrev pub RecordFaults : List Node → Refusal → Type 0
RecordFaults rs = Faulty (over_limit rs) (λ _ _. ⊥) (Fault rs) (λ _. ⊥)

-- no such refusal applies
abbrev pub Accepted : List Node → Type 0
Accepted rs = (r : Refusal) → RecordFaults rs r → ⊥

-- ---- how it ends

-- what the rules make of the records, with room for so many
abbrev pub adjusted_body : Inputs → Room → Outcome
adjusted_body i r = adjust_records r i.images.now (entries_of i) (records_of i) none_yet

-- the records that the two tables hold
abbrev pub held : Table Entry → Table ℕ → List Node
held records operands = nodes (items records) (items operands)

-- the rules stop at a full table, having written these records
abbrev pub Stops : Outcome → List Node → Refusal → Type 0
Stops (goes s) ns e = ⊥
Stops (full s table) ns e = (ns ≡ s.records) × (e ≡ Full table)

-- the rules come to this answer, having written these records
abbrev pub Came : Outcome → List Node → Result Counts Refusal → Type 0
Came o ns (Ok c) = o ≡ goes (record { records = ns; emitted = c.emitted; struck = c.struck })
Came o ns (Err e) = Stops o ns e

-- all is written and counted
pub record Finished (i : Inputs) (r : Room) (ns : List Node) (c : Counts) : Type 0 where
  pub accepted : Accepted (records_of i)
  pub is : adjusted_body i r ≡ goes (record { records = ns; emitted = c.emitted; struck = c.struck })

-- a table is full, and what was written by then stays
pub record Stopped (i : Inputs) (r : Room) (ns : List Node) (e : Refusal) : Type 0 where
  pub accepted : Accepted (records_of i)
  pub stops : Stops (adjusted_body i r) ns e

-- the first refusal that applies to the records, and nothing is written
pub record Refused (i : Inputs) (a : Table Entry) (b : Table ℕ) (c : Table Entry) (d : Table ℕ) (e : Refusal) : Type 0 where
  pub first : FirstOf (RecordFaults (records_of i)) (Err e)
  pub records : c ≡ a
  pub operands : d ≡ b

-- the rewriting of records into the tables a and b, which it made c and d
abbrev pub Ended : Inputs → Table Entry → Table ℕ → Table Entry → Table ℕ → Result Counts Refusal → Type 0
Ended i a b c d (Ok counts) = Finished i (room_for a b) (held c d) counts
Ended i a b c d (Err e) = Refused i a b c d e ⊎ Stopped i (room_for a b) (held c d) e
