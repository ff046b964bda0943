-- How the records of a body are rewritten, one after the other.
use Rattle.std.specs.Prelude.{ℕ, ◌+◌, cond, List, [], ◌∷◌, ◌++◌, length, nat_lt, nat_le}
use Rattle.arena.specs.Nodes.{Node, operand_total}
use Rattle.blocks.specs.Weave.{is_emit, emits}
use Rattle.places.specs.declared.TableName.{TableName}
use Rattle.places.specs.declared.TableName.TheVariants.{Records, RecordOperands}
use Rattle.walking.specs.Images.{images_of}
use Rattle.adjusting.specs.Emits.{kept, struck, emits_of}

-- how many records, and how many operands of theirs, there may be
pub record Room : Type 0 where
  pub records : ℕ
  pub operands : ℕ

-- The finished records so far, and how many handles they emit and how many were struck, every naming counted.
pub record State : Type 0 where
  pub records : List Node
  pub emitted : ℕ
  pub struck : ℕ

-- The rewriting goes on, or stops at a table that has no room for the next item. What was written by then stays.
pub data Outcome : Type 0 where
  goes : State → Outcome
  full : State → TableName → Outcome

-- one after the other
abbrev pub then : Outcome → (State → Outcome) → Outcome
then (goes s) f = f s
then (full s table) f = full s table

-- ---- one record

-- one record more
abbrev pub with_record : Node → State → State
with_record n s = record { records = s.records ++ n ∷ []; emitted = s.emitted; struck = s.struck }

-- a record at the end; or the first table, by number, that has no room for it and its operands
abbrev pub add : Room → Node → State → Outcome
add r n s =
    cond (nat_lt (length s.records) r.records)
    (cond (nat_le (operand_total s.records + length n.operands) r.operands) (goes (with_record n s)) (full s RecordOperands))
    (full s Records)

-- several, in order
abbrev pub add_all : Room → List Node → State → Outcome
add_all r [] s = goes s
add_all r (n ∷ ns) s = then (add r n s) (add_all r ns)

-- so many handles are emitted, and so many struck
abbrev pub counting : ℕ → ℕ → State → State
counting e k s = record { records = s.records; emitted = s.emitted + e; struck = s.struck + k }

-- a record with its operands sent to their images
abbrev pub adjusted : List ℕ → Node → Node
adjusted images n = record { kind = n.kind; words = n.words; operands = images_of images n.operands; span = n.span }

-- The records that a record becomes: itself, adjusted; of an Emit one for each longest stretch of what it still emits.
abbrev pub finished : List ℕ → List Node → Node → List Node
finished images fs n = cond (is_emit n) (emits_of images fs n) (adjusted images n ∷ [])

-- how many handles these emit, and how many were struck
abbrev pub emits_now : List ℕ → List Node → Node → ℕ
emits_now images fs n = cond (is_emit n) (length (kept images fs (emits n))) 0

abbrev pub strikes_now : List ℕ → List Node → Node → ℕ
strikes_now images fs n = cond (is_emit n) (struck images fs (emits n)) 0

-- these are written, and then counted
abbrev pub adjust_record : Room → List ℕ → List Node → Node → State → Outcome
adjust_record r images fs n s =
    then (add_all r (finished images fs n) s) (λ t. goes (counting (emits_now images fs n) (strikes_now images fs n) t))

-- ---- all of them

-- the records in order
abbrev pub adjust_records : Room → List ℕ → List Node → List Node → State → Outcome
adjust_records r images fs [] s = goes s
adjust_records r images fs (n ∷ ns) s = then (adjust_record r images fs n s) (adjust_records r images fs ns)

-- nothing written
abbrev pub none_yet : State
none_yet = record { records = []; emitted = 0; struck = 0 }
