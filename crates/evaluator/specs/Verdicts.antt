-- What a folder says of an entry, and what asking it answers and leaves.
use Rattle.std.specs.Prelude.{ℕ, List, Some, None, Ok, Err, Option, Result}
use Rattle.arena.specs.Nodes.{Node}
use Rattle.evaluator.specs.declared.expression_kind.ExpressionKind.TheVariants.{Const}
use Rattle.evaluator.specs.declared.folder.Fault.{Fault}
use Rattle.evaluator.specs.declared.folder.Fault.TheVariants.{Layer, Full}
use Rattle.evaluator.specs.declared.tables.FullTable.{FullTable}
use Rattle.evaluator.specs.Tables.{Room, Tables, full, adding}

-- these entries are added, and this handle is the answer; or the entry is not folded; or a layer faults with a code
pub data Verdict : Type 0 where
  folds : List Node → ℕ → Verdict
  declines : Verdict
  faults : ℕ → ℕ → Verdict

-- what a folder says, over the tables as they stand, of an entry whose operands are mapped
abbrev pub Meaning : Type 0
Meaning = Tables → Node → Verdict

-- an answer where there is room, and else the table that is full
abbrev pub unless_full : {A : Type 0} → Option FullTable → A → Result A Fault
unless_full None a = Ok a
unless_full (Some table) a = Err (Full table)

abbrev pub unless_full_tables : Option FullTable → Tables → Tables → Tables
unless_full_tables None after before = after
unless_full_tables (Some table) after before = before

-- what asking answers
abbrev pub answered : Room → Tables → Verdict → Result (Option ℕ) Fault
answered r t (folds es answer) = unless_full (full r t.entries t.kinds es) (Some answer)
answered r t declines = Ok None
answered r t (faults layer code) = Err (Layer layer code)

-- and what it leaves
abbrev pub left : Room → Tables → Verdict → Tables
left r t (folds es answer) = unless_full_tables (full r t.entries t.kinds es) (adding Const es t) t
left r t declines = t
left r t (faults layer code) = t
