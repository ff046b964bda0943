-- The walk over a module's entries.
use Rattle.std.specs.Prelude.{ℕ, cond, List, [], ◌∷◌, length, Some, None, Option, ◌==◌, slice_index}
use Rattle.arena.specs.Nodes.{Node}
use Rattle.ir.specs.Faults.{constant, overriding}
use Rattle.evaluator.specs.declared.expression_kind.ExpressionKind.{ExpressionKind}
use Rattle.evaluator.specs.declared.expression_kind.ExpressionKind.TheVariants.{Const, Override, Runtime}
use Rattle.evaluator.specs.ExpressionKinds.{type_of_node}
use Rattle.evaluator.specs.Verdicts.{Verdict, folds, declines, faults, Meaning}
use Rattle.walking.specs.declared.overrides.Valued.{Valued}
use Rattle.evaluator.specs.declared.tables.FullTable.{FullTable}
use Rattle.evaluator.specs.Tables.{full, adding}
use Rattle.walking.specs.States.{Room, State, Outcome, goes, stops, then, note_image, table_number, with_tables}
use Rattle.walking.specs.Images.{mapped, map_constant}
use Rattle.walking.specs.Overrides.{settle_up_to, settle_rest}

-- Before an entry of this kind with this number as its word 0: an Override is settled, with all before it, and a Constant mapped.
abbrev pub prepared : Room → List Valued → ℕ → ℕ → State → Outcome
prepared r os kind number s =
    cond (kind == overriding) (settle_up_to r os number s) (cond (kind == constant) (goes (map_constant number s)) (goes s))

-- The old handle is the number of images so far.
abbrev pub handle_of : State → ℕ
handle_of s = length s.images

-- An entry that was asked about has its answer, or is refused.
pub data Reply : Type 0 where
  answers : ℕ → State → Reply
  refuses : State → ℕ → List ℕ → Reply

abbrev pub answers_unless : Option FullTable → List Node → ℕ → State → Reply
answers_unless None es answer s = answers answer (with_tables (adding Const es s.tables) s)
answers_unless (Some t) es answer s = refuses s 17 (table_number s.tables.constants.globals t ∷ [])

-- what the folder says of an entry: a global one that it does not fold is refused
abbrev pub judged : Room → Verdict → State → Reply
judged r (folds es answer) s = answers_unless (full r.tables s.tables.entries s.tables.kinds es) es answer s
judged r declines s = refuses s 13 (handle_of s ∷ 0 ∷ 0 ∷ [])
judged r (faults layer code) s = refuses s 13 (handle_of s ∷ layer ∷ code ∷ [])

-- only a Const entry is asked about
abbrev pub asked_as : ExpressionKind → Meaning → Room → Node → State → Reply
asked_as Const m r e s = judged r (m s.tables e) s
asked_as Override m r e s = refuses s 14 (handle_of s ∷ [])
asked_as Runtime m r e s = refuses s 14 (handle_of s ∷ [])

abbrev pub asked : Meaning → Room → Node → State → Reply
asked m r e s = asked_as (type_of_node s.tables.kinds e) m r e s

-- the answer is the image of the old handle
abbrev pub noted : Room → Reply → Outcome
noted r (answers h s) = note_image r h s
noted r (refuses s code values) = stops s code values

-- the mapped entry is asked about
abbrev pub ask_mapped : Meaning → Room → Node → State → Outcome
ask_mapped m r e s = noted r (asked m r (mapped s e) s)

-- one entry
abbrev pub walk_one : Meaning → Room → List Valued → Node → State → Outcome
walk_one m r os e s = then (prepared r os e.kind (slice_index e.words 0) s) (ask_mapped m r e)

-- the entries in order
abbrev pub walk : Meaning → Room → List Valued → List Node → State → Outcome
walk m r os [] s = goes s
walk m r os (e ∷ es) s = then (walk_one m r os e s) (walk m r os es)

-- and then the overrides that no entry has settled
abbrev pub walk_all : Meaning → Room → List Valued → List Node → State → Outcome
walk_all m r os es s = then (walk m r os es s) (settle_rest r os)
