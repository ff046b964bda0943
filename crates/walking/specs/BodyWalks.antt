-- The walk over a body's entries, over a settled module.
use Rattle.std.specs.Prelude.{List, [], ◌∷◌, length, Some, None, Option}
use Rattle.arena.specs.Nodes.{Node}
use Rattle.evaluator.specs.declared.expression_kind.ExpressionKind.{ExpressionKind}
use Rattle.evaluator.specs.declared.expression_kind.ExpressionKind.TheVariants.{Const, Override, Runtime}
use Rattle.evaluator.specs.ExpressionKinds.{type_of_node}
use Rattle.evaluator.specs.Verdicts.{Verdict, folds, declines, faults, Meaning}
use Rattle.evaluator.specs.declared.tables.FullTable.{FullTable}
use Rattle.evaluator.specs.Tables.{full, adding}
use Rattle.walking.specs.States.{Room, State, Outcome, goes, then, table_number, with_tables}
use Rattle.walking.specs.Images.{mapped}
use Rattle.walking.specs.Walks.{Reply, answers, refuses, handle_of, answers_unless, noted}

abbrev pub kept_unless : Option FullTable → Node → State → Reply
kept_unless None e s = answers (length s.tables.entries) (with_tables (adding Runtime (e ∷ []) s.tables) s)
kept_unless (Some t) e s = refuses s 17 (table_number s.tables.constants.globals t ∷ [])

-- An entry stands for itself: it comes to the end of the table, as Runtime.
abbrev pub kept : Room → Node → State → Reply
kept r e s = kept_unless (full r.tables s.tables.entries s.tables.kinds (e ∷ [])) e s

-- what the folder says of an entry: one that it declines is kept
abbrev pub body_judged : Room → Node → Verdict → State → Reply
body_judged r e (folds es answer) s = answers_unless (full r.tables s.tables.entries s.tables.kinds es) es answer s
body_judged r e declines s = kept r e s
body_judged r e (faults layer code) s = refuses s 13 (handle_of s ∷ layer ∷ code ∷ [])

-- only a Const entry is asked about, and any other is kept
abbrev pub body_asked_as : ExpressionKind → Meaning → Room → Node → State → Reply
body_asked_as Const m r e s = body_judged r e (m s.tables e) s
body_asked_as Override m r e s = kept r e s
body_asked_as Runtime m r e s = kept r e s

unfoldable pub body_asked : Meaning → Room → Node → State → Reply
body_asked m r e s = body_asked_as (type_of_node s.tables.kinds e) m r e s

-- one entry: what stands for the mapped entry is the image of the old handle
abbrev pub body_one : Meaning → Room → Node → State → Outcome
body_one m r e s = noted r (body_asked m r (mapped s e) s)

-- the entries in order
abbrev pub body_walk : Meaning → Room → List Node → State → Outcome
body_walk m r [] s = goes s
body_walk m r (e ∷ es) s = then (body_one m r e s) (body_walk m r es)
