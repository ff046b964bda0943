-- What a walk over entries writes, and where it stops.
use Rattle.std.specs.Prelude.{ℕ, cond, List, [], ◌∷◌, ◌++◌, length, Some, None, Option, nat_lt}
use Rattle.arena.specs.Nodes.{Node}
use Rattle.evaluator.specs.declared.expression_kind.ExpressionKind.{ExpressionKind}
use Rattle.evaluator.specs.declared.tables.NewConstant.{NewConstant}
use Rattle.evaluator.specs.declared.tables.FullTable.{FullTable}
use Rattle.evaluator.specs.declared.tables.FullTable.TheVariants.{Entries, Operands, Kinds}
use Rattle.evaluator.specs.Tables.{Constants, Tables, full, adding}
use Rattle.evaluator.specs.Tables

-- how many items each table takes
pub record Room : Type 0 where
  pub tables : Tables.Room
  pub constants : ℕ
  pub images : ℕ
  pub settled : ℕ

-- The finished tables so far, the image of each old handle, and the constant of each override that is settled.
pub record State : Type 0 where
  pub tables : Tables
  pub images : List ℕ
  pub settled : List ℕ

-- A walk goes on, or stops with a refusal: its number and its values. What was written by then stays.
pub data Outcome : Type 0 where
  goes : State → Outcome
  stops : State → ℕ → List ℕ → Outcome

abbrev pub then : Outcome → (State → Outcome) → Outcome
then (goes s) f = f s
then (stops s code values) f = stops s code values

-- refusal 17, of a table
abbrev pub no_room : State → ℕ → Outcome
no_room s table = stops s 17 (table ∷ [])

-- on where there is room for one item more
abbrev pub if_room : ℕ → ℕ → ℕ → State → Outcome → Outcome
if_room held limit table s o = cond (nat_lt held limit) o (no_room s table)

-- ---- entries

-- the numbers of the tables of a module's entries and of a body's, which reads the module's
abbrev pub table_number : Option (List Node) → FullTable → ℕ
table_number None Entries = 0
table_number None Operands = 1
table_number (Some gs) Entries = 5
table_number (Some gs) Operands = 6
table_number gs Kinds = 14

abbrev pub with_tables : Tables → State → State
with_tables t s = record { tables = t; images = s.images; settled = s.settled }

abbrev pub add_unless : Option FullTable → ExpressionKind → List Node → State → Outcome
add_unless None k es s = goes (with_tables (adding k es s.tables) s)
add_unless (Some t) k es s = no_room s (table_number s.tables.constants.globals t)

-- entries of one kind at the end of the table, or 17 with the first table that has no room for them
abbrev pub add : Room → ExpressionKind → List Node → State → Outcome
add r k es s = add_unless (full r.tables s.tables.entries s.tables.kinds es) k es s

-- ---- images

abbrev pub with_image : ℕ → State → State
with_image h s = record { tables = s.tables; images = s.images ++ h ∷ []; settled = s.settled }

-- the image of the next old handle
abbrev pub note_image : Room → ℕ → State → Outcome
note_image r h s = if_room (length s.images) r.images 12 s (goes (with_image h s))

-- ---- constants

abbrev pub with_constants : List NewConstant → State → State
with_constants cs s =
    with_tables (record {
      entries = s.tables.entries;
      kinds = s.tables.kinds;
      constants = record { list = cs; globals = s.tables.constants.globals };
    }) s
