-- The tables as the program holds them.
use Rattle.std.specs.Prelude.{◌≡◌, ℕ, List, [], ◌∷◌, ◌++◌, length, Some, None, Ok, Err, Result, option_map}
use Rattle.arena.specs.Nodes.{Node, nodes}
use Rattle.arena.specs.Appends.{nodes_of, entry_limit, operand_limit}
use Rattle.arena.specs.Held.{held, slots}
use Rattle.arena.specs.declared.arena.Arena.{Arena}
use Rattle.evaluator.specs.declared.expression_kind.ExpressionKind.{ExpressionKind}
use Rattle.evaluator.specs.declared.expression_kind.ExpressionKindTracker.{ExpressionKindTracker}
use Rattle.evaluator.specs.Tables.{Constants, Tables, Room, full, kinds_for}
use Rattle.evaluator.specs.declared.tables.Nodes.{Nodes}
use Rattle.evaluator.specs.declared.tables.Constants.{Constants as Shown}
use Rattle.evaluator.specs.declared.tables.Tables.{Tables as Built}
use Rattle.evaluator.specs.declared.tables.Asked.{Asked}
use Rattle.evaluator.specs.declared.tables.FullTable.{FullTable}

-- the entry that is asked about
abbrev pub node_of : Asked → Node
node_of a = record { kind = a.kind; words = a.words; operands = a.operands.now; span = a.span }

-- the nodes that lie in slices
abbrev pub nodes_in : Nodes → List Node
nodes_in n = nodes n.entries.now n.operands.now

abbrev pub constants_of : Shown → Constants
constants_of c = record { list = c.list.now; globals = option_map nodes_in c.globals }

-- the tables as a folder sees them, of an arena and a tracker
abbrev pub tables_in : Constants → Arena → ExpressionKindTracker → Tables
tables_in c a k = record { entries = nodes_of a; kinds = held k.inner; constants = c }

abbrev pub room_in : Arena → ExpressionKindTracker → Room
room_in a k = record { entries = entry_limit a; operands = operand_limit a; kinds = length (slots k.inner) }

-- the same of both together
abbrev pub expressions_of : Built → List Node
expressions_of t = nodes_of t.expressions.now

abbrev pub kinds_of : Built → List ExpressionKind
kinds_of t = held t.expression_kind_tracker.now.inner

abbrev pub tables_of : Constants → Built → Tables
tables_of c t = tables_in c t.expressions.now t.expression_kind_tracker.now

abbrev pub room_of : Built → Room
room_of t = room_in t.expressions.now t.expression_kind_tracker.now

-- the arena and the tracker are those that were lent, and so are the tracker's slots
abbrev pub SameLenders : Built → Built → Type 0
SameLenders a b =
    (b.expressions.ghost_name ≡ a.expressions.ghost_name)
    × (b.expression_kind_tracker.ghost_name ≡ a.expression_kind_tracker.ghost_name)
    × (b.expression_kind_tracker.now.inner.slots.ghost_name ≡ a.expression_kind_tracker.now.inner.slots.ghost_name)

-- b and l are what a and k became by these entries of this kind, in the same room
pub record Added (kind : ExpressionKind) (es : List Node) (a : Arena) (k : ExpressionKindTracker) (b : Arena) (l : ExpressionKindTracker) : Type 0 where
  pub entries : nodes_of b ≡ nodes_of a ++ es
  pub kinds : held l.inner ≡ held k.inner ++ kinds_for kind es
  pub room : room_in b l ≡ room_in a k

-- b and l hold what a and k hold, in the same room
pub record Kept (a : Arena) (k : ExpressionKindTracker) (b : Arena) (l : ExpressionKindTracker) : Type 0 where
  pub entries : nodes_of b ≡ nodes_of a
  pub kinds : held l.inner ≡ held k.inner
  pub room : room_in b l ≡ room_in a k

-- what appending an entry answers, and what it makes of an arena and a tracker
abbrev pub AppendedIn : ExpressionKind → Node → Arena → ExpressionKindTracker → Arena → ExpressionKindTracker → Result ℕ FullTable → Type 0
AppendedIn kind n a k b l (Ok h) =
    (h ≡ length (nodes_of a)) × (full (room_in a k) (nodes_of a) (held k.inner) (n ∷ []) ≡ None) × Added kind (n ∷ []) a k b l
AppendedIn kind n a k b l (Err t) = (full (room_in a k) (nodes_of a) (held k.inner) (n ∷ []) ≡ Some t) × Kept a k b l

abbrev pub Appended : ExpressionKind → Node → Built → Built → Result ℕ FullTable → Type 0
Appended kind n a b r =
    AppendedIn kind n a.expressions.now a.expression_kind_tracker.now b.expressions.now b.expression_kind_tracker.now r
