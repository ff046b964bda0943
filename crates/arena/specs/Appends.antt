-- What an `Arena` holds, and what is appended to it.
use Rattle.std.specs.Prelude.{◌≡◌, ℕ, ◌+◌, ◌<◌, ◌≤◌, ◌⊎◌, List, [], ◌∷◌, ◌++◌, length, Ok, Err, Result}
use Rattle.arena.specs.Items.{items, limit, memory}
use Rattle.arena.specs.Nodes.{Node, nodes, operand_total}
use Rattle.arena.specs.declared.entry.Entry.{Entry}
use Rattle.arena.specs.declared.table.Table.{Table}
use Rattle.arena.specs.declared.arena.Arena.{Arena}
use Rattle.arena.specs.declared.arena.FullTable.{FullTable}
use Rattle.arena.specs.declared.arena.FullTable.TheVariants.{Entries, Operands}

-- the entries, by handle
abbrev pub entries_of : Arena → List Entry
entries_of a = items a.entries

-- the list that their runs lie in
abbrev pub operands_of : Arena → List ℕ
operands_of a = items a.operands

-- the nodes, by handle: all that the rest of the subject reads of an arena
abbrev pub nodes_of : Arena → List Node
nodes_of a = nodes (entries_of a) (operands_of a)

-- how many entries, and how many operands, there may be
abbrev pub entry_limit : Arena → ℕ
entry_limit a = limit a.entries

abbrev pub operand_limit : Arena → ℕ
operand_limit a = limit a.operands

-- both limits stay
abbrev pub SameLimits : Arena → Arena → Type 0
SameLimits a b = (entry_limit b ≡ entry_limit a) × (operand_limit b ≡ operand_limit a)

-- the first table that has no room for one node more
abbrev pub NoRoomFor : Node → Arena → FullTable → Type 0
NoRoomFor n a Entries = length (nodes_of a) ≡ entry_limit a
NoRoomFor n a Operands =
    (length (nodes_of a) < entry_limit a) × (operand_limit a < operand_total (nodes_of a) + length n.operands)

-- a took the node n for its next handle, h, and became b
pub record Took (n : Node) (h : ℕ) (a b : Arena) : Type 0 where
  pub handle : h ≡ length (nodes_of a)
  pub nodes : nodes_of b ≡ nodes_of a ++ n ∷ []
  pub entries : length (nodes_of a) < entry_limit a
  pub operands : operand_total (nodes_of a) + length n.operands ≤ operand_limit a

-- what `append` of a node answers, and what it makes of a
abbrev pub Appended : Node → Arena → Arena → Result ℕ FullTable → Type 0
Appended n a b (Ok h) = Took n h a b
Appended n a b (Err t) = NoRoomFor n a t × (b ≡ a)

-- a table of these two may hold more than a handle can number
abbrev pub TooLarge : Table Entry → Table ℕ → Type 0
TooLarge es os = (4294967295 < limit es) ⊎ (4294967295 < limit os)

-- a is an arena with no entry, with the limits and the memory of these two tables
pub record Over (es : Table Entry) (os : Table ℕ) (a : Arena) : Type 0 where
  pub nodes : nodes_of a ≡ []
  pub entries : entry_limit a ≡ limit es
  pub operands : operand_limit a ≡ limit os
  pub entry_memory : memory a.entries ≡ memory es
  pub operand_memory : memory a.operands ≡ memory os
  pub small : (entry_limit a ≤ 4294967295) × (operand_limit a ≤ 4294967295)
