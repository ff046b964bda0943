-- What entries say, wherever their operands lie.
use Rattle.std.specs.Prelude.{◌≡◌, ℕ, ◌+◌, ◌≤◌, List, map, length, take, drop, Some, Option}
use Rattle.std.specs.List.{slice_get, sum_by}
use Rattle.std.specs.Option.{option_map, option_flatten}
use Rattle.arena.specs.declared.entry.Run.{Run}
use Rattle.arena.specs.declared.entry.Span.{Span}
use Rattle.arena.specs.declared.entry.Entry.{Entry}

-- an entry with its operands in hand
pub record Node : Type 0 where
  pub kind : ℕ
  pub words : List ℕ
  pub operands : List ℕ
  pub span : Span

-- the operands that lie in a run
abbrev pub cut : Run → List ℕ → List ℕ
cut r os = take r.len (drop r.at os)

-- an entry with these operands
abbrev pub node_with : Entry → List ℕ → Node
node_with e os = record { kind = e.kind; words = e.words; operands = os; span = e.span }

-- an entry with the operands of its run
abbrev pub node : List ℕ → Entry → Node
node os e = node_with e (cut e.run os)

-- the nodes of entries over their operand list
abbrev pub nodes : List Entry → List ℕ → List Node
nodes es os = map (node os) es

-- the operand at a slot of the node h, if there is one
abbrev pub operand_at : List Node → ℕ → ℕ → Option ℕ
operand_at ns h slot = option_flatten (option_map (λ n. slice_get n.operands slot) (slice_get ns h))

-- how many operands nodes have in all
abbrev pub operand_total : List Node → ℕ
operand_total ns = sum_by (λ n. length n.operands) ns

-- no run reaches past the end of n operands
abbrev pub Within : List Entry → ℕ → Type 0
Within es n = (k : ℕ) (e : Entry) → slice_get es k ≡ Some e → e.run.at + e.run.len ≤ n
