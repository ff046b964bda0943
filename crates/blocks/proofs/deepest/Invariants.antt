use Rattle.std.proofs.Common.{ℕ, ◌≤◌, List}
use Rattle.arena.specs.Nodes.{nodes}
use Rattle.blocks.proofs.Depths.{Counts}
use Rattle.blocks.proofs.deepest.Given as goal

abbrev pub invariant-loop-record : goal.invariant-loop-record
invariant-loop-record l =
    (l.opened ≤ l.record-index) × (l.closed ≤ l.record-index) × ((os : List ℕ) → Counts (nodes l.records os) l.record-index l.opened l.closed l.deepest)
