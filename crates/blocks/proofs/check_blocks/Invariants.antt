use Rattle.std.proofs.Common.{◌≡◌, ℕ, List, take, Some}
use Rattle.arena.specs.Nodes.{nodes}
use Rattle.blocks.specs.Stack.{run, stack}
use Rattle.blocks.proofs.Faults.{start}
use Rattle.blocks.proofs.check_blocks.Given as goal

abbrev pub invariant-loop-i : goal.invariant-loop-i
invariant-loop-i l = (os : List ℕ) → run 64 start (take l.i (nodes l.records os)) ≡ Some (stack l.nest)
