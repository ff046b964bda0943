use Rattle.std.proofs.Common.{◌-◌}
use Rattle.operands.proofs.Looking.{Looking}
use Rattle.operands.proofs.Demand.look.Given as goal

abbrev pub invariant-loop-place : goal.invariant-loop-place
invariant-loop-place l = Looking l.self l.index l.from l.to l.operands l.initial.reach l.reach l.place l.found

abbrev pub decreases-loop-place : goal.decreases-loop-place
decreases-loop-place l = l.to - l.place
