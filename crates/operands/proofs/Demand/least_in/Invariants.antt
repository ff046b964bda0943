use Rattle.operands.proofs.Fronts.{Walked}
use Rattle.operands.proofs.Demand.least_in.Given as goal

abbrev pub invariant-loop-i : goal.invariant-loop-i
invariant-loop-i l = Walked l.self l.entries l.operands l.i l.reach l.found
