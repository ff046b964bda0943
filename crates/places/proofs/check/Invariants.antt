use Rattle.places.proofs.Kit.{Clear}
use Rattle.places.proofs.check.Given as goal

abbrev pub invariant-loop-table : goal.invariant-loop-table
invariant-loop-table g l = Clear (g.F.Faults.at l.faults) l.table-index
