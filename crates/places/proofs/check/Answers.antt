use Rattle.std.proofs.Common.{None, sym}
use Rattle.places.proofs.Kit.{clear_more, in_table, number_at}
use Rattle.places.proofs.check.Goals as goal

pub loop-table-preserved : goal.loop-table-preserved
loop-table-preserved g c =
    clear_more _ _ c.loop-table.invariant
    (in_table (g.F.Faults.at c.args.faults.now) (sym (number_at _ c.loop-table-test.true)) None c.in_default.ensures)
