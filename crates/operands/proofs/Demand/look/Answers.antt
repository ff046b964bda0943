use Rattle.std.proofs.Common.{arith}
use Rattle.operands.proofs.Looking.{looking_next, looking_end}
use Rattle.operands.proofs.Demand.look.Goals as goal

pub loop-place-preserved : goal.loop-place-preserved
loop-place-preserved c =
    looking_next c.args.self c.args.index c.args.from c.args.to c.args.operands.now c.args.reach.now c.loop-place.reach
    c.loop-place.place c.loop-place.found c.loop-place.invariant _ _ _ _ c.max.ensures c.max-place.ensures c.fault_at.ensures c.lesser-found.ensures
    c.loop-place-test.true (omega arith)

pub returns : goal.returns
returns c = looking_end _ _ _ _ _ _ _ _ _ c.loop-place-test.false c.loop-place.invariant
