use Rattle.places.proofs.Kit.{limited_or}
use Rattle.operands.proofs.Wrongs.{least_of_both, wrong_cut}
use Rattle.operands.proofs.least_lacking.Goals as goal

pub returns : goal.returns
returns c =
    rw c.or.ensures
    (limited_or _ _ _ _ (wrong_cut _ 262144 c.args.entries.now c.args.operands.now) _ _
    (least_of_both c.args.sort 262144 c.args.entries.now c.args.operands.now _ _ _ _ c.least-front.ensures c.up_to.ensures c.least_tail-tail.ensures c.lesser.ensures)
    c.over.ensures)
