use Rattle.std.proofs.lemmas.Option.{slice_get-get_or}
use Rattle.operands.proofs.Fronts.{walked_start, walked_more, walked_end}
use Rattle.operands.proofs.Demand.least_in.Goals as goal

pub loop-i-init : goal.loop-i-init
loop-i-init c = walked_start _ _ _ _ c.requires.fresh

pub loop-i-preserved : goal.loop-i-preserved
loop-i-preserved c =
    walked_more c.args.self c.args.entries.now c.args.operands.now c.loop-i.i _ (slice_get-get_or c.args.entries.now c.loop-i.i _ c.loop-i-test.true)
    c.end_of-to.result c.end_of-to.ensures c.loop-i.reach c.look-here.new.reach c.loop-i.found c.look-here.result c.loop-i.invariant c.look-here.ensures
    c.lesser-found.result c.lesser-found.ensures

pub returns : goal.returns
returns c = walked_end _ _ _ _ _ _ c.loop-i-test.false c.loop-i.invariant
