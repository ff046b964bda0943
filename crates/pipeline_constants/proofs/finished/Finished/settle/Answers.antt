use Rattle.pipeline_constants.proofs.Walked.{ending}
use Rattle.pipeline_constants.proofs.finished.Finished.settle.Goals as goal

pub returns-clause-ended : goal.returns-clause-ended
returns-clause-ended g c =
    ending c.args.source.now c.args.sizes.now c.args.values.now _ _ c.begin.new.self c.walk-finished.result.0 c.close-sized.new.self c.walk-finished.result.1
    c.close-sized.result c.begin.ensures c.walk-finished.ensures.walked c.close-sized.ensures
