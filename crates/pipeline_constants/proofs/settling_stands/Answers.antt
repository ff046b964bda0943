use Rattle.pipeline_constants.proofs.Once.{settles_once}
use Rattle.pipeline_constants.proofs.settling_stands.Goals as goal

pub returns : goal.returns
returns c = record { once = settles_once }
