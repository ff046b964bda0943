use Rattle.adjusting.proofs.Stretches.{longest_stretches}
use Rattle.adjusting.proofs.body.stretches_stand.Goals as goal

pub returns : goal.returns
returns c = longest_stretches
