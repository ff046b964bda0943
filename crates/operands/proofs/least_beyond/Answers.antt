use Rattle.operands.proofs.Wrongs.{below_bound}
use Rattle.operands.proofs.least_beyond.Goals as goal

pub returns : goal.returns
returns c = below_bound _ _ _ _ c.least.ensures
