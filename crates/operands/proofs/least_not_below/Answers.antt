use Rattle.operands.proofs.Wrongs.{below_own}
use Rattle.operands.proofs.least_not_below.Goals as goal

pub returns : goal.returns
returns c = below_own _ _ _ c.least.ensures
