use Rattle.adjusting.proofs.Checking.{accepted}
use Rattle.adjusting.proofs.Keeping.{walk_keeps_entries}
use Rattle.adjusting.proofs.body.bodies_stand.Goals as goal

pub returns-clause-checked : goal.returns-clause-checked
returns-clause-checked c = accepted

pub returns-clause-walked : goal.returns-clause-walked
returns-clause-walked c = walk_keeps_entries
