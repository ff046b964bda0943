use Rattle.std.proofs.Common.{◌∙◌}
use Rattle.adjusting.proofs.Leaving.{due, next_role}
use Rattle.adjusting.proofs.work.Work.blocks_due.Goals as goal

pub returns : goal.returns
returns c n ns count e r =
    let i = c.args.self.now.inputs in
    c.blocks_after.ensures ∙ due _ _ count (next_role i.records.now i.operands.now c.args.self.now.next _ n ns c.requires e ∙ r)
