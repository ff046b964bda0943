use Rattle.std.proofs.Common.{◌∙◌}
use Rattle.adjusting.proofs.Leaving.{is_closing, next_role, not_closing}
use Rattle.adjusting.proofs.work.Work.closes.Goals as goal

pub returns-in-Closing : goal.returns-in-Closing
returns-in-Closing c n ns e =
    let i = c.args.self.now.inputs in
    is_closing _ _ (c.role_of.ensures ∙ next_role i.records.now i.operands.now c.args.self.now.next _ n ns c.requires e) c.in-Closing.is

pub returns-in_default : goal.returns-in_default
returns-in_default c n ns e =
    let i = c.args.self.now.inputs in
    not_closing _ _ (c.role_of.ensures ∙ next_role i.records.now i.operands.now c.args.self.now.next _ n ns c.requires e) c.in_default.not-Closing
