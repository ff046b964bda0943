use Rattle.std.proofs.Common.{◌≡◌, Err, inl, refl, rules}
use Rattle.adjusting.proofs.Keeping.{keeps_if}
use Rattle.adjusting.proofs.body.adjust_body.Goals as goal

pub returns-in_err-check-clause-ended : goal.returns-in_err-check-clause-ended
returns-in_err-check-clause-ended c =
    let e = c.in_err-check.field-0.0 in
    let is : c.from_residual.result ≡ Err e = search rules in
    rw is (inl (record { first = c.in_err-check.ensures.first c.args.inputs.operands.now; records = refl; operands = refl }))

pub returns-clause-keeps : goal.returns-clause-keeps
returns-clause-keeps c =
    let i = c.args.inputs in
    keeps_if i _ _ c.adjust_checked.result (c.in_ok-check.ensures.block i.operands.now) c.adjust_checked.ensures.came
