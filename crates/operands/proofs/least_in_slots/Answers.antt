use Rattle.std.proofs.Common.{◌<◌, length, sym, ◌∙◌, ⊎_elim, arith}
use Rattle.kinds.specs.Kinds.{row_of}
use Rattle.operands.proofs.Tails.{none_after}
use Rattle.operands.proofs.least_in_slots.Goals as goal

pub returns-in_err-rest : goal.returns-in_err-rest
returns-in_err-rest c =
    let n = length c.args.operands.now in
    c.from_residual.ensures
    ∙ sym (none_after (row_of c.args.row.now) c.args.from c.args.operands.now
    (⊎_elim (λ (l : n < c.args.from). omega arith) (λ (l : n < n). omega arith) c.in_err-rest.ensures.lookup.0))
