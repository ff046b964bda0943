use Rattle.std.proofs.Common.{◌≡◌, sym, ap, ◌∙◌}
use Rattle.std.specs.Option.{option_map}
use Rattle.kinds.specs.Kinds.{expressions, row_of}
use Rattle.kinds.specs.Numbers.{expression_number}
use Rattle.kinds.proofs.Unknown.{past_rows}
use Rattle.kinds.proofs.expression_slots.Goals as goal

pub returns-in_err-expression : goal.returns-in_err-expression
returns-in_err-expression c =
    ap (option_map row_of) c.from_residual.ensures
    ∙ sym (past_rows (λ e. expression_number e ≡ c.args.kind) expressions c.args.kind c.try_from.result c.try_from.ensures (sym c.ok.ensures.value ∙ c.in_err-expression.was))
