use Rattle.std.proofs.Common.{◌≡◌, sym, ap, ◌∙◌}
use Rattle.std.specs.Option.{option_map}
use Rattle.kinds.specs.Numbers.{expression_number}
use Rattle.kinds.proofs.Unknown.{past_rows}
use Rattle.shader_text.specs.KindNames.{expression_names}
use Rattle.shader_text.proofs.kind_names.expression_name.Goals as goal

pub returns-in_err-expression : goal.returns-in_err-expression
returns-in_err-expression c =
    ap (option_map (λ s. s.now)) c.from_residual.ensures
    ∙ sym (past_rows (λ e. expression_number e ≡ c.args.kind) expression_names c.args.kind c.try_from.result c.try_from.ensures (sym c.ok.ensures.value ∙ c.in_err-expression.was))
