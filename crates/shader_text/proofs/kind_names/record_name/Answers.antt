use Rattle.std.proofs.Common.{◌≡◌, sym, ap, ◌∙◌}
use Rattle.std.specs.Option.{option_map}
use Rattle.kinds.specs.Numbers.{statement_number}
use Rattle.kinds.proofs.Unknown.{past_rows}
use Rattle.shader_text.specs.KindNames.{record_names}
use Rattle.shader_text.proofs.kind_names.record_name.Goals as goal

pub returns-in_err-statement : goal.returns-in_err-statement
returns-in_err-statement c =
    ap (option_map (λ s. s.now)) c.from_residual.ensures
    ∙ sym (past_rows (λ e. statement_number e ≡ c.args.kind) record_names c.args.kind c.try_from.result c.try_from.ensures (sym c.ok.ensures.value ∙ c.in_err-statement.was))
