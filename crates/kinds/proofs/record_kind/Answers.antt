use Rattle.std.proofs.Common.{◌≡◌, sym, ap, ◌∙◌}
use Rattle.std.specs.Option.{option_map}
use Rattle.kinds.specs.Kinds.{records, record_of}
use Rattle.kinds.specs.Numbers.{statement_number}
use Rattle.kinds.proofs.Unknown.{past_rows}
use Rattle.kinds.proofs.record_kind.Goals as goal

pub returns-in_err-statement : goal.returns-in_err-statement
returns-in_err-statement c =
    ap (option_map record_of) c.from_residual.ensures
    ∙ sym (past_rows (λ s. statement_number s ≡ c.args.kind) records c.args.kind c.try_from.result c.try_from.ensures (sym c.ok.ensures.value ∙ c.in_err-statement.was))
