use Rattle.std.proofs.Common.{◌≡◌, Err, Ok, MatchResult, rules}
use Rattle.ir.specs.Tables.{global}
use Rattle.overrides.specs.Settling.{refusal_of}
use Rattle.overrides.proofs.Order.{refused_as, tables_refused, settled}
use Rattle.overrides.proofs.settling.check_settling.Goals as goal

pub returns-in_err-settings : goal.returns-in_err-settings
returns-in_err-settings c =
    let made : MatchResult c.read.result (λ s. c.map_err.result ≡ Ok s) (λ e. c.map_err.result ≡ Err (refusal_of e)) = search rules in
    let handed : c.from_residual.result ≡ c.map_err.result = search rules in
    rw handed
    (refused_as c.args.file.now (global c.args.source.now c.args.sizes.now) c.read.result c.map_err.result c.in_err-settings.field-0.0 c.read.ensures made c.in_err-settings.was)

pub returns-in_err-check_tables : goal.returns-in_err-check_tables
returns-in_err-check_tables c =
    let read : c.read.result ≡ Ok c.in_ok-settings.settings = search rules in
    let handed : c.from_residual-in_err-check_tables.result ≡ Err c.in_err-check_tables.field-0.0 = search rules in
    rw handed
    (tables_refused c.args.file.now (global c.args.source.now c.args.sizes.now) c.in_ok-settings.settings (rw read at c.read.ensures)
    c.check_tables.result c.in_err-check_tables.field-0.0 c.check_tables.ensures c.in_err-check_tables.was)

pub returns : goal.returns
returns c =
    let read : c.read.result ≡ Ok c.in_ok-settings.settings = search rules in
    settled c.args.file.now (global c.args.source.now c.args.sizes.now) c.in_ok-settings.settings (rw read at c.read.ensures)
    c.check_tables.result c.in_ok-check_tables.field-0 c.check_tables.ensures c.in_ok-check_tables.was
