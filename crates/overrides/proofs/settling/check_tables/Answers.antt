use Rattle.std.proofs.Common.{◌≡◌, Err, rules, subst}
use Rattle.refusals.specs.Codes.{FirstOf}
use Rattle.ir.specs.Checks.{SourceFaults}
use Rattle.settings.specs.Reading.{given}
use Rattle.ir.specs.Tables.{global}
use Rattle.overrides.proofs.Order.{key_first, name_first, keys_alone}
use Rattle.overrides.proofs.settling.check_tables.Goals as goal

pub returns-in_err-check_keys-in-Err-Nameless : goal.returns-in_err-check_keys-in-Err-Nameless
returns-in_err-check_keys-in-Err-Nameless c =
    let handed : c.from_residual.result ≡ c.check_keys.result = search rules in
    rw handed
    (key_first (given c.args.settings.now).keys (global c.args.source.now c.args.sizes.now) c.in-Err-Nameless.number c.check_keys.result
    c.in_err-check_keys-in-Err-Nameless.field-0.0 (subst (λ r. FirstOf (SourceFaults (global c.args.source.now c.args.sizes.now)) (Err r)) c.in-Err-Nameless.field-0-is c.in-Err-Nameless.ensures) c.check_keys.ensures c.in_err-check_keys-in-Err-Nameless.was)

pub returns-in_ok-check_keys-in-Err-Nameless : goal.returns-in_ok-check_keys-in-Err-Nameless
returns-in_ok-check_keys-in-Err-Nameless c =
    name_first (given c.args.settings.now).keys (global c.args.source.now c.args.sizes.now) c.in-Err-Nameless.number c.check_keys.result
    c.in_ok-check_keys-in-Err-Nameless.field-0 (subst (λ r. FirstOf (SourceFaults (global c.args.source.now c.args.sizes.now)) (Err r)) c.in-Err-Nameless.field-0-is c.in-Err-Nameless.ensures) c.check_keys.ensures c.in_ok-check_keys-in-Err-Nameless.was

pub returns-in-Ok : goal.returns-in-Ok
returns-in-Ok c =
    keys_alone (given c.args.settings.now).keys (global c.args.source.now c.args.sizes.now) c.check_keys-in-Ok.result c.in-Ok.ensures c.check_keys-in-Ok.ensures
