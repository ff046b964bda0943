use Rattle.overrides.proofs.Takers.{taken_key}
use Rattle.settings.specs.Reading.{given}
use Rattle.overrides.proofs.values.given_to.Goals as goal

pub returns : goal.returns
returns c =
    let h = c.value_for.ensures in
    record {
      key = h.0;
      taken = taken_key c.args.names.now (given c.args.settings.now).keys c.args.item.now c.identifier.result h.0 c.identifier.ensures h.1;
      value = h.2;
    }
