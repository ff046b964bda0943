use Rattle.std.proofs.Common.{vec_items}
use Rattle.settings.specs.Reading.{given}
use Rattle.overrides.proofs.Order.{first_key, no_key}
use Rattle.overrides.proofs.settling.check_keys.Goals as goal

pub returns-in-Some : goal.returns-in-Some
returns-in-Some c =
    first_key (vec_items c.args.source.now.names) (vec_items c.args.source.now.overrides) (given c.args.settings.now).keys c.in-Some.key
    (rw c.deref.ensures.value at (rw c.deref-2.ensures.value at c.in-Some.ensures))

pub returns-in-None : goal.returns-in-None
returns-in-None c =
    no_key (vec_items c.args.source.now.names) (vec_items c.args.source.now.overrides) (given c.args.settings.now).keys
    (rw c.deref.ensures.value at (rw c.deref-2.ensures.value at c.in-None.ensures))
