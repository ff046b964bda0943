use Rattle.std.proofs.Common.{◌≤◌, rules}
use Rattle.settings.proofs.Overrides.{takes_by_id}
use Rattle.settings.proofs.naming.takes.Goals as goal

pub returns-in-Number : goal.returns-in-Number
returns-in-Number c =
    let small : c.in-Some-default.id ≤ 65535 = search rules in
    takes_by_id c.args.who c.in-Some-default.id c.in-Number.n c.args.key.now c.in-Some-default.is-0 small c.in-Number.ensures
