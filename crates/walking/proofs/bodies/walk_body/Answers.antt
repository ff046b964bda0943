use Rattle.std.proofs.Common.{◌≤◌}
use Rattle.arena.specs.Appends.{entry_limit}
use Rattle.walking.proofs.BodyKeeps.{body_walked_as}
use Rattle.walking.proofs.bodies.walk_body.Goals as goal

pub returns-clause-walked : goal.returns-clause-walked
returns-clause-walked g c =
    let w = c.walk_slices.ensures.went in
    let few : entry_limit c.args.expressions.now ≤ 4294967295 = c.args.expressions.now.small.0 in
    (w.0, w.1, body_walked_as _ _ _ _ _ _ (g.met.F.Folder.lawful c.args.folder.now) few w.2)
