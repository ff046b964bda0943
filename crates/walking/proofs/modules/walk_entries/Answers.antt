use Rattle.std.proofs.Common.{rules, ◌≤◌, length}
use Rattle.arena.specs.Appends.{entry_limit}
use Rattle.walking.proofs.ModuleKeeps.{walked_as}
use Rattle.walking.proofs.modules.walk_entries.Goals as goal

pub returns-clause-walked : goal.returns-clause-walked
returns-clause-walked g c =
    let few : entry_limit c.args.expressions.now ≤ 4294967295 = c.args.expressions.now.small.0 in
    let images : length c.args.images.now ≤ 4294967295 = search rules in
    walked_as _ _ _ _ _ _ (g.met.F.Folder.lawful c.args.folder.now) few images c.walk_slices.ensures.went
