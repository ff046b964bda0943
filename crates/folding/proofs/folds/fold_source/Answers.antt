use Rattle.std.proofs.Common.{rules, ◌≡◌, [], length, vec_items}
use Rattle.std.proofs.lemmas.List.{nil_from_length}
use Rattle.ir.specs.Tables.{global}
use Rattle.walking.specs.Accepted.{Accepted}
use Rattle.folding.proofs.Gives.{gave}
use Rattle.folding.proofs.folds.fold_source.Goals as goal

pub returns : goal.returns
returns g c =
    let accepted : Accepted (global c.args.source.now c.args.sizes.now) = search rules in
    let count : length (vec_items c.args.source.now.overrides) ≡ 0 = search rules in
    let bare : vec_items c.args.source.now.overrides ≡ [] = nil_from_length (vec_items c.args.source.now.overrides) count in
    gave (g.F.Folder.verdict c.args.folder.now) c.args.source.now c.args.sizes.now c.fold_tables.result accepted bare c.fold_tables.ensures
