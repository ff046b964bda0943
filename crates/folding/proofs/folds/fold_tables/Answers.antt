use Rattle.std.proofs.Common.{rules, subst, Some}
use Rattle.folding.specs.Folds.{Reserved, WalkedIn}
use Rattle.folding.proofs.Ends.{folded_by}
use Rattle.folding.proofs.folds.fold_tables.Goals as goal

pub returns-in-Some : goal.returns-in-Some
returns-in-Some g c =
    let old = c.read.result in
    let a = c.in_ok-memory.memory in
    let reserved : Reserved c.args.source.now a = search rules in
    let walked : WalkedIn (g.F.Folder.verdict c.args.folder.now) old a c.walk_memory.new.memory (Some c.in-Some.walked) =
    subst (WalkedIn (g.F.Folder.verdict c.args.folder.now) old a c.walk_memory.new.memory) c.in-Some.is c.walk_memory.ensures in
    folded_by (g.F.Folder.verdict c.args.folder.now) c.args.source.now old a c.read.ensures.entries c.read.ensures.operands c.read.ensures.overrides reserved
    c.walk_memory.new.memory c.in-Some.walked c.finish.result walked c.finish.ensures
