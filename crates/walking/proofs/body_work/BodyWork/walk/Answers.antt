use Rattle.walking.proofs.BodyLefts.{body_on}
use Rattle.walking.proofs.body_work.BodyWork.walk.Goals as goal

pub loop-entry-preserved : goal.loop-entry-preserved
loop-entry-preserved g c =
    let i = c.loop-entry.invariant in
    body_on (g.F.Folder.verdict c.args.folder.now) c.args.self.now c.loop-entry.self c.walk_one.new.self c.loop-entry.entry-index _ _ c.walk_one.result _
    i.0 i.1 i.2 c.loop-entry-test.true c.walk_one.ensures c.in_ok-walk_one.was
