use Rattle.std.proofs.Common.{◌≡◌, drop}
use Rattle.arena.specs.Nodes.{nodes}
use Rattle.walking.specs.BodyWalks.{body_walk}
use Rattle.walking.specs.BodyWorks.{BodyLenders, body_of, body_state_of, body_room}
use Rattle.walking.proofs.body_work.BodyWork.walk.Given as goal

abbrev pub invariant-loop-entry : goal.invariant-loop-entry
invariant-loop-entry g l =
    (body_walk (g.F.Folder.verdict l.fn.folder) (body_room l.fn.self) (nodes (drop l.entry-index l.entry-items) l.fn.self.operands.now) (body_state_of l.self)
    ≡ body_walk (g.F.Folder.verdict l.fn.folder) (body_room l.fn.self) (body_of l.fn.self) (body_state_of l.fn.self))
    × (body_room l.self ≡ body_room l.fn.self)
    × BodyLenders l.fn.self l.self
