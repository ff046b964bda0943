use Rattle.std.proofs.Common.{◌≡◌, drop}
use Rattle.arena.specs.Nodes.{nodes}
use Rattle.walking.specs.Walks.{walk}
use Rattle.walking.specs.Works.{Lenders, old_of, state_of, walk_room}
use Rattle.walking.proofs.work.Work.walk.Given as goal

abbrev pub invariant-loop-entry : goal.invariant-loop-entry
invariant-loop-entry g l =
    (walk (g.F.Folder.verdict l.fn.folder) (walk_room l.fn.self) l.fn.overrides (nodes (drop l.entry-index l.entry-items) l.fn.self.operands.now) (state_of l.self)
    ≡ walk (g.F.Folder.verdict l.fn.folder) (walk_room l.fn.self) l.fn.overrides (old_of l.fn.self) (state_of l.fn.self))
    × (walk_room l.self ≡ walk_room l.fn.self)
    × Lenders l.fn.self l.self
