use Rattle.std.proofs.Common.{◌≡◌, ◌-◌}
use Rattle.walking.specs.Overrides.{settle_more}
use Rattle.walking.specs.Works.{Lenders, state_of, walk_room}
use Rattle.walking.proofs.work.Work.settle_more.Given as goal

abbrev pub invariant-loop : goal.invariant-loop
invariant-loop l =
    (settle_more (walk_room l.fn.self) l.overrides (l.count - l.counter) (state_of l.self)
    ≡ settle_more (walk_room l.fn.self) l.overrides l.count (state_of l.fn.self))
    × (walk_room l.self ≡ walk_room l.fn.self)
    × Lenders l.fn.self l.self
