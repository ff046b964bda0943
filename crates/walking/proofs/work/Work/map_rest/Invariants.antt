use Rattle.std.proofs.Common.{◌≡◌, ◌-◌}
use Rattle.walking.specs.Images.{map_more}
use Rattle.walking.specs.Works.{Lenders, state_of, walk_room}
use Rattle.walking.proofs.work.Work.map_rest.Given as goal

abbrev pub invariant-loop-number : goal.invariant-loop-number
invariant-loop-number l =
    (map_more l.number (l.number-end - l.number) (state_of l.self) ≡ map_more 0 l.number-end (state_of l.fn.self))
    × (walk_room l.self ≡ walk_room l.fn.self)
    × Lenders l.fn.self l.self
