use Rattle.std.proofs.Common.{◌≡◌, ◌++◌, take}
use Rattle.arena.specs.Items.{items, Stays}
use Rattle.arena.proofs.table.Table.extend_reserved.Given as goal

abbrev pub invariant-loop-item : goal.invariant-loop-item
invariant-loop-item g l = (items l.self ≡ items l.initial.self ++ take l.item-index l.more) × Stays l.initial.self l.self
