use Rattle.std.proofs.Common.{take, vec_items}
use Rattle.settings.specs.Reading.{given}
use Rattle.arena.specs.Items.{Stays, items}
use Rattle.overrides.specs.Values.{ValuedFor}
use Rattle.overrides.proofs.values.value_overrides.Given as goal

abbrev pub invariant-loop-item : goal.invariant-loop-item
invariant-loop-item l =
    ValuedFor (given l.settings) (vec_items l.source.names) (take l.item-index (vec_items l.source.overrides)) (items l.values)
    × Stays l.initial.values l.values
