use Rattle.std.proofs.Common.{◌≡◌, ◌≤◌, length, take}
use Rattle.arena.specs.Items.{items, limit as bound, Stays}
use Rattle.pipeline_constants.specs.Contents.{taken_from}
use Rattle.pipeline_constants.proofs.images.take_inits.Given as goal

abbrev pub invariant-loop-number : goal.invariant-loop-number
invariant-loop-number l =
    (items l.table ≡ taken_from l.constants l.settled 0 (take l.number l.overrides)) × Stays l.initial.table l.table
    × (length l.overrides ≤ bound l.table)
