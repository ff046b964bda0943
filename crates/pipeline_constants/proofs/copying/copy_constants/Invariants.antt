use Rattle.std.proofs.Common.{◌≡◌, ◌≤◌, length, take}
use Rattle.arena.specs.Items.{items, limit as bound, Stays}
use Rattle.pipeline_constants.specs.Contents.{new_constants}
use Rattle.pipeline_constants.proofs.copying.copy_constants.Given as goal

abbrev pub invariant-loop-constant : goal.invariant-loop-constant
invariant-loop-constant l =
    (items l.table ≡ new_constants l.mapped (take l.constant-index l.constants)) × Stays l.initial.table l.table
    × (length l.constants ≤ bound l.table)
