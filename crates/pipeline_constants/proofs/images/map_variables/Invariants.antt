use Rattle.std.proofs.Common.{◌≡◌, ◌≤◌, length, take}
use Rattle.arena.specs.Items.{items, limit as bound, Stays}
use Rattle.pipeline_constants.specs.Contents.{variables_mapped}
use Rattle.pipeline_constants.proofs.images.map_variables.Given as goal

abbrev pub invariant-loop-init : goal.invariant-loop-init
invariant-loop-init l =
    (items l.table ≡ variables_mapped l.images (take l.init-index l.variables)) × Stays l.initial.table l.table
    × (length l.variables ≤ bound l.table)
