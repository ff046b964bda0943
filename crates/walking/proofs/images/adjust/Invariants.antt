use Rattle.std.proofs.Common.{◌≡◌, take}
use Rattle.arena.specs.Items.{items, limit}
use Rattle.walking.specs.Images.{images_of}
use Rattle.walking.proofs.images.adjust.Given as goal

abbrev pub invariant-loop-operand : goal.invariant-loop-operand
invariant-loop-operand l =
    (items l.scratch ≡ images_of l.images (take l.operand-index l.operands))
    × (limit l.scratch ≡ limit l.fn.scratch)
