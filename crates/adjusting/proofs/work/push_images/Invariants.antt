use Rattle.std.proofs.Common.{◌≡◌, ◌++◌, take}
use Rattle.arena.specs.Items.{items, Stays}
use Rattle.walking.specs.Images.{images_of}
use Rattle.adjusting.proofs.work.push_images.Given as goal

-- the images so far
abbrev pub invariant-loop-operand : goal.invariant-loop-operand
invariant-loop-operand l =
    (items l.operands ≡ items l.fn.operands ++ images_of l.images (take l.operand-index l.run)) × Stays l.fn.operands l.operands
