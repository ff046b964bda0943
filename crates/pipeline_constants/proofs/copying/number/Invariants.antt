use Rattle.std.proofs.Common.{◌≡◌, length, take}
use Rattle.pipeline_constants.specs.Contents.{numbers}
use Rattle.pipeline_constants.proofs.copying.number.Given as goal

abbrev pub invariant-loop-handle : goal.invariant-loop-handle
invariant-loop-handle l =
    (take l.handle l.values ≡ numbers 0 l.handle) × (length l.values ≡ length l.initial.values)
