use Rattle.std.proofs.Common.{◌≡◌, length, take}
use Rattle.arena.specs.Items.{items}
use Rattle.arena.specs.Items.{limit as bound}
use Rattle.folding.specs.Folds.{unmapped}
use Rattle.folding.proofs.folds.copied.Given as goal

abbrev pub invariant-loop-constant : goal.invariant-loop-constant
invariant-loop-constant l =
    (items l.table ≡ unmapped (take l.constant-index l.constants)) × (bound l.table ≡ length l.constants)
