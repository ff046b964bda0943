use Rattle.std.proofs.Common.{take, vec_items}
use Rattle.settings.specs.Reading.{given}
use Rattle.settle_report.specs.Outcomes.{AllBecame}
use Rattle.settle_report.proofs.told.outcomes.Given as goal

abbrev pub invariant-loop-item : goal.invariant-loop-item
invariant-loop-item l = AllBecame (given l.settings) (vec_items l.source.names) (take l.item-index (vec_items l.source.overrides)) (vec_items l.all)
