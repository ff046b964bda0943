use Rattle.std.proofs.Common.{◌≡◌, [], ◌∷◌, ◌++◌, ◌∙◌, vec_items, rules}
use Rattle.settings.specs.Reading.{given}
use Rattle.arena.specs.Items.{items}
use Rattle.overrides.proofs.Filling.{filled}
use Rattle.overrides.proofs.values.value_overrides.Goals as goal

pub loop-item-preserved : goal.loop-item-preserved
loop-item-preserved c =
    let more : items c.push.new.self ≡ items c.loop-item.values ++ c.valued.result ∷ [] = search rules in (
      filled (given c.args.settings.now) (vec_items c.args.source.now.names) c.deref.result.now (vec_items c.args.source.now.overrides)
          c.deref-item-items.result.now (items c.loop-item.values) (items c.push.new.self) c.loop-item.item-index _ c.valued.result
          c.deref.ensures.value c.deref-item-items.ensures.value c.loop-item-test.true c.loop-item.invariant.0 c.valued.ensures more,
      (c.push.ensures.stays.0 ∙ c.loop-item.invariant.1.0, c.push.ensures.stays.1 ∙ c.loop-item.invariant.1.1),
    )
