use Rattle.std.proofs.Common.{[], length, vec_items, ◌≤◌, sym, subst}
use Rattle.std.proofs.lemmas.List.{take_all}
use Rattle.settings.specs.Reading.{given}
use Rattle.settle_report.specs.Outcomes.{AllBecame}
use Rattle.settle_report.proofs.Became.{all_became_more}
use Rattle.settle_report.proofs.told.outcomes.Goals as goal

pub loop-item-init : goal.loop-item-init
loop-item-init c = subst (λ l. AllBecame (given c.args.settings.now) (vec_items c.args.source.now.names) [] l) (sym c.new-all.ensures.items) tt

pub loop-item-preserved : goal.loop-item-preserved
loop-item-preserved c =
    all_became_more (given c.args.settings.now) (vec_items c.args.source.now.names) c.deref.result.now (vec_items c.args.source.now.overrides) c.deref-item-items.result.now c.loop-item.item-index _
    (vec_items c.loop-item.all) (vec_items c.push.new.self) c.became.result c.deref.ensures.value c.deref-item-items.ensures.value c.loop-item-test.true c.loop-item.invariant c.became.ensures c.in_ok-push.ensures.items

pub returns : goal.returns
returns c =
    let os = vec_items c.args.source.now.overrides in
    let ended : length os ≤ c.loop-item.item-index = subst (λ l. length l ≤ c.loop-item.item-index) c.deref-item-items.ensures.value c.loop-item-test.false in
    subst (λ l. AllBecame (given c.args.settings.now) (vec_items c.args.source.now.names) l (vec_items c.loop-item.all)) (take_all c.loop-item.item-index os ended) c.loop-item.invariant
