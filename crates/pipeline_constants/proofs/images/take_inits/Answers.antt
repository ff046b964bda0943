use Rattle.std.proofs.Common.{rules, ◌≡◌, List, [], ◌∷◌, ◌++◌, length, take, ap, sym, ◌∙◌}
use Rattle.arena.specs.Items.{items}
use Rattle.ir.specs.declared.tables.Override.{Override}
use Rattle.pipeline_constants.proofs.Taking.{taken_more, count_of}
use Rattle.pipeline_constants.specs.Contents.{taken_from}
use Rattle.pipeline_constants.proofs.images.take_inits.Goals as goal

pub loop-number-preserved : goal.loop-number-preserved
loop-number-preserved c =
    let cs = c.args.constants.now in
    let ss = c.args.settled.now in
    let n = c.loop-number.number in
    let os = c.args.overrides.now in
    let more = taken_more cs ss n os _ c.loop-number-test.true in
    let count : length (items c.loop-number.table) ≡ n = ap length c.loop-number.invariant.0 ∙ count_of cs ss 0 n os c.loop-number-test.true in
    let pushed : items c.push.new.self ≡ items c.loop-number.table ++ c.taken.result ∷ [] = search (rules, count) in (
      pushed
          ∙ (ap (λ (xs : List Override). xs ++ c.taken.result ∷ []) c.loop-number.invariant.0
          ∙ (ap (λ (o : Override). taken_from cs ss 0 (take n os) ++ o ∷ []) c.taken.ensures
          ∙ sym more)),
      search rules,
      search rules,
    )
