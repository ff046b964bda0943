use Rattle.std.proofs.Common.{◌+◌, ◌<◌, [], length, get_or, arith, ◌∷◌, ◌++◌, take, vec_items, sym, ap, ◌∙◌}
use Rattle.std.proofs.lemmas.List.{take_more}
use Rattle.inspection.proofs.Judging.{judged_more}
use Rattle.inspection.proofs.verdicts.check_shader.Goals as goal

pub loop-body-preserved : goal.loop-body-preserved
loop-body-preserved c =
    let bodies = vec_items c.args.shader.now.bodies in
    let i = c.loop-body.body-index in
    let body = c.body-item.result in
    let lent = c.deref-body-items.ensures.value in
    let within : i < length bodies = omega (arith, c.loop-body-test.true, ap length lent) in
    judged_more (take (i + 1) bodies) (take i bodies) c.args.shader.now.source (vec_items c.loop-body.bodies) (vec_items c.push.new.self) body c.check_body.result (take_more bodies i body within ∙ ap (λ x. take i bodies ++ x ∷ []) (sym (c.body-item.is ∙ ap (λ l. get_or l i body) lent))) c.in_ok-push.ensures.items c.loop-body.invariant c.check_body.ensures.first
