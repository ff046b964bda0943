use Rattle.std.proofs.Common.{◌≡◌, Ok, Err, MatchResult, rules, refl, subst}
use Rattle.places.specs.First.{Clean, Checked}
use Rattle.arena.specs.Nodes.{nodes}
use Rattle.blocks.specs.Blocks.{Fault}
use Rattle.refusals.specs.declared.Refusal.TheVariants.{OutOfRange}
use Rattle.ir.specs.Tables.{local_shape, local_range, local}
use Rattle.ir.specs.Views.{local_below}
use Rattle.ir.proofs.Firsts.{range_refused, first_block, none_applies}
use Rattle.ir.proofs.Limits.{local_whole}
use Rattle.ir.proofs.body.check_body.Goals as goal

pub returns-in_err-map_err-2-clause-first : goal.returns-in_err-map_err-2-clause-first
returns-in_err-map_err-2-clause-first c =
    let b = local c.args.body.now c.args.source.now in
    let shaped : Clean (local_shape b) = search rules in
    let ranged = subst (λ t. Checked (local_range t) c.check-2.result) (local_whole b shaped) c.check-2.ensures in
    let made : MatchResult c.check-2.result (λ x. c.map_err-2.result ≡ Ok x) (λ p. c.map_err-2.result ≡ Err (OutOfRange p)) = search rules in
    let handed : c.from_residual-in_err-map_err-2.result ≡ c.map_err-2.result = search rules in
    rw handed
    (range_refused (local_shape b) (local_range b) (Fault (nodes b.records b.record_operands)) (λ _. ⊥) c.check-2.result c.map_err-2.result
    c.in_err-map_err-2.field-0.0 shaped ranged made c.in_err-map_err-2.was)

pub returns-in-Some-clause-first : goal.returns-in-Some-clause-first
returns-in-Some-clause-first c =
    let b = local c.args.body.now c.args.source.now in
    let shaped : Clean (local_shape b) = search rules in
    let ranged : Clean (local_range (local_below b)) = search rules in
    let blocked = rw c.deref.ensures.value at (c.in-Some.ensures b.record_operands) in
    first_block (local_shape b) (local_range b) (Fault (nodes b.records b.record_operands)) (λ _. ⊥) c.in-Some.record shaped
    (subst (λ t. Clean (local_range t)) (local_whole b shaped) ranged) blocked.first

pub returns-in-None-clause-first : goal.returns-in-None-clause-first
returns-in-None-clause-first c =
    let b = local c.args.body.now c.args.source.now in
    let shaped : Clean (local_shape b) = search rules in
    let ranged : Clean (local_range (local_below b)) = search rules in
    let blocked = rw c.deref.ensures.value at (c.in-None.ensures b.record_operands) in
    none_applies (local_shape b) (local_range b) (Fault (nodes b.records b.record_operands)) (λ _. ⊥) shaped
    (subst (λ t. Clean (local_range t)) (local_whole b shaped) ranged) blocked.first (λ k h. h)

pub returns-in-None-clause-block : goal.returns-in-None-clause-block
returns-in-None-clause-block c =
    let blocked = rw c.deref.ensures.value at (c.in-None.ensures c.args.body.now.record_operands.items) in blocked.accepts refl
