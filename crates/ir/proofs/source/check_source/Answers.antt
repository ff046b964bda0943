use Rattle.std.proofs.Common.{◌≡◌, Ok, Err, MatchResult, rules, subst}
use Rattle.places.specs.First.{Clean, Checked}
use Rattle.refusals.specs.declared.Refusal.TheVariants.{OutOfRange}
use Rattle.ir.specs.Tables.{global_shape, global_range, global, Nameless}
use Rattle.ir.specs.Views.{global_below}
use Rattle.ir.proofs.Firsts.{range_refused, first_name, none_applies}
use Rattle.ir.proofs.Limits.{global_whole}
use Rattle.ir.proofs.source.check_source.Goals as goal

pub returns-in_err-map_err-2 : goal.returns-in_err-map_err-2
returns-in_err-map_err-2 c =
    let m = global c.args.source.now c.args.sizes.now in
    let shaped : Clean (global_shape m) = search rules in
    let ranged = subst (λ t. Checked (global_range t) c.check-2.result) (global_whole m shaped) c.check-2.ensures in
    let made : MatchResult c.check-2.result (λ x. c.map_err-2.result ≡ Ok x) (λ p. c.map_err-2.result ≡ Err (OutOfRange p)) = search rules in
    let handed : c.from_residual-in_err-map_err-2.result ≡ c.map_err-2.result = search rules in
    rw handed
    (range_refused (global_shape m) (global_range m) (λ _. ⊥) (Nameless m.overrides) c.check-2.result c.map_err-2.result
    c.in_err-map_err-2.field-0.0 shaped ranged made c.in_err-map_err-2.was)

pub returns-in-Some : goal.returns-in-Some
returns-in-Some c =
    let m = global c.args.source.now c.args.sizes.now in
    let shaped : Clean (global_shape m) = search rules in
    let ranged : Clean (global_range (global_below m)) = search rules in
    first_name (global_shape m) (global_range m) (λ _. ⊥) (Nameless m.overrides) c.in-Some.number shaped
    (subst (λ t. Clean (global_range t)) (global_whole m shaped) ranged) (λ k h. h)
    (rw c.deref.ensures.value at c.in-Some.ensures)

pub returns-in-None : goal.returns-in-None
returns-in-None c =
    let m = global c.args.source.now c.args.sizes.now in
    let shaped : Clean (global_shape m) = search rules in
    let ranged : Clean (global_range (global_below m)) = search rules in
    none_applies (global_shape m) (global_range m) (λ _. ⊥) (Nameless m.overrides) shaped
    (subst (λ t. Clean (global_range t)) (global_whole m shaped) ranged) (λ k h. h)
    (rw c.deref.ensures.value at c.in-None.ensures)
