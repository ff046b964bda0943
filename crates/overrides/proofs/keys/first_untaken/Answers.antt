use Rattle.std.proofs.Common.{rules, tests, inl, arith}
use Rattle.std.proofs.lemmas.Iterator.{IsFirst-from_position}
use Rattle.std.proofs.lemmas.Iterator.Consumers.{YieldsList-from_first}
use Rattle.settings.specs.Walks.{keys_left}
use Rattle.settings.proofs.Format.{length_pieces}
use Rattle.settings.proofs.Places.{least_found}
use Rattle.overrides.specs.Keys.{SomeTakes}
use Rattle.overrides.proofs.keys.first_untaken.Goals as goal

pub position-requires-clause-fits : goal.position-requires-clause-fits
position-requires-clause-fits c = inl (omega (arith, c.keys.type_inv, length_pieces c.keys.result.lengths.now c.keys.result.bytes.now))

pub returns : goal.returns
returns c =
    let ks = keys_left c.args.settings.now.keys in
    let taken = SomeTakes c.args.names.now c.args.overrides.now in
    least_found (λ k. taken k → ⊥) taken ks c.position.result (λ x yes no. no yes)
    (IsFirst-from_position c.position.new.self _ c.position.result (λ k. taken k → ⊥) taken c.position.ensures.ran
    (YieldsList-from_first (λ y. y.now) keys_left ks c.keys.ensures) (λ x q k. search (rules, tests)) (λ x q k. search (rules, tests)))
