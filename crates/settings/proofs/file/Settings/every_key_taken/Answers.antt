use Rattle.std.proofs.Common.{Some, None, refl, rules, tests, inl, arith}
use Rattle.std.proofs.lemmas.Iterator.{IsFirst-from_position}
use Rattle.std.proofs.lemmas.Iterator.Consumers.{YieldsList-from_first}
use Rattle.settings.specs.Keys.{Taken}
use Rattle.settings.specs.Walks.{keys_left}
use Rattle.settings.proofs.Format.{length_pieces}
use Rattle.settings.proofs.Places.{Found, least_found, all_taken}
use Rattle.settings.proofs.file.Settings.every_key_taken.Goals as goal

pub position-requires-clause-fits : goal.position-requires-clause-fits
position-requires-clause-fits c = inl (omega (arith, c.keys.type_inv, length_pieces c.keys.result.lengths.now c.keys.result.bytes.now))

pub returns-in-Some : goal.returns-in-Some
returns-in-Some c =
    let ks = keys_left c.args.self.now.keys in
    let taken = Taken c.args.overrides.now in
    let found : Found (λ k. taken k → ⊥) taken ks (Some c.in-Some.key) =
    IsFirst-from_position c.position.new.self _ (Some c.in-Some.key) (λ k. taken k → ⊥) taken c.in-Some.ensures.ran
    (YieldsList-from_first (λ y. y.now) keys_left ks c.keys.ensures) (λ x q k. search (rules, tests)) (λ x q k. search (rules, tests)) in
    (c.in-Some.key, refl, least_found (λ k. taken k → ⊥) taken ks (Some c.in-Some.key) (λ x yes no. no yes) found)

pub returns-in-None : goal.returns-in-None
returns-in-None c =
    let ks = keys_left c.args.self.now.keys in
    let taken = Taken c.args.overrides.now in
    all_taken ks c.args.overrides.now
    (IsFirst-from_position c.position.new.self _ None (λ k. taken k → ⊥) taken c.in-None.ensures.ran
    (YieldsList-from_first (λ y. y.now) keys_left ks c.keys.ensures) (λ x q k. search (rules, tests)) (λ x q k. search (rules, tests)))
