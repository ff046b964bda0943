use Rattle.std.proofs.Common.{rules, tests, inl, arith}
use Rattle.std.proofs.lemmas.Iterator.{IsFirst-from_position}
use Rattle.std.proofs.lemmas.Iterator.Consumers.{YieldsList-from_first}
use Rattle.settings.specs.First.{Least, Holds}
use Rattle.settings.specs.Keys.{Takes}
use Rattle.settings.specs.Walks.{keys_left}
use Rattle.settings.proofs.Format.{length_pieces}
use Rattle.settings.proofs.Places.{least_found}
use Rattle.settings.proofs.Overrides.{only_taker}
use Rattle.settings.proofs.file.Settings.find.Goals as goal

first : (c : goal.After-position) → Least (Holds (Takes c.args.who) (keys_left c.args.self.now.keys)) c.position.result
first c =
    least_found (Takes c.args.who) (λ k. Takes c.args.who k → ⊥) (keys_left c.args.self.now.keys) c.position.result (λ x no yes. no yes)
    (IsFirst-from_position c.position.new.self _ c.position.result (Takes c.args.who) (λ k. Takes c.args.who k → ⊥) c.position.ensures.ran
    (YieldsList-from_first (λ y. y.now) keys_left (keys_left c.args.self.now.keys) c.keys.ensures) (λ x q k. search (rules, tests)) (λ x q k. search (rules, tests)))

pub returns : goal.returns
returns c = record { first = first c; only = only_taker c.args.who (keys_left c.args.self.now.keys) c.position.result (first c) }

pub position-requires-clause-fits : goal.position-requires-clause-fits
position-requires-clause-fits c = inl (omega (arith, c.keys.type_inv, length_pieces c.keys.result.lengths.now c.keys.result.bytes.now))
