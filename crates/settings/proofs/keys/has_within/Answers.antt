use Rattle.std.proofs.Common.{◌≡◌, take, rules, tests}
use Rattle.std.proofs.lemmas.Iterator.{YieldsList-from_take, cases_from_any}
use Rattle.std.proofs.lemmas.Iterator.Consumers.{YieldsList-at}
use Rattle.settings.proofs.Places.{among_any}
use Rattle.settings.proofs.keys.has_within.Goals as goal

pub returns : goal.returns
returns g c = λ ks given.
    among_any c.args.bytes.now (take c.args.n ks) c.any.result
    (cases_from_any {v = λ k. k.now} c.any.new.self _ c.any.result (λ k. k ≡ c.args.bytes.now) (λ k. k ≡ c.args.bytes.now → ⊥) c.any.ensures.ran
    (YieldsList-from_take {steps = g.K.Iterator.next_gives} c.args.n (YieldsList-at c.take.ensures.source (record { runs = given })) c.take.ensures.count)
    (λ x q k. search (rules, tests)) (λ x q k. search (rules, tests)))
