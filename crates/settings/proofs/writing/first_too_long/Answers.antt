use Rattle.std.proofs.Common.{◌<◌, length, rules, tests}
use Rattle.std.proofs.lemmas.Iterator.{YieldsList-from_slice, YieldsList-from_map_by, IsFirst-from_position}
use Rattle.std.proofs.lemmas.Iterator.Consumers.{YieldsList-at}
use Rattle.settings.specs.Written.{keys_of}
use Rattle.settings.proofs.Places.{least_found}
use Rattle.settings.proofs.writing.first_too_long.Goals as goal

pub returns : goal.returns
returns c =
    least_found (λ k. 255 < length k) (λ k. 255 < length k → ⊥) (keys_of c.args.settings.now) c.position.result (λ x no yes. no yes)
    (IsFirst-from_position c.position.new.self _ c.position.result (λ k. 255 < length k) (λ k. 255 < length k → ⊥) c.position.ensures.ran
    (YieldsList-from_map_by _ (λ k. k.now) (λ s. s.key.now) (YieldsList-at c.map.ensures.source (YieldsList-from_slice c.args.settings.now cc)) c.map.ensures.closure (λ x r q k. search (rules, tests)))
    (λ x q k. search (rules, tests)) (λ x q k. search (rules, tests)))
