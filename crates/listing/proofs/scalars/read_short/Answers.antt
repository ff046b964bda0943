use Rattle.std.proofs.Common.{◌≡◌, ◌≢◌, [], ◌∷◌, Some, rules, tests}
use Rattle.std.proofs.lemmas.Iterator.{first_from_find, YieldsList-from_slice}
use Rattle.std.proofs.lemmas.Iterator.Consumers.{YieldsList-from_copied}
use Rattle.listing.specs.Names.{short_name}
use Rattle.listing.proofs.Named.{shorts, weaker}
use Rattle.listing.proofs.scalars.read_short.Goals as goal

pub returns : goal.returns
returns c =
    let k = c.args.kind in
    let word = c.args.word.now in
    let found = first_from_find _ _ c.find.result (λ w. short_name k w ≡ Some word) (λ w. short_name k w ≢ Some word) c.find.ensures.ran (YieldsList-from_copied (YieldsList-from_slice (1 ∷ 2 ∷ 4 ∷ 8 ∷ []) (search rules))) (λ x q h. search (rules, tests)) (λ x q h. search (rules, tests)) in
    weaker c.find.result found (shorts k word) (λ x h. h.0)
