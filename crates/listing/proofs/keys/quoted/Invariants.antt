use Rattle.std.proofs.Common.{◌≡◌, ◌∷◌, take, string_bytes}
use Rattle.listing.specs.Quotes.{inner}
use Rattle.listing.proofs.keys.quoted.Given as goal

abbrev pub invariant-loop-b : goal.invariant-loop-b
invariant-loop-b l = string_bytes l.out ≡ 34 ∷ inner (take l.b-index l.key)
