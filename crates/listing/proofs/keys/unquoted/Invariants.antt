use Rattle.std.proofs.Common.{◌≡◌, ℕ, List, ◌++◌, length, vec_items}
use Rattle.listing.specs.Quotes.{Bytes, inner}
use Rattle.listing.proofs.keys.unquoted.Given as goal

abbrev pub invariant-loop-rest : goal.invariant-loop-rest
invariant-loop-rest l = (key : List ℕ) → Bytes key → l.text ≡ inner key → (left : List ℕ) × Bytes left × (l.rest ≡ inner left) × (key ≡ vec_items l.key ++ left)

abbrev pub decreases-loop-rest : goal.decreases-loop-rest
decreases-loop-rest l = length l.rest
