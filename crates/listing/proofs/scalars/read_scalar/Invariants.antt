use Rattle.std.proofs.Common.{◌≢◌, ℕ, ◌<◌, get_or}
use Rattle.rounding.specs.declared.scalars.ScalarKind.TheVariants.{Sint}
use Rattle.listing.specs.Names.{kind_name}
use Rattle.listing.proofs.scalars.read_scalar.Given as goal

abbrev pub invariant-loop-kind : goal.invariant-loop-kind
invariant-loop-kind l = (k : ℕ) → k < l.kind-index → (w : ℕ) → w < 256 → l.word ≢ kind_name (get_or l.kind-items k Sint) w
