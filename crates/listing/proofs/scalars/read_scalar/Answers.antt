use Rattle.std.proofs.Common.{◌≢◌, ℕ, ◌<◌, arith}
use Rattle.listing.specs.Names.{kind_name}
use Rattle.listing.proofs.Named.{each_kind}
use Rattle.listing.proofs.scalars.read_scalar.Goals as goal

pub returns : goal.returns
returns c = λ s small is.
    each_kind (λ k. (w : ℕ) → w < 256 → c.args.word.now ≢ kind_name k w) (λ i below. c.loop-kind.invariant i (omega arith)) s.kind s.width small is
