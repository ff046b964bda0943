use Rattle.std.proofs.Common.{subst, lit<}
use Rattle.places.specs.First.{Least}
use Rattle.operands.specs.Walk.{Front}
use Rattle.operands.proofs.Fresh.{none_reached, enough, few}
use Rattle.operands.proofs.Demand.least.Goals as goal

pub least_in-requires : goal.least_in-requires
least_in-requires c =
    record {
      room = enough 262144 _ _ c.up_to.ensures;
      few = few 262144 _ _ (lit< tt) c.up_to.ensures;
      fresh = none_reached 262144;
    }

pub returns : goal.returns
returns c =
    subst (λ xs. Least (Front c.args.self c.args.entries.now xs) c.least_in.result) c.up_to.ensures c.least_in.ensures
