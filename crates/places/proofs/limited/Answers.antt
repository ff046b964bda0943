use Rattle.std.proofs.Common.{subst}
use Rattle.places.specs.First.{Least, Holds}
use Rattle.places.proofs.Kit.{cut_items, limited_or}
use Rattle.places.proofs.limited.Goals as goal

pub returns : goal.returns
returns g c =
    let bad = g.Q.Test.bad c.args.test.now in
    rw c.or.ensures
    (limited_or _ _ _ _ (cut_items bad c.args.limit c.args.items.now) _ _
    (subst (λ xs. Least (Holds bad xs) c.first_bad.result) c.up_to.ensures c.first_bad.ensures) c.over.ensures)
