-- What an override takes is what its identifier takes.
use Rattle.std.proofs.Common.{ℕ, List, Option, subst}
use Rattle.settings.specs.First.{Least, Holds}
use Rattle.settings.specs.Keys.{TakenBy, Takes, name_of}
use Rattle.settings.specs.declared.naming.Identifier.{Identifier}
use Rattle.settings.proofs.Overrides.{only_taken}
use Rattle.ir.specs.declared.tables.Override.{Override}
use Rattle.overrides.specs.Keys.{Identified, TakesKey, TakenKey, name_in}

pub taken_key : (names : List ℕ) (ks : List (List ℕ)) (o : Override) (w : Identifier) (k : Option ℕ) → Identified names o w → Least (Holds (Takes w) ks) k → TakenKey names ks o k
taken_key names ks o w k i h =
    let by_id : Least (Holds (TakenBy o.id (name_of w)) ks) k = subst (λ n. Least (Holds (TakenBy n (name_of w)) ks) k) i.id h in
    let by_name : Least (Holds (TakesKey names o) ks) k = subst (λ s. Least (Holds (TakenBy o.id s) ks) k) i.name by_id in
    record { first = by_name; only = only_taken o.id (name_in names o.name) ks k by_name }
