-- What is folded of tables that the check accepts.
use Rattle.std.proofs.Common.{◌≡◌, List, [], length, vec_items, sym, ap, Ok, Err, Result, inr}
use Rattle.std.specs.List.{slice_get}
use Rattle.std.specs.Option.{option_and_then}
use Rattle.std.proofs.lemmas.Option.{none-some}
use Rattle.ir.specs.declared.tables.Override.{Override}
use Rattle.ir.specs.declared.tables.Source.{Source}
use Rattle.ir.specs.declared.tables.Sizes.{Sizes}
use Rattle.ir.specs.Tables.{global}
use Rattle.evaluator.specs.Verdicts.{Meaning}
use Rattle.walking.specs.Accepted.{Accepted, ValuesOf}
use Rattle.walking.proofs.Accepting.{accepted_is_checked}
use Rattle.folding.specs.declared.folds.Folded.{Folded}
use Rattle.folding.specs.declared.folds.FoldError.{FoldError}
use Rattle.folding.specs.declared.folds.FoldError.TheVariants.{Refused, HasOverrides, OutOfMemory}
use Rattle.folding.specs.Folds.{FoldedBy, Gave}

no_values : (s : Source) (z : Sizes) → vec_items s.overrides ≡ [] → ValuesOf (global s z) []
no_values s z e =
    record {
      every = ap length (sym e);
      inits = λ p. ap (λ (os : List Override). option_and_then (λ (o : Override). o.init) (slice_get os p)) (sym e);
      given = λ p l q. absurd (none-some l q);
    }

pub gave : (f : Meaning) (s : Source) (z : Sizes) (x : Result Folded FoldError) → Accepted (global s z) → vec_items s.overrides ≡ [] → FoldedBy f s x → Gave f s z x
gave f s z (Ok g) a e w = (a, e, (w.0, w.1, w.2, w.3 (accepted_is_checked (global s z) [] a (no_values s z e))))
gave f s z (Err (Refused r)) a e w = inr (a, e, w)
gave f s z (Err HasOverrides) a e w = absurd w
gave f s z (Err OutOfMemory) a e w = (a, e)
