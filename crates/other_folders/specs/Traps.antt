-- Trap keeps the clauses where what is below it does: it adds nothing, and its code is not 0.
use Rattle.std.proofs.Common.{ℕ, ◌<◌, eqb}
use Rattle.std.proofs.lemmas.Bool.{cond_both}
use Rattle.evaluator.specs.Verdicts.{faults, Meaning}
use Rattle.evaluator.specs.Clauses.{Keeps, Clauses}
use Rattle.other_folders.specs.Others.{trap}

pub trap_lawful : (kind layer code : ℕ) → 0 < code → (below : Meaning) → Clauses below → Clauses (trap kind layer code below)
trap_lawful kind layer code some below lawful t e formed st =
    cond_both (eqb e.kind kind) (faults layer code) (below t e) (Keeps t e) (λ _. some) (λ _. lawful t e formed st)
