-- Keep keeps the clauses.
use Rattle.std.proofs.lemmas.Bool.{cond_both}
use Rattle.evaluator.specs.Verdicts.{folds, declines}
use Rattle.evaluator.specs.Clauses.{Clauses, Keeps}
use Rattle.evaluator.proofs.Standing.{self_lawful}
use Rattle.layers.specs.Layers.{keep, is_kept}
use Rattle.std.specs.Prelude.{◌∷◌, [], length}

pub keep_lawful : Clauses keep
keep_lawful t e formed st = cond_both (is_kept e.kind) (folds (e ∷ []) (length t.entries)) declines (Keeps t e) (λ _. self_lawful t e st) (λ _. tt)
