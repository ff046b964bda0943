-- A whole walk that goes to its end keeps the trees.
use Rattle.std.proofs.Common.{◌≡◌, ◌≤◌, List, refl, sym, subst, Ok, Result}
use Rattle.refusals.specs.declared.Refusal.{Refusal}
use Rattle.evaluator.specs.declared.tables.NewConstant.{NewConstant}
use Rattle.evaluator.specs.Clauses.{Clauses}
use Rattle.evaluator.specs.Verdicts.{Meaning}
use Rattle.walking.specs.States.{Room, State, Outcome, goes, stops, then}
use Rattle.walking.specs.Images.{map_rest}
use Rattle.walking.specs.Walks.{walk_all}
use Rattle.walking.specs.Laws.{Old, CheckedOld, KeepsTrees, start}
use Rattle.walking.specs.Modules.{begun, walk_module, WalkedAs}
use Rattle.walking.specs.Works.{Went}
use Rattle.walking.proofs.WholeWalk.{walk_keeps_trees}

module _ (m : Meaning) (r : Room) (o : Old) (lawful : Clauses m) (checked : CheckedOld o) (few : r.tables.entries ≤ 4294967295) (images : r.images ≤ 4294967295) where
  ended : (w : Outcome) (s : State) → walk_all m r o.overrides o.entries (start o) ≡ w → (u : Unit {0}) → Went (then w (λ f. goes (map_rest f))) s (Ok u) → KeepsTrees o s
  ended (goes f) s p u e = subst (KeepsTrees o) (sym e) (walk_keeps_trees m r o f lawful checked few images p)
  ended (stops f code values) s p u e = absurd e

  pub module_keeps : (s : State) (u : Unit {0}) → Went (walk_module m r o.overrides o.entries (start o)) s (Ok u) → KeepsTrees o s
  module_keeps s u e = ended (walk_all m r o.overrides o.entries (start o)) s refl u e

-- the same of what a walk is told by
pub walked_as : (m : Meaning) (r : Room) (o : Old) (cs : List NewConstant) (s : State) (e : Result (Unit {0}) Refusal) → Clauses m →
    r.tables.entries ≤ 4294967295 → r.images ≤ 4294967295 → Went (walk_module m r o.overrides o.entries (begun cs)) s e → WalkedAs m r o cs s e
walked_as m r o cs s e lawful few images went =
    record {
      went = went;
      keeps = λ b checked u ok.
          module_keeps m r o lawful checked few images s u
          (subst (λ ks. Went (walk_module m r o.overrides o.entries (begun ks)) s (Ok u)) b (subst (λ x. Went (walk_module m r o.overrides o.entries (begun cs)) s x) ok went));
    }
