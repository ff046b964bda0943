-- What asking a folder answers and leaves.
use Rattle.std.specs.Prelude.{◌≡◌, ℕ, Some, None, Ok, Err, Option, Result}
use Rattle.arena.specs.Nodes.{Node}
use Rattle.arena.specs.Held.{held}
use Rattle.arena.specs.declared.arena.Arena.{Arena}
use Rattle.evaluator.specs.declared.folder.Fault.{Fault}
use Rattle.evaluator.specs.declared.tables.Tables.{Tables as Built}
use Rattle.evaluator.specs.declared.expression_kind.ExpressionKind.{ExpressionKind}
use Rattle.evaluator.specs.declared.expression_kind.ExpressionKind.TheVariants.{Const, Override, Runtime}
use Rattle.evaluator.specs.declared.expression_kind.ExpressionKindTracker.{ExpressionKindTracker}
use Rattle.evaluator.specs.declared.evaluation.Evaluated.{Evaluated}
use Rattle.evaluator.specs.declared.evaluation.Evaluated.TheVariants.{Folded, Declined, NotConst}
use Rattle.evaluator.specs.ExpressionKinds.{type_of_node}
use Rattle.evaluator.specs.Tables.{Constants}
use Rattle.evaluator.specs.Verdicts.{Meaning, answered, left}
use Rattle.evaluator.specs.Views.{Kept, tables_in, room_in}

-- The answer and the tables are what the verdict and the room left make of them.
pub record ConsultedIn (m : Meaning) (c : Constants) (e : Node) (a : Arena) (k : ExpressionKindTracker) (b : Arena) (l : ExpressionKindTracker) (r : Result (Option ℕ) Fault) : Type 0 where
  pub answer : r ≡ answered (room_in a k) (tables_in c a k) (m (tables_in c a k) e)
  pub tables : tables_in c b l ≡ left (room_in a k) (tables_in c a k) (m (tables_in c a k) e)
  pub room : room_in b l ≡ room_in a k

abbrev pub Consulted : Meaning → Constants → Node → Built → Built → Result (Option ℕ) Fault → Type 0
Consulted m c e a b r = ConsultedIn m c e a.expressions.now a.expression_kind_tracker.now b.expressions.now b.expression_kind_tracker.now r

-- what a walk is told of an answer
abbrev pub told : Result (Option ℕ) Fault → Result Evaluated Fault
told (Ok (Some h)) = Ok (Folded h)
told (Ok None) = Ok Declined
told (Err fault) = Err fault

-- A Const expression was asked about, and the answer told; any other was not, and nothing changed.
abbrev pub TriedAs : ExpressionKind → Meaning → Constants → Node → Arena → ExpressionKindTracker → Arena → ExpressionKindTracker → Result Evaluated Fault → Type 0
TriedAs Const m c e a k b l r = (q : Result (Option ℕ) Fault) × ConsultedIn m c e a k b l q × (r ≡ told q)
TriedAs Override m c e a k b l r = (r ≡ Ok NotConst) × Kept a k b l
TriedAs Runtime m c e a k b l r = (r ≡ Ok NotConst) × Kept a k b l

abbrev pub TriedIn : Meaning → Constants → Node → Arena → ExpressionKindTracker → Arena → ExpressionKindTracker → Result Evaluated Fault → Type 0
TriedIn m c e a k b l r = TriedAs (type_of_node (held k.inner) e) m c e a k b l r

abbrev pub Tried : Meaning → Constants → Node → Built → Built → Result Evaluated Fault → Type 0
Tried m c e a b r = TriedIn m c e a.expressions.now a.expression_kind_tracker.now b.expressions.now b.expression_kind_tracker.now r
