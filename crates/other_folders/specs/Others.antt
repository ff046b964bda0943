-- What two more folders say, over what the folder below says.
use Rattle.std.specs.Prelude.{◌≡◌, ℕ, ◌+◌, cond, List, [], ◌∷◌, length, Some, None, Ok, Err, Option, Result, ◌==◌}
use Rattle.std.specs.List.{slice_get}
use Rattle.arena.specs.Nodes.{Node}
use Rattle.blocks.specs.Sight.{pre_emit}
use Rattle.ir.specs.Faults.{constant}
use Rattle.evaluator.specs.Trees.{word}
use Rattle.evaluator.specs.declared.expression_kind.ExpressionKind.TheVariants.{Const}
use Rattle.evaluator.specs.declared.tables.FullTable.{FullTable}
use Rattle.evaluator.specs.declared.tables.Tables.{Tables as Built}
use Rattle.evaluator.specs.Tables.{Tables, full}
use Rattle.evaluator.specs.Views.{Added, Kept, expressions_of, kinds_of, room_of}
use Rattle.evaluator.specs.Verdicts.{Verdict, folds, faults, Meaning}
use Rattle.evaluator.specs.Clauses.{inits_of}

-- ---- Trap

-- faults on one kind, and passes the rest on
abbrev pub trap : ℕ → ℕ → ℕ → Meaning → Meaning
trap kind layer code below t e = cond (e.kind == kind) (faults layer code) (below t e)

-- ---- Padding

-- the init of a constant, where it is a pre-emit entry of the same table
abbrev pub if_pre_emit : List Node → Option ℕ → Option ℕ
if_pre_emit es None = None
if_pre_emit es (Some i) = cond (pre_emit (slice_get es i)) (Some i) None

abbrev pub own_init : Option (List Node) → List Node → List ℕ → Node → Option ℕ
own_init (Some gs) es inits e = None
own_init None es inits e = cond (e.kind == constant) (if_pre_emit es (slice_get inits (word e 0))) None

abbrev pub init_of : Tables → Node → Option ℕ
init_of t e = own_init t.constants.globals t.entries (inits_of t.constants) e

-- a ZeroValue with the words and the span of an entry
abbrev pub zero_like : Node → Node
zero_like e = record { kind = 26; words = e.words; operands = []; span = e.span }

abbrev pub answering : Option ℕ → Verdict → Verdict
answering None v = v
answering (Some i) v = folds [] i

-- Answers a constant by its init, adds a Compose after a ZeroValue, and passes the rest on.
abbrev pub padding : Meaning → Meaning
padding below t e =
    cond (e.kind == 0) (folds (zero_like e ∷ e ∷ []) (length t.entries + 1)) (answering (init_of t e) (below t e))

-- what appending an entry so answers, and what it makes of the tables
abbrev pub Padded : Node → Built → Built → Result ℕ FullTable → Type 0
Padded e a b (Ok h) =
    (h ≡ length (expressions_of a) + 1) × (full (room_of a) (expressions_of a) (kinds_of a) (zero_like e ∷ e ∷ []) ≡ None)
    × Added Const (zero_like e ∷ e ∷ []) a.expressions.now a.expression_kind_tracker.now b.expressions.now b.expression_kind_tracker.now
Padded e a b (Err t) =
    (full (room_of a) (expressions_of a) (kinds_of a) (zero_like e ∷ e ∷ []) ≡ Some t)
    × Kept a.expressions.now a.expression_kind_tracker.now b.expressions.now b.expression_kind_tracker.now
