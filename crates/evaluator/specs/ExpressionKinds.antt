-- Whether an expression can be worked out before the run.
use Rattle.std.specs.Prelude.{ℕ, Bool, cond, List, [], ◌∷◌, ◌==◌, fold, unwrap_or}
use Rattle.std.specs.List.{slice_get}
use Rattle.arena.specs.Nodes.{Node}
use Rattle.operands.specs.Faults.{absent}
use Rattle.blocks.specs.Sight.{one_of}
use Rattle.evaluator.specs.declared.expression_kind.ExpressionKind.{ExpressionKind}
use Rattle.evaluator.specs.declared.expression_kind.ExpressionKind.TheVariants.{Const, Override, Runtime}

-- the larger of two, where Const < Override < Runtime
abbrev pub larger : ExpressionKind → ExpressionKind → ExpressionKind
larger Const k = k
larger Override Const = Override
larger Override Override = Override
larger Override Runtime = Runtime
larger Runtime k = Runtime

-- the kind at a handle; one that stands nowhere is as good as Runtime
abbrev pub kind_at : List ExpressionKind → ℕ → ExpressionKind
kind_at kinds h = unwrap_or (slice_get kinds h) Runtime

abbrev pub operand_kind : List ExpressionKind → ℕ → ExpressionKind
operand_kind kinds h = cond (h == absent) Const (kind_at kinds h)

-- the largest kind of the operands that are there
abbrev pub largest : List ExpressionKind → List ℕ → ExpressionKind
largest kinds hs = fold (λ k h. larger k (operand_kind kinds h)) Const hs

-- Literal, Constant, ZeroValue
abbrev pub is_constant_kind : ℕ → Bool
is_constant_kind = one_of (18 ∷ 24 ∷ 26 ∷ [])

-- Compose, Access, AccessIndex, Splat, Swizzle, Unary, Binary, Select, Relational, Math, As, ArrayLength
abbrev pub follows_operands : ℕ → Bool
follows_operands = one_of (0 ∷ 1 ∷ 2 ∷ 3 ∷ 4 ∷ 9 ∷ 10 ∷ 11 ∷ 13 ∷ 14 ∷ 15 ∷ 16 ∷ [])

-- the kind of an expression of this kind with these operands
unfoldable pub type_with : List ExpressionKind → ℕ → List ℕ → ExpressionKind
type_with kinds kind operands =
    cond (is_constant_kind kind) Const
    (cond (kind == 25) Override (cond (follows_operands kind) (largest kinds operands) Runtime))

abbrev pub type_of_node : List ExpressionKind → Node → ExpressionKind
type_of_node kinds e = type_with kinds e.kind e.operands
