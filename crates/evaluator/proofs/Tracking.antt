-- Kinds of expressions in growing tables: what stands keeps its kind.
use Rattle.std.proofs.Common.{◌≡◌, ℕ, ◌<◌, Bool, true, false, cond, eqb, All, List, [], ◌∷◌, ◌++◌, length, refl, ap, ◌∙◌, inl, inr, fold, unwrap_or}
use Rattle.std.proofs.lemmas.Bool.{eqb-false}
use Rattle.std.proofs.lemmas.List.Elements.{All-head, All-tail}
use Rattle.arena.specs.Nodes.{Node}
use Rattle.operands.specs.Faults.{absent}
use Rattle.evaluator.specs.declared.expression_kind.ExpressionKind.{ExpressionKind}
use Rattle.evaluator.specs.declared.expression_kind.ExpressionKind.TheVariants.{Const, Override, Runtime}
use Rattle.evaluator.specs.ExpressionKinds.{larger, kind_at, operand_kind, is_constant_kind, follows_operands, type_with, type_of_node}
use Rattle.evaluator.specs.Clauses.{Below}
use Rattle.evaluator.proofs.Standing.{get_left}

pub kind_stays : (ks more : List ExpressionKind) (h : ℕ) → h < length ks → kind_at (ks ++ more) h ≡ kind_at ks h
kind_stays ks more h l = ap (λ o. unwrap_or o Runtime) (get_left ks more h l)

operand_stays : (ks more : List ExpressionKind) (h : ℕ) → Below (length ks) h → operand_kind (ks ++ more) h ≡ operand_kind ks h
operand_stays ks more h b = go (eqb h absent) refl b
  where
    go : (s : Bool) → eqb h absent ≡ s → Below (length ks) h → cond s Const (kind_at (ks ++ more) h) ≡ cond s Const (kind_at ks h)
    go true x b = refl
    go false x (inl a) = absurd (eqb-false _ _ x a)
    go false x (inr l) = kind_stays ks more h l

largest_from : (ks more : List ExpressionKind) (k : ExpressionKind) (hs : List ℕ) → All (Below (length ks)) hs →
    fold (λ k h. larger k (operand_kind (ks ++ more) h)) k hs ≡ fold (λ k h. larger k (operand_kind ks h)) k hs
largest_from ks more k [] all = refl
largest_from ks more k (h ∷ hs) all =
    ap (λ o. fold (λ k h. larger k (operand_kind (ks ++ more) h)) (larger k o) hs) (operand_stays ks more h (All-head (Below (length ks)) h hs all))
    ∙ largest_from ks more (larger k (operand_kind ks h)) hs (All-tail (Below (length ks)) h hs all)

-- the kind that an expression has by its operands stays the same while the table grows
pub type_stays : (ks more : List ExpressionKind) (e : Node) → All (Below (length ks)) e.operands → type_of_node (ks ++ more) e ≡ type_of_node ks e
unfolding type_with
type_stays ks more e all =
    ap (λ k. cond (is_constant_kind e.kind) Const (cond (eqb e.kind 25) Override (cond (follows_operands e.kind) k Runtime))) (largest_from ks more Const e.operands all)
