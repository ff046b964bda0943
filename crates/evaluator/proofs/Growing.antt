-- Trees of a growing table: what stands stays, and what a tree depends on.
use Rattle.std.proofs.Common.{◌≡◌, ℕ, ◌+◌, ◌<◌, ◌≤◌, Bool, true, false, cond, eqb, ◌⊎◌, All, List, [], ◌∷◌, ◌++◌, length, get_or, take, drop, Some, sym, refl, ap, ◌∙◌, inl, inr, arith}
use Rattle.std.specs.List.{slice_get}
use Rattle.std.proofs.lemmas.Bool.{eqb-true, eqb-false}
use Rattle.std.proofs.lemmas.List.{length_push, get_or_append_left, get_or_push, take-append-drop, length-take-le, take_more, take_at, take_all, take-take}
use Rattle.std.proofs.lemmas.List.Elements.{All-head, All-tail}
use Rattle.std.proofs.lemmas.Option.{slice_get_within, get_or_from_slice_get}
use Rattle.arena.specs.Nodes.{Node}
use Rattle.operands.specs.Faults.{absent}
use Rattle.ir.specs.Faults.{literal, constant, overriding}
use Rattle.evaluator.specs.Trees.{Tree, Trees, leaf, gap, arg, blank, Reading, tree_at, args_of, plain, word, bits_by, tree_of, grown}

-- ---- what a tree depends on

-- two looks at operands agree on the one at h, if it is there
abbrev pub Agree : (ℕ → Tree) → (ℕ → Tree) → ℕ → Type 0
Agree look was h = (h ≡ absent) ⊎ (look h ≡ was h)

arg_agrees : (look was : ℕ → Tree) (h : ℕ) (ts us : Trees) → Agree look was h → ts ≡ us → cond (eqb h absent) (gap ts) (arg (look h) ts) ≡ cond (eqb h absent) (gap us) (arg (was h) us)
arg_agrees look was h ts us f e = go (eqb h absent) refl f
  where
    go : (b : Bool) → eqb h absent ≡ b → Agree look was h → cond b (gap ts) (arg (look h) ts) ≡ cond b (gap us) (arg (was h) us)
    go true x f = ap gap e
    go false x (inl a) = absurd (eqb-false _ _ x a)
    go false x (inr f) = ap (λ t. arg t ts) f ∙ ap (arg (was h)) e

pub args_agree : (look was : ℕ → Tree) (hs : List ℕ) → All (Agree look was) hs → args_of look hs ≡ args_of was hs
args_agree look was [] all = refl
args_agree look was (h ∷ hs) all = arg_agrees look was h _ _ (All-head (Agree look was) h hs all) (args_agree look was hs (All-tail (Agree look was) h hs all))

-- a tree of parts that were read
abbrev pub tree_with : ℕ → List ℕ → Trees → Tree → Tree → Tree
tree_with kind words ts c o =
    cond (eqb kind literal) (leaf (get_or words 0 0) (bits_by words)) (cond (eqb kind constant) c (cond (eqb kind overriding) o (plain kind words ts)))

tree_with_same : (kind : ℕ) (words : List ℕ) (ts : Trees) (c d o p : Tree) → (kind ≡ constant → c ≡ d) → (kind ≡ overriding → o ≡ p) → tree_with kind words ts c o ≡ tree_with kind words ts d p
tree_with_same kind words ts c d o p q r = go (eqb kind constant) refl (eqb kind overriding) refl
  where
    top : Tree → Tree
    top t = cond (eqb kind literal) (leaf (get_or words 0 0) (bits_by words)) t

    go : (b : Bool) → eqb kind constant ≡ b → (s : Bool) → eqb kind overriding ≡ s → top (cond b c (cond s o (plain kind words ts))) ≡ top (cond b d (cond s p (plain kind words ts)))
    go true x s y = ap top (q (eqb-true _ _ x))
    go false x true y = ap top (r (eqb-true _ _ y))
    go false x false y = refl

-- an entry and one of the same kind with the same words, each read in its own way
pub tree_same : (r s : Reading) (e f : Node) → e.kind ≡ f.kind → e.words ≡ f.words → args_of r.operand e.operands ≡ args_of s.operand f.operands →
    (e.kind ≡ constant → r.constant_at (word e 0) ≡ s.constant_at (word e 0)) → (e.kind ≡ overriding → r.override_at (word e 0) ≡ s.override_at (word e 0)) → tree_of r e ≡ tree_of s f
unfolding tree_of
tree_same r s e f k w a c o =
    ap (λ ts. tree_with e.kind e.words ts (r.constant_at (word e 0)) (r.override_at (word e 0))) a
    ∙ tree_with_same e.kind e.words (args_of s.operand f.operands) (r.constant_at (word e 0)) (s.constant_at (word e 0)) (r.override_at (word e 0)) (s.override_at (word e 0)) c o
    ∙ ap (λ ws. tree_with e.kind ws (args_of s.operand f.operands) (s.constant_at (get_or ws 0 0)) (s.override_at (get_or ws 0 0))) w
    ∙ ap (λ k. tree_with k f.words (args_of s.operand f.operands) (s.constant_at (word f 0)) (s.override_at (word f 0))) k

-- an entry read in two ways that agree on what it names
pub tree_agrees : (r s : Reading) (e : Node) → All (Agree r.operand s.operand) e.operands →
    (e.kind ≡ constant → r.constant_at (word e 0) ≡ s.constant_at (word e 0)) → (e.kind ≡ overriding → r.override_at (word e 0) ≡ s.override_at (word e 0)) → tree_of r e ≡ tree_of s e
tree_agrees r s e all = tree_same r s e e refl refl (args_agree r.operand s.operand e.operands all)

-- ---- a growing table

module _ (r : List Tree → Reading) where
  pub grown_append : (ts : List Tree) (es fs : List Node) → grown r ts (es ++ fs) ≡ grown r (grown r ts es) fs
  grown_append ts [] fs = refl
  grown_append ts (e ∷ es) fs = grown_append (ts ++ tree_of (r ts) e ∷ []) es fs

  pub length_grown : (ts : List Tree) (es : List Node) → length (grown r ts es) ≡ length ts + length es
  length_grown ts [] = omega arith
  length_grown ts (e ∷ es) = omega (arith, length_grown (ts ++ tree_of (r ts) e ∷ []) es, length_push ts (tree_of (r ts) e))

  -- what stands stays
  pub grown_keeps : (ts : List Tree) (es : List Node) (h : ℕ) → h < length ts → tree_at (grown r ts es) h ≡ tree_at ts h
  grown_keeps ts [] h l = refl
  grown_keeps ts (e ∷ es) h l =
      grown_keeps (ts ++ tree_of (r ts) e ∷ []) es h (omega (arith, l, length_push ts (tree_of (r ts) e)))
      ∙ get_or_append_left ts (tree_of (r ts) e ∷ []) blank h l

  pub take_grown : (ts : List Tree) (es : List Node) → take (length ts) (grown r ts es) ≡ ts
  take_grown ts [] = take_all (length ts) ts (omega arith)
  take_grown ts (e ∷ es) =
      let more : List Tree = ts ++ tree_of (r ts) e ∷ [] in
      sym (take-take (length ts) (length more) (grown r more es) (omega (arith, length_push ts (tree_of (r ts) e))))
      ∙ ap (take (length ts)) (take_grown more es)
      ∙ take_at ts (tree_of (r ts) e ∷ []) (length ts) refl

  pub take_trees : (es : List Node) (k : ℕ) → k ≤ length es → take k (grown r [] es) ≡ grown r [] (take k es)
  take_trees es k l =
      let front : length (grown r [] (take k es)) ≡ k = omega (arith, length_grown [] (take k es), length-take-le k es l) in
      ap (λ xs. take k (grown r [] xs)) (sym (take-append-drop k es))
      ∙ ap (take k) (grown_append [] (take k es) (drop k es))
      ∙ ap (λ n. take n (grown r (grown r [] (take k es)) (drop k es))) (sym front)
      ∙ take_grown (grown r [] (take k es)) (drop k es)

  pub tree_stays : (es fs : List Node) (h : ℕ) → h < length es → tree_at (grown r [] (es ++ fs)) h ≡ tree_at (grown r [] es) h
  tree_stays es fs h l =
      ap (λ ts. tree_at ts h) (grown_append [] es fs) ∙ grown_keeps (grown r [] es) fs h (omega (arith, l, length_grown [] es))

  pub tree_below : (es : List Node) (k h : ℕ) → k ≤ length es → h < k → tree_at (grown r [] (take k es)) h ≡ tree_at (grown r [] es) h
  tree_below es k h l m =
      sym (tree_stays (take k es) (drop k es) h (omega (arith, m, length-take-le k es l))) ∙ ap (λ xs. tree_at (grown r [] xs) h) (take-append-drop k es)

  -- the tree of the entry that comes next
  pub tree_pushed : (es : List Node) (e : Node) (h : ℕ) → length es ≡ h → tree_at (grown r [] (es ++ e ∷ [])) h ≡ tree_of (r (grown r [] es)) e
  tree_pushed es e h l =
      ap (λ ts. tree_at ts h) (grown_append [] es (e ∷ [])) ∙ get_or_push (grown r [] es) (tree_of (r (grown r [] es)) e) blank h (omega (arith, l, length_grown [] es))

  -- an entry's tree is read from those before it
  pub tree_there : (es : List Node) (h : ℕ) (e : Node) → slice_get es h ≡ Some e → tree_at (grown r [] es) h ≡ tree_of (r (grown r [] (take h es))) e
  tree_there es h e s =
      let inside : h < length es = slice_get_within es h e s in
      let more : take (h + 1) es ≡ take h es ++ e ∷ [] = take_more es h e inside ∙ ap (λ x. take h es ++ x ∷ []) (get_or_from_slice_get es h e e s) in
      sym (tree_below es (h + 1) h (omega (arith, inside)) (omega arith))
      ∙ ap (λ xs. tree_at (grown r [] xs) h) more
      ∙ tree_pushed (take h es) e h (length-take-le h es (omega (arith, inside)))
