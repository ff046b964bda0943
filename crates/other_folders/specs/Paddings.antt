-- Padding keeps the clauses where what is below it does.
use Rattle.std.proofs.Common.{◌≡◌, ℕ, zero, suc, ◌+◌, ◌<◌, ◌≤◌, Bool, true, false, cond, eqb, All, List, [], ◌∷◌, ◌++◌, length, Some, None, Option, sym, refl, ap, ◌∙◌, subst, inl, inr, append-nil, arith}
use Rattle.std.specs.List.{slice_get}
use Rattle.std.proofs.lemmas.Bool.{cond_both, eqb-true, false≢true}
use Rattle.std.proofs.lemmas.List.{append_assoc, length-append}
use Rattle.std.proofs.lemmas.List.Elements.{All-nil, All-weaker}
use Rattle.std.proofs.lemmas.Option.{none-some, same_Some, cond_some}
use Rattle.kinds.specs.Kinds.{of}
use Rattle.arena.specs.Nodes.{Node}
use Rattle.operands.specs.Faults.{absent}
use Rattle.blocks.specs.Sight.{one_of, pre_emit}
use Rattle.ir.specs.Faults.{constant}
use Rattle.evaluator.specs.Trees.{tree_at, tree_if, tree_of, word, grown}
use Rattle.evaluator.specs.Tables.{Constants, Tables}
use Rattle.evaluator.specs.Verdicts.{folds, Meaning}
use Rattle.evaluator.specs.Clauses.{inits_of, reading_by, trees, tree_next, Below, reach, Named, Stands, From, PreEmit, Lawful, Keeps, Clauses}
use Rattle.evaluator.proofs.Standing.{own_operands, reads_below, trees_stay, tree_of_next}
use Rattle.other_folders.specs.Others.{if_pre_emit, own_init, init_of, zero_like, answering, padding}

-- ---- an entry may stand later too

reach_more : (o : Option (List Node)) (k n : ℕ) → k ≤ n → reach o k ≤ reach o n
reach_more None k n l = l
reach_more (Some gs) k n l = omega arith

named_later : (c : Constants) (k n number : ℕ) → k ≤ n → Named c k number → Named c n number
named_later c k n number l m = record { init = m.init; there = m.there; mapped = m.mapped; below = omega (arith, m.below, reach_more c.globals k n l) }

below_later : (k n : ℕ) → k ≤ n → (h : ℕ) → Below k h → Below n h
below_later k n l h (inl a) = inl a
below_later k n l h (inr b) = inr (omega (arith, b, l))

stands_later : (c : Constants) (k n : ℕ) (e : Node) → k ≤ n → Stands c k e → Stands c n e
stands_later c k n e l st =
    record {
      shaped = st.shaped;
      below = All-weaker (Below k) (Below n) (below_later k n l) e.operands st.below;
      literal = st.literal;
      no_override = st.no_override;
      named = λ q. named_later c k n (word e 0) l (st.named q);
    }

-- ---- a Compose after a ZeroValue

zero_stands : (c : Constants) (k : ℕ) (e : Node) → Stands c k (zero_like e)
zero_stands c k e =
    record {
      shaped = record { row = of 0 0; known = refl; count = refl; there = λ s q. absurd (none-some absent q) };
      below = All-nil (Below k);
      literal = λ q. absurd (omega (arith, q));
      no_override = λ q. omega (arith, q);
      named = λ q. absurd (omega (arith, q));
    }

-- what is true of the two entries of a list
two_entries : (P : ℕ → Node → Type 0) (m n : Node) → P 0 m → P 1 n → (i : ℕ) (e : Node) → slice_get (m ∷ n ∷ []) i ≡ Some e → P i e
two_entries P m n p q zero e s = subst (P 0) (same_Some m e s) p
two_entries P m n p q (suc zero) e s = subst (P 1) (same_Some n e s) q
two_entries P m n p q (suc (suc i)) e s = absurd (none-some e s)

module _ (t : Tables) (e : Node) (st : Stands t.constants (length t.entries) e) where
  abbrev padded : List Node
  padded = zero_like e ∷ e ∷ []

  last_tree : tree_at (trees t.constants (t.entries ++ padded)) (length t.entries + 1) ≡ tree_next t e
  last_tree =
      let more : List Node = t.entries ++ zero_like e ∷ [] in
      ap (λ es. tree_at (trees t.constants es) (length t.entries + 1)) (sym (append_assoc t.entries (zero_like e ∷ []) (e ∷ [])))
      ∙ ap (tree_at (trees t.constants (more ++ e ∷ []))) (sym (length-append t.entries (zero_like e ∷ [])))
      ∙ tree_of_next t.constants more e
      ∙ reads_below t.constants (trees t.constants more) (trees t.constants t.entries) (length t.entries) e st (trees_stay t.constants t.entries (zero_like e ∷ []))

  pub padded_lawful : e.kind ≡ 0 → Lawful t e padded (length t.entries + 1)
  padded_lawful k =
      record {
        tree = last_tree;
        place = inr (omega arith, omega arith);
        others = first;
        pre_emit_stays = λ p. absurd (false≢true (sym (ap (one_of (18 ∷ 19 ∷ 20 ∷ 21 ∷ 24 ∷ 25 ∷ 26 ∷ [])) k) ∙ p));
        stand = two_entries (λ i x. Stands t.constants (length t.entries + i) x) (zero_like e) e (zero_stands t.constants (length t.entries + 0) e) (stands_later t.constants (length t.entries) (length t.entries + 1) e (omega arith) st);
        operands = two_entries (λ i x. All (From (t.entries ++ padded) e) x.operands) (zero_like e) e (All-nil (From (t.entries ++ padded) e)) (own_operands (t.entries ++ padded) e);
        span = two_entries (λ i x. x.span ≡ e.span) (zero_like e) e refl refl;
      }
    where
      first : (i : ℕ) → i + 1 < 2 → PreEmit padded i
      first zero l = refl
      first (suc i) l = absurd (omega (arith, l))

-- ---- a constant's init

-- a constant's tree is that of its init
constant_tree : (inits : List ℕ) (es : List Node) (e : Node) (i : ℕ) → e.kind ≡ constant → slice_get inits (word e 0) ≡ Some i →
    tree_of (reading_by inits None (grown (reading_by inits None) [] es)) e ≡ tree_at (grown (reading_by inits None) [] es) i
unfolding tree_of
constant_tree inits es e i k s = rw k (ap (tree_if (grown (reading_by inits None) [] es)) s)

-- an answer is the constant's tree, and pre-emit
abbrev Answers : Option (List Node) → List Node → List ℕ → Node → ℕ → Type 0
Answers o es inits e i = (tree_at (grown (reading_by inits o) [] es) i ≡ tree_of (reading_by inits o (grown (reading_by inits o) [] es)) e) × PreEmit es i

answers : (o : Option (List Node)) (es : List Node) (inits : List ℕ) (e : Node) (i : ℕ) → own_init o es inits e ≡ Some i → Answers o es inits e i
answers (Some gs) es inits e i q = absurd (none-some i q)
answers None es inits e i q = go (eqb e.kind constant) refl (slice_get inits (word e 0)) refl q
  where
    go : (b : Bool) → eqb e.kind constant ≡ b → (o : Option ℕ) → slice_get inits (word e 0) ≡ o → cond b (if_pre_emit es o) None ≡ Some i → Answers None es inits e i
    go false k o s q = absurd (none-some i q)
    go true k None s q = absurd (none-some i q)
    go true k (Some j) s q =
        let c = cond_some (pre_emit (slice_get es j)) j i q in
        (sym (constant_tree inits es e i (eqb-true _ _ k) (s ∙ ap Some c.1)), subst (PreEmit es) c.1 c.0)

init_lawful : (t : Tables) (e : Node) (i : ℕ) → init_of t e ≡ Some i → Lawful t e [] i
init_lawful t e i q =
    let a : Answers t.constants.globals t.entries (inits_of t.constants) e i = answers t.constants.globals t.entries (inits_of t.constants) e i q in
    record {
      tree = ap (λ es. tree_at (trees t.constants es) i) (append-nil t.entries) ∙ a.0;
      place = inl (refl, a.1);
      others = λ j l. absurd (omega (arith, l));
      pre_emit_stays = λ _. ap (λ es. pre_emit (slice_get es i)) (append-nil t.entries) ∙ a.1;
      stand = λ j n s. absurd (none-some n s);
      operands = λ j n s. absurd (none-some n s);
      span = λ j n s. absurd (none-some n s);
    }

-- ---- the law

pub padding_lawful : (below : Meaning) → Clauses below → Clauses (padding below)
padding_lawful below lawful t e formed st =
    cond_both (eqb e.kind 0) (folds (zero_like e ∷ e ∷ []) (length t.entries + 1)) (answering (init_of t e) (below t e)) (Keeps t e)
    (λ k. padded_lawful t e st (eqb-true _ _ k)) (λ _. go (init_of t e) refl)
  where
    go : (o : Option ℕ) → init_of t e ≡ o → Keeps t e (answering o (below t e))
    go None q = lawful t e formed st
    go (Some i) q = init_lawful t e i q
