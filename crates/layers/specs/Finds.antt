-- Find keeps the clauses where what is below it does: entries alike have one tree.
use Rattle.std.proofs.Common.{◌≡◌, ℕ, Bool, true, false, cond, eqb, List, [], ◌∷◌, length, get_or, Some, None, Option, position, sym, refl, ap, ◌∙◌, subst, inl, append-nil, arith}
use Rattle.std.specs.List.{slice_get, AllByRecursion}
use lib.Pointwise.{pointwise, bytes_decides}
use Rattle.std.proofs.lemmas.Bool.{cond_both, and_parts, eqb-true, false≢true}
use Rattle.std.proofs.lemmas.List.{nil_from_length}
use Rattle.std.proofs.lemmas.List.Quantifiers.{position-Some}
use Rattle.std.proofs.lemmas.Option.{none-some, same_Some, slice_get-get_or}
use Rattle.kinds.specs.Kinds.{Row, expressions, admitted, of}
use Rattle.arena.specs.Nodes.{Node}
use Rattle.blocks.specs.Sight.{one_of, pre_emit}
use Rattle.evaluator.specs.Trees.{args_of, tree_at, tree_of}
use Rattle.evaluator.specs.Tables.{Tables}
use Rattle.evaluator.specs.Verdicts.{Meaning}
use Rattle.evaluator.specs.Clauses.{reading, trees, Shaped, Stands, Lawful, Keeps, Clauses}
use Rattle.evaluator.proofs.Growing.{tree_same}
use Rattle.evaluator.proofs.Standing.{tree_standing}
use Rattle.layers.specs.Layers.{is_like, found_or, find}

-- ---- a pre-emit entry has no operands

one_of_each : (P : ℕ → Type 0) (ks : List ℕ) (k : ℕ) → AllByRecursion P ks → one_of ks k ≡ true → P k
one_of_each P [] k all h = absurd (false≢true h)
one_of_each P (x ∷ ks) k all h = go (eqb k x) refl h (one_of_each P ks k all.1)
  where
    go : (b : Bool) → eqb k x ≡ b → cond b true (one_of ks k) ≡ true → (one_of ks k ≡ true → P k) → P k
    go true e q rest = subst P (sym (eqb-true k x e)) all.0
    go false e q rest = rest q

-- an expression of this kind has no operands
abbrev Bare : ℕ → Type 0
Bare k = (row : Row) (n : ℕ) → slice_get expressions k ≡ Some row → admitted row n ≡ true → n ≡ 0

no_slots : (row : Row) (n : ℕ) → Some (of 0 0) ≡ Some row → admitted row n ≡ true → n ≡ 0
no_slots row n s a = sym (eqb-true 0 n (subst (λ r. admitted r n ≡ true) (sym (same_Some (of 0 0) row s)) a))

pub pre_emit_bare : (e : Node) → Shaped e → pre_emit (Some e) ≡ true → e.operands ≡ []
pre_emit_bare e s p =
    nil_from_length e.operands
    (one_of_each Bare (18 ∷ 19 ∷ 20 ∷ 21 ∷ 24 ∷ 25 ∷ 26 ∷ []) e.kind (no_slots, (no_slots, (no_slots, (no_slots, (no_slots, (no_slots, (no_slots, tt))))))) p s.row (length e.operands) s.known s.count)

-- ---- entries alike

alike_kind : (e x : Node) → is_like e x ≡ true → x.kind ≡ e.kind
alike_kind e x h = eqb-true _ _ (and_parts (eqb x.kind e.kind) (pointwise eqb x.words e.words) h).0

alike_words : (e x : Node) → is_like e x ≡ true → x.words ≡ e.words
alike_words e x h = (bytes_decides x.words e.words).0 (and_parts (eqb x.kind e.kind) (pointwise eqb x.words e.words) h).1

module _ (t : Tables) (e x : Node) (h : ℕ) (stands : Stands t.constants h x) (st : Stands t.constants (length t.entries) e) (there : slice_get t.entries h ≡ Some x) (like : is_like e x ≡ true) (pre : pre_emit (Some e) ≡ true) where
  pre_there : pre_emit (Some x) ≡ true
  pre_there = ap (one_of (18 ∷ 19 ∷ 20 ∷ 21 ∷ 24 ∷ 25 ∷ 26 ∷ [])) (alike_kind e x like) ∙ pre

  one_tree : tree_at (trees t.constants t.entries) h ≡ tree_of (reading t.constants (trees t.constants t.entries)) e
  one_tree =
      let r = reading t.constants (trees t.constants t.entries) in
      tree_standing t.constants t.entries h x stands there
      ∙ tree_same r r x e (alike_kind e x like) (alike_words e x like) (ap (args_of r.operand) (pre_emit_bare x stands.shaped pre_there ∙ sym (pre_emit_bare e st.shaped pre))) (λ _. refl) (λ _. refl)

  pub found_lawful : Lawful t e [] h
  found_lawful =
      record {
        tree = ap (λ es. tree_at (trees t.constants es) h) (append-nil t.entries) ∙ one_tree;
        place = inl (refl, ap pre_emit there ∙ pre_there);
        others = λ i l. absurd (omega (arith, l));
        pre_emit_stays = λ _. ap (λ es. pre_emit (slice_get es h)) (append-nil t.entries) ∙ ap pre_emit there ∙ pre_there;
        stand = λ i n s. absurd (none-some n s);
        operands = λ i n s. absurd (none-some n s);
        span = λ i n s. absurd (none-some n s);
      }

pub find_lawful : (below : Meaning) → Clauses below → Clauses (find below)
find_lawful below lawful t e formed st =
    cond_both (pre_emit (Some e)) (position (is_like e) t.entries) None (λ o. Keeps t e (found_or (below t e) o)) (λ p. go p (position (is_like e) t.entries) refl) (λ _. lawful t e formed st)
  where
    go : pre_emit (Some e) ≡ true → (o : Option ℕ) → position (is_like e) t.entries ≡ o → Keeps t e (found_or (below t e) o)
    go p None q = lawful t e formed st
    go p (Some h) q =
        let at = position-Some (is_like e) t.entries h e q in
        let there = slice_get-get_or t.entries h e at.0 in
        found_lawful t e (get_or t.entries h e) h (formed.stand h (get_or t.entries h e) there) st there at.1 p
