-- Whole keeps the clauses where what is below it does: the literal behind an operand is the operand's tree.
use Rattle.std.proofs.Common.{◌≡◌, ℕ, zero, suc, ◌+◌, ◌*◌, ◌<◌, Bool, true, false, cond, eqb, ltb, ◌&&◌, List, [], ◌∷◌, ◌++◌, length, get_or, take, Some, None, Option, sym, refl, ap, ◌∙◌, subst, arith}
use Rattle.std.specs.List.{slice_get}
use Rattle.std.specs.Option.{option_map}
use Rattle.std.proofs.lemmas.Bool.{cond_both, and_parts, eqb-true, ne_eqb, ltb-true, false≢true}
use Rattle.std.proofs.lemmas.List.Elements.{All-nil}
use Rattle.std.proofs.lemmas.Option.{none-some, same_Some, cond_some, slice_get_within}
use Rattle.kinds.specs.Kinds.{Row, expressions, of}
use Rattle.arena.specs.Nodes.{Node}
use Rattle.operands.specs.Faults.{absent, needed}
use Rattle.ir.specs.Faults.{literal, constant, malformed}
use Rattle.evaluator.specs.Trees.{Tree, leaf, none, arg, operated, has_operators, combined, binary, Reading, tree_at, tree_if, args_of, word, bits_by, tree_of, grown, Overrides, unread, reading_over, global_trees}
use Rattle.evaluator.specs.Tables.{Tables}
use Rattle.evaluator.specs.Verdicts.{Meaning}
use Rattle.evaluator.specs.Clauses.{inits_of, reading_by, reading, trees, tree_next, Shaped, Below, Stands, From, Lawful, Keeps, Clauses}
use Rattle.evaluator.proofs.Growing.{tree_there, tree_below}
use Rattle.evaluator.proofs.Standing.{operand_is, push_lawful}
use Rattle.evaluator.proofs.Operators.{operated_small, combined_leaf, binary_tree, result_formed}
use Rattle.layers.specs.declared.values.Value.{Value}
use Rattle.layers.specs.declared.whole.BinaryOperator.{BinaryOperator}
use Rattle.layers.specs.declared.whole.BinaryOperator.TheVariants.{Add, Subtract, Multiply}
use Rattle.layers.specs.Values.{value_by, value_of, value_at, init_of, init_at, if_below, init_below, through, seen, behind_in, behind_by, behind}
use Rattle.layers.specs.Layers.{number_of, operator_numbered, value, paired, worked, worked_if, worked_over, literal_like, adding_or, whole}

-- the leaf of a value
abbrev pub leaf_of : Value → Tree
leaf_of v = leaf v.ty v.bits

-- ---- what is behind a handle is its tree

literal_tree : (r : Reading) (e : Node) (v : Value) → value_by e.kind e.words ≡ Some v → tree_of r e ≡ leaf_of v
unfolding tree_of
literal_tree r e v s =
    let is = cond_some (eqb e.kind literal) (record { ty = get_or e.words 0 0; bits = bits_by e.words }) v s in
    let l : eqb e.kind literal ≡ true = is.0 in
    rw l (ap leaf_of is.1)

constant_tree : (r : Reading) (e : Node) → e.kind ≡ constant → tree_of r e ≡ r.constant_at (word e 0)
unfolding tree_of
constant_tree r e k = rw k

-- a literal that stands in the table, however the rest is read
value_tree : (w : List Tree → Reading) (es : List Node) (h : ℕ) (v : Value) → value_at es h ≡ Some v → tree_at (grown w [] es) h ≡ leaf_of v
value_tree w es h v e = go (slice_get es h) refl e
  where
    go : (o : Option Node) → slice_get es h ≡ o → value_of o ≡ Some v → tree_at (grown w [] es) h ≡ leaf_of v
    go None s e = absurd (none-some v e)
    go (Some x) s e = tree_there w es h x s ∙ literal_tree (w (grown w [] (take h es))) x v e

-- the entry at h names a constant with the init i
record Leads (es : List Node) (inits : List ℕ) (h i : ℕ) : Type 0 where
  entry : Node
  there : slice_get es h ≡ Some entry
  is : entry.kind ≡ constant
  init : slice_get inits (word entry 0) ≡ Some i

leads : (es : List Node) (inits : List ℕ) (h i : ℕ) → init_at es inits h ≡ Some i → Leads es inits h i
leads es inits h i e = go (slice_get es h) refl e
  where
    named : (x : Node) → slice_get es h ≡ Some x → (b : Bool) → eqb x.kind constant ≡ b → cond b (slice_get inits (word x 0)) None ≡ Some i → Leads es inits h i
    named x s true k e = record { entry = x; there = s; is = eqb-true _ _ k; init = e }
    named x s false k e = absurd (none-some i e)

    go : (o : Option Node) → slice_get es h ≡ o → init_of inits o ≡ Some i → Leads es inits h i
    go None s e = absurd (none-some i e)
    go (Some x) s e = named x s (eqb x.kind constant) refl e

-- its tree is what the constant is read as
leads_tree : (w : List Tree → Reading) (es : List Node) (inits : List ℕ) (h i : ℕ) (l : Leads es inits h i) → tree_at (grown w [] es) h ≡ (w (grown w [] (take h es))).constant_at (word l.entry 0)
leads_tree w es inits h i l = tree_there w es h l.entry l.there ∙ constant_tree (w (grown w [] (take h es))) l.entry l.is

leads_below : (es : List Node) (inits : List ℕ) (h i : ℕ) → init_below es inits h ≡ Some i → (i < h) × (init_at es inits h ≡ Some i)
leads_below es inits h i e = go (init_at es inits h) refl e
  where
    go : (o : Option ℕ) → init_at es inits h ≡ o → if_below h o ≡ Some i → (i < h) × (init_at es inits h ≡ Some i)
    go None s e = absurd (none-some i e)
    go (Some j) s e = let c = cond_some (ltb j h) j i e in (subst (λ x. x < h) c.1 (ltb-true j h c.0), s ∙ ap Some c.1)

-- a table whose inits are its own
module _ (inits : List ℕ) (o : Overrides) (es : List Node) where
  init_tree : (h i : ℕ) → init_below es inits h ≡ Some i → tree_at (global_trees inits o es) h ≡ tree_at (global_trees inits o es) i
  init_tree h i e =
      let w : (List Tree → Reading) = λ ts. reading_over ts inits o ts in
      let b = leads_below es inits h i e in
      let l = leads es inits h i b.1 in
      let inside : h < length es = slice_get_within es h l.entry l.there in
      leads_tree w es inits h i l ∙ ap (tree_if (grown w [] (take h es))) l.init ∙ tree_below w es h i (omega (arith, inside)) b.0

  seen_tree : (n h : ℕ) (v : Value) → seen es inits n h ≡ Some v → tree_at (global_trees inits o es) h ≡ leaf_of v
  seen_tree zero h v e = value_tree (λ ts. reading_over ts inits o ts) es h v e
  seen_tree (suc n) h v e = go (init_below es inits h) refl e (λ i. seen_tree n i v)
    where
      go : (p : Option ℕ) → init_below es inits h ≡ p → through (seen es inits n) (value_at es h) p ≡ Some v →
          ((i : ℕ) → seen es inits n i ≡ Some v → tree_at (global_trees inits o es) i ≡ leaf_of v) → tree_at (global_trees inits o es) h ≡ leaf_of v
      go None q e rest = value_tree (λ ts. reading_over ts inits o ts) es h v e
      go (Some i) q e rest = init_tree h i q ∙ rest i e

-- a body's entries, over the globals
body_tree : (inits : List ℕ) (gs es : List Node) (h : ℕ) (v : Value) → behind_by (Some gs) es inits h ≡ Some v → tree_at (grown (reading_by inits (Some gs)) [] es) h ≡ leaf_of v
body_tree inits gs es h v e = go (init_at es inits h) refl e
  where
    go : (p : Option ℕ) → init_at es inits h ≡ p → through (behind_in gs inits) (value_at es h) p ≡ Some v → tree_at (grown (reading_by inits (Some gs)) [] es) h ≡ leaf_of v
    go None q e = value_tree (reading_by inits (Some gs)) es h v e
    go (Some i) q e =
        let l = leads es inits h i q in
        leads_tree (reading_by inits (Some gs)) es inits h i l ∙ ap (tree_if (global_trees inits unread gs)) l.init ∙ seen_tree inits unread gs i i v e

behind_by_tree : (inits : List ℕ) (o : Option (List Node)) (es : List Node) (h : ℕ) (v : Value) → behind_by o es inits h ≡ Some v → tree_at (grown (reading_by inits o) [] es) h ≡ leaf_of v
behind_by_tree inits None es h v e = seen_tree inits unread es h h v e
behind_by_tree inits (Some gs) es h v e = body_tree inits gs es h v e

pub behind_tree : (t : Tables) (h : ℕ) (v : Value) → behind t h ≡ Some v → tree_at (trees t.constants t.entries) h ≡ leaf_of v
behind_tree t h v e = behind_by_tree (inits_of t.constants) t.constants.globals t.entries h v e

-- ---- the result

numbered : (n : ℕ) (op : BinaryOperator) → operator_numbered n ≡ Some op → number_of op ≡ n
numbered n op e = go (eqb n 0) refl (eqb n 1) refl (eqb n 2) refl e
  where
    is : (p : BinaryOperator) → Some p ≡ Some op → n ≡ number_of p → number_of op ≡ n
    is p s q = ap number_of (sym (same_Some p op s)) ∙ sym q

    go : (a : Bool) → eqb n 0 ≡ a → (b : Bool) → eqb n 1 ≡ b → (c : Bool) → eqb n 2 ≡ c → cond a (Some Add) (cond b (Some Subtract) (cond c (Some Multiply) None)) ≡ Some op → number_of op ≡ n
    go true p b q c r e = is Add e (eqb-true _ _ p)
    go false p true q c r e = is Subtract e (eqb-true _ _ q)
    go false p false q true r e = is Multiply e (eqb-true _ _ r)
    go false p false q false r e = absurd (none-some op e)

-- v is what an operator gives on two values of one type
record Works (number : ℕ) (a b v : Value) : Type 0 where
  typed : a.ty ≡ b.ty
  has : has_operators a.ty ≡ true
  same : a.ty ≡ v.ty
  is : operated number a.bits b.bits ≡ Some v.bits

works : (op : BinaryOperator) (a b v : Value) → worked op a b ≡ Some v → Works (number_of op) a b v
works op a b v e = go (paired a b) refl (operated (number_of op) a.bits b.bits) refl e
  where
    go : (p : Bool) → paired a b ≡ p → (o : Option ℕ) → operated (number_of op) a.bits b.bits ≡ o → cond p (option_map (value a.ty) o) None ≡ Some v → Works (number_of op) a b v
    go false p o q e = absurd (none-some v e)
    go true p None q e = absurd (none-some v e)
    go true p (Some n) q e =
        let types = and_parts (eqb a.ty b.ty) (has_operators a.ty) (and_parts (eqb a.ty b.ty && has_operators a.ty) (ltb a.bits 4294967296 && ltb b.bits 4294967296) p).0 in
        let is : value a.ty n ≡ v = same_Some _ v e in
        record { typed = eqb-true _ _ types.0; has = types.1; same = ap (λ (x : Value). x.ty) is; is = q ∙ ap (λ (x : Value). Some x.bits) is }

works_tree : (number : ℕ) (a b v : Value) → Works number a b v → combined number a.ty a.bits b.ty b.bits ≡ Some (leaf_of v)
works_tree number a b v w =
    ap (λ t. combined number a.ty a.bits t b.bits) (sym w.typed) ∙ combined_leaf number a.ty a.bits b.bits v.bits w.has w.is ∙ ap (λ t. Some (leaf t v.bits)) w.same

-- two operands with the values a and b behind them, worked out to v
record Result (t : Tables) (number : ℕ) (hs : List ℕ) (v : Value) : Type 0 where
  left : ℕ
  right : ℕ
  operands : hs ≡ left ∷ right ∷ []
  a : Value
  b : Value
  at_left : behind t left ≡ Some a
  at_right : behind t right ≡ Some b
  works : Works number a b v

result : (t : Tables) (number : ℕ) (hs : List ℕ) (v : Value) → worked_over t number hs ≡ Some v → Result t number hs v
result t number [] v e = absurd (none-some v e)
result t number (l ∷ []) v e = absurd (none-some v e)
result t number (l ∷ (r ∷ (x ∷ hs))) v e = absurd (none-some v e)
result t number (l ∷ (r ∷ [])) v e = go (operator_numbered number) refl (behind t l) refl (behind t r) refl e
  where
    go : (o : Option BinaryOperator) → operator_numbered number ≡ o → (p : Option Value) → behind t l ≡ p → (q : Option Value) → behind t r ≡ q → worked_if o p q ≡ Some v → Result t number (l ∷ r ∷ []) v
    go (Some op) n (Some a) x (Some b) y e =
        record { left = l; right = r; operands = refl; a = a; b = b; at_left = x; at_right = y; works = subst (λ m. Works m a b v) (numbered number op n) (works op a b v e) }
    go (Some op) n (Some a) x None y e = absurd (none-some v e)
    go (Some op) n None x q y e = absurd (none-some v e)
    go None n p x q y e = absurd (none-some v e)

-- ---- the operands of a Binary are there

needed_both : (row : Row) → Some (of 2 0) ≡ Some row → (needed (Some row) 2 0 ≡ true) × (needed (Some row) 2 1 ≡ true)
needed_both row e = subst (λ r. (needed (Some r) 2 0 ≡ true) × (needed (Some r) 2 1 ≡ true)) (same_Some (of 2 0) row e) (refl, refl)

present : (e : Node) (l r : ℕ) → Shaped e → e.kind ≡ binary → e.operands ≡ l ∷ r ∷ [] → (eqb l absent ≡ false) × (eqb r absent ≡ false)
present e l r s k o =
    let both = needed_both s.row (ap (slice_get expressions) (sym k) ∙ s.known) in
    (ne_eqb l absent (λ a. no 0 both.0 (ap (λ hs. slice_get hs 0) o ∙ ap Some a)), ne_eqb r absent (λ a. no 1 both.1 (ap (λ hs. slice_get hs 1) o ∙ ap Some a)))
  where
    no : (i : ℕ) → needed (Some s.row) 2 i ≡ true → slice_get e.operands i ≡ Some absent → ⊥
    no i n q = false≢true (sym (s.there i q) ∙ ap (λ hs. needed (Some s.row) (length hs) i) o ∙ n)

two_args : (look : ℕ → Tree) (l r : ℕ) → eqb l absent ≡ false → eqb r absent ≡ false → args_of look (l ∷ r ∷ []) ≡ arg (look l) (arg (look r) none)
two_args look l r p q = rw (p, q)

-- ---- the law

module _ (t : Tables) (e : Node) (v : Value) (st : Stands t.constants (length t.entries) e) (k : e.kind ≡ binary) (found : Result t (word e 0) e.operands v) where
  look : (h : ℕ) (w : Value) → behind t h ≡ Some w → (reading t.constants (trees t.constants t.entries)).operand h ≡ leaf_of w
  look h w b = operand_is t.constants (trees t.constants t.entries) h ∙ behind_tree t h w b

  both_args : (eqb found.left absent ≡ false) × (eqb found.right absent ≡ false) → args_of (reading t.constants (trees t.constants t.entries)).operand e.operands ≡ arg (leaf_of found.a) (arg (leaf_of found.b) none)
  both_args there =
      ap (args_of (reading t.constants (trees t.constants t.entries)).operand) found.operands
      ∙ two_args (reading t.constants (trees t.constants t.entries)).operand found.left found.right there.0 there.1
      ∙ ap (λ x. arg x (arg ((reading t.constants (trees t.constants t.entries)).operand found.right) none)) (look found.left found.a found.at_left)
      ∙ ap (λ x. arg (leaf_of found.a) (arg x none)) (look found.right found.b found.at_right)

  whole_tree : tree_next t e ≡ leaf_of v
  whole_tree =
      binary_tree (reading t.constants (trees t.constants t.entries)) e found.a.ty found.a.bits found.b.ty found.b.bits (leaf_of v) k (both_args (present e found.left found.right st.shaped k found.operands)) (works_tree (word e 0) found.a found.b v found.works)

  formed_literal : malformed v.ty v.bits 0 ≡ false
  formed_literal = result_formed v.ty v.bits (subst (λ x. has_operators x ≡ true) found.works.same found.works.has) (operated_small (word e 0) found.a.bits found.b.bits v.bits found.works.is)

  literal_stands : Stands t.constants (length t.entries) (literal_like e v)
  literal_stands =
      record {
        shaped = record { row = of 0 0; known = refl; count = refl; there = λ s q. absurd (none-some absent q) };
        below = All-nil (Below (length t.entries));
        literal = λ _. formed_literal;
        no_override = λ q. omega (arith, q);
        named = λ q. absurd (omega (arith, q));
      }

  like_tree : (r : Reading) → tree_of r (literal_like e v) ≡ leaf_of v
  unfolding tree_of
  like_tree r = let b : v.bits + 4294967296 * 0 ≡ v.bits = omega arith in ap (leaf v.ty) b

  result_lawful : Lawful t e (literal_like e v ∷ []) (length t.entries)
  result_lawful =
      push_lawful t e (literal_like e v) literal_stands (like_tree (reading t.constants (trees t.constants t.entries)) ∙ sym whole_tree)
      (All-nil (From (t.entries ++ literal_like e v ∷ []) e)) (λ _. refl) refl

pub whole_lawful : (below : Meaning) → Clauses below → Clauses (whole below)
whole_lawful below lawful t e formed st =
    cond_both (eqb e.kind binary) (worked_over t (word e 0) e.operands) None (λ o. Keeps t e (adding_or t e (below t e) o))
    (λ k. go (eqb-true _ _ k) (worked_over t (word e 0) e.operands) refl) (λ _. lawful t e formed st)
  where
    go : e.kind ≡ binary → (o : Option Value) → worked_over t (word e 0) e.operands ≡ o → Keeps t e (adding_or t e (below t e) o)
    go k None q = lawful t e formed st
    go k (Some v) q = result_lawful t e v st k (result t (word e 0) e.operands v q)
