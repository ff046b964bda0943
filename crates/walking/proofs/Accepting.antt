-- Where no refusal applies to tables, their nodes are well formed.
use Rattle.std.proofs.Common.{◌≡◌, ℕ, ◌+◌, ◌<◌, ◌≤◌, Bool, true, false, cond, ◌&&◌, eqb, leb, ltb, List, map, length, get_or, drop, Some, None, Option, refl, sym, ap, ◌∙◌, subst, inl, inr, arith}
use Rattle.std.specs.List.{slice_get}
use Rattle.std.specs.Option.{option_map}
use Rattle.std.proofs.lemmas.Bool.{eqb-true, ltb-false, leb-false, false_from_ne_true, or_parts, not-false, ltb-true}
use Rattle.std.proofs.lemmas.List.{get_or-take, get_or-drop, length-drop, length-map, length-take-le}
use Rattle.std.proofs.lemmas.List.Elements.{All-from_get_or}
use Rattle.std.proofs.lemmas.Option.{slice_get-map, slice_get_within, slice_get-get_or, get_or_from_slice_get, option_and_then_some, none-some, same_Some}
use Rattle.kinds.specs.Kinds.{Row, expressions, admitted}
use Rattle.places.specs.declared.TableName.TheVariants.{GlobalEntries, GlobalOperands, Constants, Overrides, BodyEntries, BodyOperands}
use Rattle.refusals.specs.declared.Refusal.TheVariants.{Misshapen, OutOfRange}
use Rattle.arena.specs.declared.entry.Entry.{Entry}
use Rattle.arena.specs.declared.entry.Run.{Run}
use Rattle.arena.specs.Nodes.{Node, cut, node, nodes}
use Rattle.operands.specs.declared.Sort.TheVariants.{Expressions}
use Rattle.operands.specs.Faults.{absent, needed, slots_of, out_of_range_of}
use Rattle.operands.specs.Operands.{NotBelow}
use Rattle.ir.specs.declared.tables.Constant.{Constant}
use Rattle.ir.specs.declared.tables.Override.{Override}
use Rattle.ir.specs.Faults.{literal, constant, overriding, malformed, misnamed, init_not_below, outside, wrong_count, misshapen, word, past}
use Rattle.ir.specs.Tables.{Global, Local, Lacks, Misnamed, Misshapen as ShapeFault}
use Rattle.evaluator.specs.Clauses.{Shaped, Below}
use Rattle.walking.specs.declared.overrides.Valued.{Valued}
use Rattle.walking.specs.Laws.{Checked}
use Rattle.walking.specs.Accepted.{old_of_global, Accepted, AcceptedIsChecked, AcceptedBody, AcceptedBodyIsChecked}

-- ---- the operands of a run

-- a run inside its list is cut out whole
length_cut : (r : Run) (os : List ℕ) → r.at + r.len ≤ length os → length (cut r os) ≡ r.len
length_cut r os l = length-take-le r.len (drop r.at os) (omega (arith, l, length-drop r.at os))

-- its operand at a slot is the list's
cut_at : (r : Run) (os : List ℕ) (s x : ℕ) → r.at + r.len ≤ length os → slice_get (cut r os) s ≡ Some x → (s < r.len) × (slice_get os (r.at + s) ≡ Some x)
cut_at r os s x l g =
    let inside : s < r.len = omega (arith, slice_get_within (cut r os) s x g, length_cut r os l) in (
      inside,
      slice_get-get_or os (r.at + s) 0 (omega (arith, l, inside))
          ∙ ap Some (sym (get_or-take r.len (drop r.at os) s 0 inside ∙ get_or-drop r.at os s 0) ∙ get_or_from_slice_get (cut r os) s x 0 g),
    )

-- a node at h is that of an entry at h
node_at : (es : List Entry) (os : List ℕ) (h : ℕ) (n : Node) → slice_get (nodes es os) h ≡ Some n → (e : Entry) × (slice_get es h ≡ Some e) × (node os e ≡ n)
node_at es os h n g = go (slice_get es h) refl (sym (slice_get-map (node os) es h) ∙ g)
  where
    go : (o : Option Entry) → slice_get es h ≡ o → option_map (node os) o ≡ Some n → (e : Entry) × (slice_get es h ≡ Some e) × (node os e ≡ n)
    go None p q = absurd (none-some n q)
    go (Some e) p q = (e, p, same_Some (node os e) n q)

abbrev inits_of : List Constant → List ℕ
inits_of cs = map (λ (c : Constant). c.init) cs

-- an init at c is that of a constant at c
constant_at : (cs : List Constant) (c i : ℕ) → slice_get (inits_of cs) c ≡ Some i → (x : Constant) × (slice_get cs c ≡ Some x) × (x.init ≡ i)
constant_at cs c i g = go (slice_get cs c) refl (sym (slice_get-map (λ (x : Constant). x.init) cs c) ∙ g)
  where
    go : (o : Option Constant) → slice_get cs c ≡ o → option_map (λ (x : Constant). x.init) o ≡ Some i → (x : Constant) × (slice_get cs c ≡ Some x) × (x.init ≡ i)
    go None p q = absurd (none-some i q)
    go (Some x) p q = (x, p, same_Some x.init i q)

-- ---- what the tests say

-- the kind is known and has the right number of operands
counted : (o : Option Row) (n : ℕ) → wrong_count o n ≡ false → (r : Row) × (o ≡ Some r) × (admitted r n ≡ true)
counted None n p = absurd cc
counted (Some r) n p = (r, refl, not-false (admitted r n) p)

below_from : (h x : ℕ) → (out_of_range_of true h x ≡ true → ⊥) → Below h x
below_from h x f = go (eqb x absent) refl f
  where
    go : (b : Bool) → eqb x absent ≡ b → (cond b false (leb h x) ≡ true → ⊥) → Below h x
    go true q f = inl (eqb-true x absent q)
    go false q f = inr (leb-false h x (false_from_ne_true (leb h x) f))

-- the tests of an entry, by its kind
abbrev by_kind : ℕ → Bool → Bool → Bool → Bool
by_kind kind a b c = cond (eqb kind literal) a (cond (eqb kind constant) b (cond (eqb kind overriding) c false))

at_literal : (kind : ℕ) (a b c : Bool) → by_kind kind a b c ≡ false → kind ≡ literal → a ≡ false
at_literal kind a b c p k = subst (λ x. by_kind x a b c ≡ false) k p

at_constant : (kind : ℕ) (a b c : Bool) → by_kind kind a b c ≡ false → kind ≡ constant → b ≡ false
at_constant kind a b c p k = subst (λ x. by_kind x a b c ≡ false) k p

at_override : (kind : ℕ) (a b c : Bool) → by_kind kind a b c ≡ false → kind ≡ overriding → c ≡ false
at_override kind a b c p k = subst (λ x. by_kind x a b c ≡ false) k p

there_and : (t a : Bool) → cond t a true ≡ false → (t ≡ true) × (a ≡ false)
there_and true a p = (refl, p)
there_and false a p = absurd cc

module _ (cs : List Constant) (n : ℕ) (g : Bool) (h : ℕ) (e : Entry) (fine : misnamed cs n g h e ≡ false) where
  literal_fine : e.kind ≡ literal → malformed (word e 0) (word e 1) (word e 2) ≡ false
  unfolding misnamed
  literal_fine = at_literal e.kind _ _ _ fine

  -- the constant is there, and of a global entry its init lies below it
  constant_fine : e.kind ≡ constant → (word e 0 < length cs) × ((g && init_not_below cs h (word e 0)) ≡ false)
  unfolding misnamed
  constant_fine k =
      let both = there_and (ltb (word e 0) (length cs)) (g && init_not_below cs h (word e 0)) (at_constant e.kind _ _ _ fine k) in
      (ltb-true _ _ both.0, both.1)

  override_fine : e.kind ≡ overriding → word e 0 < n
  unfolding misnamed
  override_fine k = leb-false n (word e 0) (at_override e.kind _ _ _ fine k)

-- ---- an entry of tables without a fault

abbrev Nowhere : (ℕ → Type 0) → Type 0
Nowhere F = (k : ℕ) → F k → ⊥

-- no place of entries and their operands is at fault
record Fine (es : List Entry) (os : List ℕ) (cs : List Constant) (n : ℕ) (g : Bool) : Type 0 where
  shape : Nowhere (ShapeFault Expressions es os)
  needs : Nowhere (Lacks Expressions es os)
  names : Nowhere (Misnamed g cs n es)
  order : Nowhere (NotBelow es os)

module _ (es : List Entry) (os : List ℕ) (cs : List Constant) (n : ℕ) (g : Bool) (fine : Fine es os cs n g) (h : ℕ) (e : Entry) (at : slice_get es h ≡ Some e) where
  shape_tests : (wrong_count (slots_of Expressions e.kind) e.run.len ≡ false) × (outside (length os) e.run ≡ false)
  shape_tests = or_parts _ _ (false_from_ne_true (misshapen Expressions (length os) e) (λ t. fine.shape h (inr (e, at, t))))

  inside : e.run.at + e.run.len ≤ length os
  inside = ltb-false (length os) (e.run.at + e.run.len) shape_tests.1

  not_lacking : (row : Row) → slice_get expressions e.kind ≡ Some row → (s : ℕ) → slice_get (cut e.run os) s ≡ Some absent → needed (Some row) e.run.len s ≡ false
  not_lacking row k s a =
      let there = cut_at e.run os s absent inside a in
      subst (λ r. needed r e.run.len s ≡ false) k
      (false_from_ne_true (needed (slots_of Expressions e.kind) e.run.len s)
      (λ t. fine.needs (e.run.at + s) (inr (h, (e, at, (s, there.0, refl, (absent, there.1, t)))))))

  shaped_node : Shaped (node os e)
  shaped_node =
      let c = counted (slots_of Expressions e.kind) e.run.len shape_tests.0 in
      let l = sym (length_cut e.run os inside) in
      record {
        row = c.0;
        known = c.1;
        count = subst (λ k. admitted c.0 k ≡ true) l c.2;
        there = λ s a. subst (λ k. needed (Some c.0) k s ≡ false) l (not_lacking c.0 c.1 s a);
      }

  below_at : (s : ℕ) → s < length (cut e.run os) → Below h (get_or (cut e.run os) s 0)
  below_at s l =
      let x : ℕ = get_or (cut e.run os) s 0 in
      let there = cut_at e.run os s x inside (slice_get-get_or (cut e.run os) s 0 l) in
      below_from h x (λ t. fine.order (e.run.at + s) (h, (e, at, (s, there.0, refl, (x, there.1, t)))))

  named_tests : misnamed cs n g h e ≡ false
  named_tests = false_from_ne_true (misnamed cs n g h e) (λ t. fine.names h (e, at, t))

  -- `low`: where the init of a constant lies that an entry at h may name
  checked_node : (ns : List Node) (vs : List Valued) (reach : ℕ) → length vs ≡ n →
      ((c : ℕ) (x : Constant) → slice_get cs c ≡ Some x → (g && leb h x.init) ≡ false → x.init < reach) →
      Checked (record { entries = ns; inits = inits_of cs; overrides = vs }) h reach (node os e)
  checked_node ns vs reach every low =
      record {
        shaped = shaped_node;
        below = All-from_get_or (Below h) (cut e.run os) 0 below_at;
        literal = literal_fine cs n g h e named_tests;
        constant = λ k.
            let c = constant_fine cs n g h e named_tests k in
            let x : Constant = get_or cs (word e 0) (record { init = 0 }) in
            let there = slice_get-get_or cs (word e 0) (record { init = 0 }) c.0 in
            (x.init, slice_get-map (λ (x : Constant). x.init) cs (word e 0) ∙ ap (option_map (λ (x : Constant). x.init)) there, low (word e 0) x there c.1);
        override = λ k. omega (arith, every, override_fine cs n g h e named_tests k);
      }

-- ---- a module

module _ (m : Global) (accepted : Accepted m) where
  global_fine : Fine m.entries m.operands m.constants (length m.overrides) true
  global_fine =
      record {
        shape = λ k f. accepted (Misshapen (record { table = GlobalEntries; index = k })) f;
        needs = λ k f. accepted (Misshapen (record { table = GlobalOperands; index = k })) f;
        names = λ k f. accepted (OutOfRange (record { table = GlobalEntries; index = k })) f;
        order = λ k f. accepted (OutOfRange (record { table = GlobalOperands; index = k })) f;
      }

  -- the init of a constant, and that of an override, is an entry
  init_below : (c : ℕ) (x : Constant) → slice_get m.constants c ≡ Some x → x.init < length m.entries
  init_below c x s =
      leb-false (length m.entries) x.init
      (false_from_ne_true (leb (length m.entries) x.init) (λ t. accepted (OutOfRange (record { table = Constants; index = c })) (x, s, t)))

  override_init_below : (p i : ℕ) (x : Override) → slice_get m.overrides p ≡ Some x → x.init ≡ Some i → i < length m.entries
  override_init_below p i x s j =
      leb-false (length m.entries) i
      (false_from_ne_true (leb (length m.entries) i)
      (λ t. accepted (OutOfRange (record { table = Overrides; index = p })) (x, s, ap (past (length m.entries)) j ∙ t)))

pub accepted_is_checked : AcceptedIsChecked
accepted_is_checked m os accepted v =
    let size : length (nodes m.entries m.operands) ≡ length m.entries = length-map m.entries (node m.operands) in
    record {
      entries = λ h n s.
          let e = node_at m.entries m.operands h n s in
          subst (Checked (old_of_global m os) h h) e.2
          (checked_node m.entries m.operands m.constants (length m.overrides) true (global_fine m accepted) h e.0 e.1 (nodes m.entries m.operands) os h v.every (λ c x s low. leb-false h x.init low));
      inits = λ c i s.
          let x = constant_at m.constants c i s in
          omega (arith, size, x.2, init_below m accepted c x.0 x.1);
      override_inits = λ p i s.
          option_and_then_some (λ (o : Override). o.init) (slice_get m.overrides p) i (sym (v.inits p) ∙ s)
          (λ x there init. omega (arith, size, override_init_below m accepted p i x there init));
      given = v.given;
    }

-- ---- a body

body_fine : (b : Local) → AcceptedBody b → Fine b.entries b.operands b.constants b.overrides false
body_fine b accepted =
    record {
      shape = λ k f. accepted (Misshapen (record { table = BodyEntries; index = k })) f;
      needs = λ k f. accepted (Misshapen (record { table = BodyOperands; index = k })) f;
      names = λ k f. accepted (OutOfRange (record { table = BodyEntries; index = k })) f;
      order = λ k f. accepted (OutOfRange (record { table = BodyOperands; index = k })) f;
    }

pub accepted_body_is_checked : AcceptedBodyIsChecked
accepted_body_is_checked m os b accepted v of body h n s =
    let e = node_at b.entries b.operands h n s in
    let fine : Fine b.entries b.operands m.constants (length m.overrides) false =
    subst (λ k. Fine b.entries b.operands m.constants k false) of.overrides
    (subst (λ cs. Fine b.entries b.operands cs b.overrides false) of.constants (body_fine b body)) in
    subst (Checked (old_of_global m os) h (length m.entries)) e.2
    (checked_node b.entries b.operands m.constants (length m.overrides) false fine h e.0 e.1 (nodes m.entries m.operands) os (length m.entries) v.every (λ c x s low. init_below m accepted c x s))
