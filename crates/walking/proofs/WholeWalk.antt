-- A walk that goes to its end keeps the trees.
use Rattle.std.proofs.Common.{◌≡◌, ℕ, zero, suc, ◌+◌, ◌-◌, ◌<◌, ◌≤◌, Bool, true, false, cond, eqb, List, [], ◌∷◌, length, map, Some, None, Option, sym, refl, ap, ◌∙◌, subst, ⊎_elim, arith}
use Rattle.std.specs.List.{slice_get}
use Rattle.std.specs.Option.{option_map}
use Rattle.std.proofs.lemmas.Bool.{cases_eq, false≢true, eqb-true, eqb-false}
use Rattle.std.proofs.lemmas.List.{length_push, length-map}
use Rattle.std.proofs.lemmas.Option.{slice_get_within, slice_get-map, same_Some, none-some}
use Rattle.arena.specs.Nodes.{Node}
use Rattle.ir.specs.Faults.{constant, overriding}
use Rattle.evaluator.specs.declared.expression_kind.ExpressionKind.{ExpressionKind}
use Rattle.evaluator.specs.declared.expression_kind.ExpressionKind.TheVariants.{Const, Override, Runtime}
use Rattle.evaluator.specs.ExpressionKinds.{type_of_node}
use Rattle.evaluator.specs.declared.tables.FullTable.{FullTable}
use Rattle.evaluator.specs.declared.tables.NewConstant.{NewConstant}
use Rattle.evaluator.specs.Trees.{Tree, tree_at, grown, word}
use Rattle.evaluator.specs.Tables.{full, adding}
use Rattle.evaluator.specs.Clauses.{Clauses, Keeps, Lawful, inits_of, reading_by, tree_next}
use Rattle.evaluator.specs.Verdicts.{Verdict, folds, declines, faults, Meaning}
use Rattle.evaluator.proofs.Standing.{answer_within}
use Rattle.walking.specs.States.{Room, State, goes, with_tables, with_image}
use Rattle.walking.specs.Images.{mapped, map_constant, map_more, map_rest}
use Rattle.walking.specs.Overrides.{settle_more, settle_rest}
use Rattle.walking.specs.Walks.{answers_unless, judged, asked_as, noted, prepared, ask_mapped, walk_one, walk}
use Rattle.walking.specs.Laws.{Old, Checked, CheckedOld, StandsFor, HoldsTree, KeepsTrees, WalkKeepsTrees, old_trees, new_trees, start}
use Rattle.walking.proofs.Extending.{Stays}
use Rattle.walking.proofs.Holding.{trees_of, Has, Right, Known, Resolved, Settles, Holds, override_tree, holds_more, holds_image}
use Rattle.walking.proofs.Steps.{never, same_goes, then_goes, room_goes, full_none, get_there, MapsOne, map_constant_holds}
use Rattle.walking.proofs.Settling.{SettlesSome, settle_more_holds}
use Rattle.walking.proofs.Mapped.{reading_at, constant_before, override_before, Settled, Stood, mapped_stands}

module _ (o : Old) (r : Room) (ok : CheckedOld o) (roomy : r.tables.entries ≤ 4294967295) (few : r.images ≤ 4294967295) where
  -- ---- before an entry is asked about

  -- f is s with all settled and mapped that the entry e at h names
  record Ready (h : ℕ) (e : Node) (s f : State) : Type 0 where
    holds : Holds o f
    images : f.images ≡ s.images
    con : e.kind ≡ constant → Resolved f.tables ((reading_at o h).constant_at (word e 0)) (word e 0)
    over : e.kind ≡ overriding → Settled f ((reading_at o h).override_at (word e 0)) (word e 0)

  module _ (s : State) (hold : Holds o s) (h : ℕ) (at : length s.images ≡ h) (e : Node) (there : slice_get o.entries h ≡ Some e) where
    checked : Checked o h h e
    checked = ok.entries h e there

    inside : h < length o.entries
    inside = slice_get_within o.entries h e there

    ready_override : (f : State) → e.kind ≡ overriding → settle_more r o.overrides (word e 0 + 1 - length s.settled) s ≡ goes f → Ready h e s f
    ready_override f is w =
        record {
          holds = m.holds;
          images = m.images;
          con = λ z. absurd (omega (arith, z, is));
          over = λ _. record { number = g.0; there = g.1; resolved = subst (λ t. Resolved f.tables t g.0) (sym (override_before o h (word e 0) (omega (arith, inside)) known)) q.resolved };
        }
      where
        m : SettlesSome o r ok roomy (word e 0 + 1 - length s.settled) s f
        m = settle_more_holds o r ok roomy (word e 0 + 1 - length s.settled) s f hold w

        g : (c : ℕ) × (slice_get f.settled (word e 0) ≡ Some c)
        g = get_there f.settled (word e 0) (omega (arith, m.settled))

        q : Settles o f.tables (length f.images) (word e 0) g.0
        q = m.holds.settles (word e 0) g.0 g.1

        known : Known o h (word e 0)
        known = subst (λ n. Known o n (word e 0)) (ap length m.images ∙ at) q.known

    ready_constant : (f : State) → e.kind ≡ constant → map_constant (word e 0) s ≡ f → Ready h e s f
    ready_constant f is w =
        record {
          holds = m.holds;
          images = m.images;
          con = λ _. record {
            constant = g.0;
            there = g.1;
            mapped = m.now g.0 g.1;
            within = right.within (m.now g.0 g.1);
            tree_is = right.tree_is (m.now g.0 g.1) i.0 i.1 ∙ sym (constant_before o h (word e 0) i.0 (omega (arith, inside)) i.1 i.2);
          };
          over = λ z. absurd (omega (arith, z, is));
        }
      where
        i : (i : ℕ) × (slice_get o.inits (word e 0) ≡ Some i) × (i < h)
        i = checked.constant is

        ready : (j : ℕ) → slice_get o.inits (word e 0) ≡ Some j → j < length s.images
        ready j y = let q : i.0 ≡ j = same_Some i.0 j (sym i.1 ∙ y) in omega (arith, q, i.2, at)

        m : MapsOne o (word e 0) s f
        m = subst (MapsOne o (word e 0) s) w (map_constant_holds o (word e 0) s hold ready)

        g : (k : NewConstant) × (slice_get f.tables.constants.list (word e 0) ≡ Some k)
        g = get_there f.tables.constants.list (word e 0) (omega (arith, m.holds.many, slice_get_within o.inits (word e 0) i.0 i.1))

        right : Right o f.tables (word e 0) g.0
        right = m.holds.constants (word e 0) g.0 g.1

    ready_all : (f : State) → prepared r o.overrides e.kind (word e 0) s ≡ goes f → Ready h e s f
    ready_all f = go (eqb e.kind overriding) refl (eqb e.kind constant) refl
      where
        go : (b : Bool) → eqb e.kind overriding ≡ b → (d : Bool) → eqb e.kind constant ≡ d →
            cond b (settle_more r o.overrides (word e 0 + 1 - length s.settled) s) (cond d (goes (map_constant (word e 0) s)) (goes s)) ≡ goes f → Ready h e s f
        go true x d y w = ready_override f (eqb-true _ _ x) w
        go false x true y w = ready_constant f (eqb-true _ _ y) (same_goes (map_constant (word e 0) s) f w)
        go false x false y w =
            subst (Ready h e s) (same_goes s f w)
            (record { holds = hold; images = refl; con = λ z. absurd (eqb-false _ _ y z); over = λ z. absurd (eqb-false _ _ x z) })

  -- ---- the entry is asked about

  -- one image more
  record Walked (s f : State) : Type 0 where
    holds : Holds o f
    images : length f.images ≡ length s.images + 1

  module _ (s f : State) (hold : Holds o s) (n : Node) (same : tree_next s.tables n ≡ tree_at (old_trees o) (length s.images)) where
    folded : (es : List Node) (answer : ℕ) → Lawful s.tables n es answer → (q : Option FullTable) → full r.tables s.tables.entries s.tables.kinds es ≡ q → noted r (answers_unless q es answer s) ≡ goes f → Walked s f
    folded es answer law (Some t) x w = never _ _ _ _ w
    folded es answer law None x w =
        let wrote : State = with_tables (adding Const es s.tables) s in
        let grows : Holds o wrote = holds_more o s es Const hold law.stand (omega (arith, full_none r.tables s.tables.entries s.tables.kinds es x, roomy)) in
        let has : Has wrote.tables (tree_at (old_trees o) (length s.images)) answer = record { within = answer_within s.tables.entries es answer law.place; tree_is = law.tree ∙ same } in
        let room = room_goes (length s.images) r.images 12 wrote (goes (with_image answer wrote)) f w in
        let is : with_image answer wrote ≡ f = same_goes (with_image answer wrote) f room.1 in
        subst (Walked s) is (record { holds = holds_image o wrote answer grows (omega (arith, room.0, few)) has; images = length_push s.images answer })

    judged_holds : (v : Verdict) → Keeps s.tables n v → noted r (judged r v s) ≡ goes f → Walked s f
    judged_holds (folds es answer) law w = folded es answer law (full r.tables s.tables.entries s.tables.kinds es) refl w
    judged_holds declines law w = never _ _ _ _ w
    judged_holds (faults layer code) law w = never _ _ _ _ w

    asked_holds : (m : Meaning) → Keeps s.tables n (m s.tables n) → (k : ExpressionKind) → noted r (asked_as k m r n s) ≡ goes f → Walked s f
    asked_holds m law Const w = judged_holds (m s.tables n) law w
    asked_holds m law Override w = never _ _ _ _ w
    asked_holds m law Runtime w = never _ _ _ _ w

  -- ---- the entries in order

  module _ (m : Meaning) (clauses : Clauses m) where
    one_holds : (s f : State) → Holds o s → (e : Node) → slice_get o.entries (length s.images) ≡ Some e → walk_one m r o.overrides e s ≡ goes f → Walked s f
    one_holds s f hold e there w =
        let h : ℕ = length s.images in
        let b = then_goes (prepared r o.overrides e.kind (word e 0) s) (ask_mapped m r e) f w in
        let p = ready_all s hold h refl e there b.mid b.first in
        let st : Stood b.mid e (tree_at (old_trees o) h) = mapped_stands o b.mid p.holds h (ap length p.images) e there (ok.entries h e there) p.con p.over in
        let n : Node = mapped b.mid e in
        let same : tree_next b.mid.tables n ≡ tree_at (old_trees o) (length b.mid.images) = st.tree_is ∙ ap (tree_at (old_trees o)) (sym (ap length p.images)) in
        let q = asked_holds b.mid f p.holds n same m (clauses b.mid.tables n p.holds.formed st.stands) (type_of_node b.mid.tables.kinds n) b.second in
        record { holds = q.holds; images = omega (arith, q.images, ap length p.images) }

    pub walk_holds : (es : List Node) (s f : State) → Holds o s → ((j : ℕ) (e : Node) → slice_get es j ≡ Some e → slice_get o.entries (length s.images + j) ≡ Some e) →
        walk m r o.overrides es s ≡ goes f → Holds o f × (length f.images ≡ length s.images + length es)
    walk_holds [] s f hold rest w =
        let z : length s.images ≡ length s.images + 0 = omega arith in
        subst (λ x. Holds o x × (length x.images ≡ length s.images + 0)) (same_goes s f w) (hold, z)
    walk_holds (e ∷ es) s f hold rest w =
        let b = then_goes (walk_one m r o.overrides e s) (walk m r o.overrides es) f w in
        let here : slice_get o.entries (length s.images) ≡ Some e = let z : length s.images ≡ length s.images + 0 = omega arith in ap (slice_get o.entries) z ∙ rest 0 e refl in
        let one = one_holds s b.mid hold e here b.first in
        let next : (j : ℕ) (g : Node) → slice_get es j ≡ Some g → slice_get o.entries (length b.mid.images + j) ≡ Some g =
        λ j g y. let z : length b.mid.images + j ≡ length s.images + suc j = omega (arith, one.images) in ap (slice_get o.entries) z ∙ rest (suc j) g y in
        let q = walk_holds es b.mid f one.holds next b.second in
        (q.0, omega (arith, q.1, one.images))

-- ---- the constants that are left

-- what mapping n constants from c on leaves
record MapsAll (o : Old) (c n : ℕ) (s f : State) : Type 0 where
  holds : Holds o f
  images : f.images ≡ s.images
  settled : f.settled ≡ s.settled
  count : length f.tables.constants.list ≡ length s.tables.constants.list
  now : (i : ℕ) (k : NewConstant) → c ≤ i → i < c + n → slice_get f.tables.constants.list i ≡ Some k → k.mapped ≡ true
  stays : Stays s.tables.constants.list f.tables.constants.list

map_next : (o : Old) → CheckedOld o → (c : ℕ) (s : State) → Holds o s → length s.images ≡ length o.entries → MapsOne o c s (map_constant c s)
map_next o ok c s h len = map_constant_holds o c s h (λ i y. omega (arith, ok.inits c i y, len))

-- the next constant, and those after it
maps_both : (o : Old) (c n : ℕ) (s : State) → MapsOne o c s (map_constant c s) → MapsAll o (c + 1) n (map_constant c s) (map_more (c + 1) n (map_constant c s)) → MapsAll o c (suc n) s (map_more (c + 1) n (map_constant c s))
maps_both o c n s one rest =
    record {
      holds = rest.holds;
      images = rest.images ∙ one.images;
      settled = rest.settled ∙ one.settled;
      count = rest.count ∙ one.count;
      now = λ i k a b y. ⊎_elim (λ (e : i ≡ c). here i k e y) (λ (ne : i ≡ c → ⊥). rest.now i k (omega (arith, a, ne)) (omega (arith, b)) y) (cases_eq i c);
      stays = record { stays = λ i k y m. rest.stays.stays i k (one.stays.stays i k y m) m };
    }
  where
    f : State
    f = map_more (c + 1) n (map_constant c s)

    -- constant c is mapped by its own step, and stays
    here : (i : ℕ) (k : NewConstant) → i ≡ c → slice_get f.tables.constants.list i ≡ Some k → k.mapped ≡ true
    here i k e y =
        let g = get_there (map_constant c s).tables.constants.list c (omega (arith, e, rest.count, slice_get_within f.tables.constants.list i k y)) in
        let z : g.0.mapped ≡ true = one.now g.0 g.1 in
        let q : g.0 ≡ k = same_Some g.0 k (sym (rest.stays.stays c g.0 g.1 z) ∙ ap (slice_get f.tables.constants.list) (sym e) ∙ y) in
        ap (λ (x : NewConstant). x.mapped) (sym q) ∙ z

map_more_holds : (o : Old) → CheckedOld o → (n c : ℕ) (s : State) → Holds o s → length s.images ≡ length o.entries → MapsAll o c n s (map_more c n s)
map_more_holds o ok zero c s h len =
    record {
      holds = h;
      images = refl;
      settled = refl;
      count = refl;
      now = λ i k a b y. absurd (omega (arith, a, b));
      stays = record { stays = λ i k y m. y };
    }
map_more_holds o ok (suc n) c s h len =
    let one = map_next o ok c s h len in
    maps_both o c n s one (map_more_holds o ok n (c + 1) (map_constant c s) one.holds (ap length one.images ∙ len))

-- ---- the start

abbrev not_mapped : ℕ → NewConstant
not_mapped i = record { init = i; mapped = false }

start_right : (o : Old) (n : ℕ) (k : NewConstant) → slice_get (map not_mapped o.inits) n ≡ Some k → Right o (start o).tables n k
start_right o n k y = go (slice_get o.inits n) refl (sym (slice_get-map not_mapped o.inits n) ∙ y)
  where
    go : (q : Option ℕ) → slice_get o.inits n ≡ q → option_map not_mapped q ≡ Some k → Right o (start o).tables n k
    go None x z = absurd (none-some k z)
    go (Some i) x z =
        let is : not_mapped i ≡ k = same_Some (not_mapped i) k z in
        subst (Right o (start o).tables n) is
        (record { unmapped = λ _. x; within = λ m. absurd (false≢true m); tree_is = λ m _ _. absurd (false≢true m) })

pub start_holds : (o : Old) → Holds o (start o)
start_holds o =
    record {
      none = refl;
      formed = record { stand = λ k e y. absurd (none-some e y); even = refl };
      images = λ h i y. absurd (none-some i y);
      many = omega (arith, length-map o.inits not_mapped);
      constants = start_right o;
      settles = λ p c y. absurd (none-some c y);
      most = omega arith;
      small = omega arith;
      few = omega arith;
    }

-- ---- the end

module _ (o : Old) (f : State) (h : Holds o f) where
  new_trees_are : new_trees f ≡ trees_of f.tables
  new_trees_are = sym (ap (λ (g : Option (List Node)). grown (reading_by (inits_of f.tables.constants) g) [] f.tables.entries) h.none)

  stands_for : (tree : Tree) (i : ℕ) → Has f.tables tree i → StandsFor f tree i
  stands_for tree i x = (x.within, ap (λ ts. tree_at ts i) new_trees_are ∙ x.tree_is)

  holds_tree : (tree : Tree) (c : ℕ) → Resolved f.tables tree c → HoldsTree f tree c
  holds_tree tree c x = (x.constant, x.there, x.mapped, stands_for tree x.constant.init (record { within = x.within; tree_is = x.tree_is }))

  pub holds_keeps : length f.images ≡ length o.entries → ((i : ℕ) (k : NewConstant) → slice_get f.tables.constants.list i ≡ Some k → k.mapped ≡ true) → length f.settled ≡ length o.overrides → KeepsTrees o f
  holds_keeps len mapped every =
      record {
        every_handle = len;
        images = λ j i y. stands_for (tree_at (old_trees o) j) i (h.images j i y);
        constants = constants;
        every_override = every;
        overrides = λ p c y. holds_tree (override_tree o p) c (h.settles p c y).resolved;
        no_override = λ k e y. (h.formed.stand k e y).no_override;
      }
    where
      constants : (c i : ℕ) → slice_get o.inits c ≡ Some i → HoldsTree f (tree_at (old_trees o) i) c
      constants c i y =
          let g = get_there f.tables.constants.list c (omega (arith, h.many, slice_get_within o.inits c i y)) in
          let m : g.0.mapped ≡ true = mapped c g.0 g.1 in
          let q : Right o f.tables c g.0 = h.constants c g.0 g.1 in
          holds_tree (tree_at (old_trees o) i) c (record { constant = g.0; there = g.1; mapped = m; within = q.within m; tree_is = q.tree_is m i y })

pub walk_keeps_trees : WalkKeepsTrees
walk_keeps_trees m r o f clauses ok roomy few w =
    let b = then_goes (walk m r o.overrides o.entries (start o)) (settle_rest r o.overrides) f w in
    let one = walk_holds o r ok roomy few m clauses o.entries (start o) b.mid (start_holds o) (λ j e y. let z : 0 + j ≡ j = omega arith in ap (slice_get o.entries) z ∙ y) b.first in
    let some = settle_more_holds o r ok roomy (length o.overrides - length b.mid.settled) b.mid f one.0 b.second in
    let len : length f.images ≡ length o.entries = omega (arith, ap length some.images, one.1) in
    let rest = map_more_holds o ok (length f.tables.constants.list) 0 f some.holds len in
    holds_keeps o (map_rest f) rest.holds (ap length rest.images ∙ len)
    (λ i k y. rest.now i k (omega arith) (omega (arith, rest.count, slice_get_within (map_rest f).tables.constants.list i k y)) y)
    (omega (arith, ap length rest.settled, some.settled, one.0.most))
