-- A walk over a body that goes to its end keeps the body.
use Rattle.std.proofs.Common.{◌≡◌, ℕ, suc, ◌+◌, ◌≤◌, List, [], ◌∷◌, length, take, Some, None, Option, sym, refl, ap, ◌∙◌, subst, arith}
use Rattle.std.proofs.Common.{Result}
use Rattle.std.specs.List.{slice_get}
use Rattle.std.specs.Option.{option_map}
use Rattle.std.proofs.lemmas.List.{length_push}
use Rattle.std.proofs.lemmas.Option.{slice_get_within, slice_get-map, none-some}
use Rattle.arena.specs.Nodes.{Node}
use Rattle.refusals.specs.declared.Refusal.{Refusal}
use Rattle.ir.specs.Faults.{constant, overriding}
use Rattle.evaluator.specs.declared.expression_kind.ExpressionKind.{ExpressionKind}
use Rattle.evaluator.specs.declared.expression_kind.ExpressionKind.TheVariants.{Const, Override, Runtime}
use Rattle.evaluator.specs.declared.tables.FullTable.{FullTable}
use Rattle.evaluator.specs.declared.tables.NewConstant.{NewConstant}
use Rattle.evaluator.specs.Trees.{Tree, Reading, tree_at, tree_if, grown, word, reading_over}
use Rattle.evaluator.specs.Tables.{Constants, Tables, full, adding}
use Rattle.evaluator.specs.Clauses.{Clauses, Keeps, Lawful, WellFormed, trees as trees_under}
use Rattle.evaluator.specs.ExpressionKinds.{type_of_node}
use Rattle.evaluator.specs.Verdicts.{Verdict, folds, declines, faults, Meaning}
use Rattle.evaluator.proofs.Growing.{tree_below, tree_there}
use Rattle.evaluator.proofs.Standing.{answer_within, formed_after, self_lawful}
use Rattle.walking.specs.States.{Room, State, goes, note_image, with_tables, with_image}
use Rattle.walking.specs.Images.{mapped}
use Rattle.walking.specs.Walks.{answers_unless, noted}
use Rattle.walking.specs.Works.{Went}
use Rattle.walking.specs.Laws.{Old, Checked, HoldsTree, KeepsTrees, valued, old_trees}
use Rattle.walking.specs.BodyWalks.{kept_unless, kept, body_judged, body_asked_as, body_asked, body_one, body_walk}
use Rattle.walking.specs.Bodies.{BodyWalkedAs, Lends, body_begun}
use Rattle.walking.specs.declared.body_work.SettledModule.{SettledModule}
use Rattle.walking.proofs.Lefts.{goes_is}
use Rattle.evaluator.specs.Views.{nodes_in}
use Rattle.walking.specs.BodyLaws.{CheckedBody, Sends, KeepsBody, WalkKeepsBody, body_start, old_body_trees}
use Rattle.walking.proofs.Holding.{Has, each_pushed, has_more}
use Rattle.walking.proofs.Steps.{never, same_goes, then_goes, room_goes, full_none, get_there}
use Rattle.walking.proofs.Mapped.{Stood, Reads, ReadsOverride, entry_stands}
use Rattle.walking.proofs.Sending.{sends_more}

module _ (o : Old) (f : State) (most : ℕ) (old : List Node) (r : Room) (keeps : KeepsTrees o f) (ok : CheckedBody o most old) (roomy : r.tables.entries ≤ 4294967295) where
  abbrev c : Constants
  c = (body_start f).tables.constants

  abbrev trees : List Tree
  trees = old_body_trees o old

  -- What holds between steps: the settled module is as it was, the tables are well formed, and each image has its handle's tree.
  record Holds (s : State) : Type 0 where
    over : s.tables.constants ≡ c
    settled : s.settled ≡ f.settled
    formed : WellFormed s.tables
    images : (h i : ℕ) → slice_get s.images h ≡ Some i → Has s.tables (tree_at trees h) i
    small : length s.tables.entries ≤ 4294967295
    sends : Sends old s.tables.entries s.images

  -- ---- how an old entry is read

  abbrev body_reading : List Tree → Reading
  body_reading = reading_over (old_trees o) o.inits (valued o.overrides)

  -- the entry at h is read over the trees of those before it
  abbrev reading_at : ℕ → Reading
  reading_at h = body_reading (grown body_reading [] (take h old))

  reads_over : (t : Tables) (tree : Tree) (n : ℕ) → HoldsTree f tree n → Reads (record { entries = t.entries; kinds = t.kinds; constants = c }) tree n
  reads_over t tree n (k, there, mapped, (within, tree_is)) =
      record {
        named = record { init = k; there = there; mapped = mapped; below = within };
        tree_is = ap (tree_if _) (slice_get-map (λ (x : NewConstant). x.init) f.tables.constants.list n ∙ ap (option_map (λ (x : NewConstant). x.init)) there) ∙ tree_is;
      }

  reads : (s : State) (tree : Tree) (n : ℕ) → Holds s → HoldsTree f tree n → Reads s.tables tree n
  reads s tree n hold x = subst (λ d. Reads (record { entries = s.tables.entries; kinds = s.tables.kinds; constants = d }) tree n) (sym hold.over) (reads_over s.tables tree n x)

  module _ (s : State) (hold : Holds s) (h : ℕ) (at : length s.images ≡ h) (e : Node) (there : slice_get old h ≡ Some e) where
    checked : Checked o h most e
    checked = ok h e there

    inside : h ≤ length old
    inside = omega (arith, slice_get_within old h e there)

    imaged : (j i : ℕ) → slice_get s.images j ≡ Some i → Has s.tables ((reading_at h).operand j) i
    imaged j i x =
        let q = hold.images j i x in
        record { within = q.within; tree_is = q.tree_is ∙ sym (tree_below body_reading old h j inside (omega (arith, at, slice_get_within s.images j i x))) }

    con : e.kind ≡ constant → Reads s.tables ((reading_at h).constant_at (word e 0)) (word e 0)
    con z =
        let i = checked.constant z in
        subst (λ q. Reads s.tables (tree_if (old_trees o) q) (word e 0)) (sym i.1) (reads s (tree_at (old_trees o) i.0) (word e 0) hold (keeps.constants (word e 0) i.0 i.1))

    over : e.kind ≡ overriding → ReadsOverride s ((reading_at h).override_at (word e 0)) (word e 0)
    over z =
        let g = get_there f.settled (word e 0) (omega (arith, checked.override z, keeps.every_override)) in
        record {
          number = g.0;
          there = ap (λ xs. slice_get xs (word e 0)) hold.settled ∙ g.1;
          reads = reads s ((reading_at h).override_at (word e 0)) g.0 hold (keeps.overrides (word e 0) g.0 g.1);
        }

    stands : Stood s e (tree_at trees h)
    stands =
        let q = entry_stands s (reading_at h) hold.small imaged o h most at e checked con over in
        record { stands = q.stands; tree_is = q.tree_is ∙ sym (tree_there body_reading old h e there) }

  -- ---- one entry

  -- one image more
  record Walked (s b : State) : Type 0 where
    holds : Holds b
    images : length b.images ≡ length s.images + 1

  module _ (s : State) (hold : Holds s) (e : Node) (there : slice_get old (length s.images) ≡ Some e) (b : State) where
    abbrev n : Node
    n = mapped s e

    stood : Stood s e (tree_at trees (length s.images))
    stood = stands s hold (length s.images) refl e there

    -- a lawful fold, whatever kind it is recorded as
    wrote : (k : ExpressionKind) (es : List Node) (answer : ℕ) → Lawful s.tables n es answer → full r.tables s.tables.entries s.tables.kinds es ≡ None →
        note_image r answer (with_tables (adding k es s.tables) s) ≡ goes b → Walked s b
    wrote k es answer law fits w =
        let t : State = with_tables (adding k es s.tables) s in
        let has : Has t.tables (tree_at trees (length s.images)) answer = record { within = answer_within s.tables.entries es answer law.place; tree_is = law.tree ∙ stood.tree_is } in
        let room = room_goes (length s.images) r.images 12 t (goes (with_image answer t)) b w in
        subst (Walked s) (same_goes (with_image answer t) b room.1)
        (record {
          holds = record {
            over = hold.over;
            settled = hold.settled;
            formed = formed_after s.tables n es answer k hold.formed law;
            images = each_pushed (λ h i. Has t.tables (tree_at trees h) i) s.images answer (λ h i x. has_more s.tables es k (tree_at trees h) i (hold.images h i x)) has;
            small = omega (arith, full_none r.tables s.tables.entries s.tables.kinds es fits, roomy);
            sends = sends_more old s e es answer (λ h i x. (hold.images h i x).within) (λ h d x. (ok h d x).below) there law hold.sends;
          };
          images = length_push s.images answer;
        })

    folded : (es : List Node) (answer : ℕ) → Lawful s.tables n es answer → (q : Option FullTable) → full r.tables s.tables.entries s.tables.kinds es ≡ q → noted r (answers_unless q es answer s) ≡ goes b → Walked s b
    folded es answer law (Some t) x w = never _ _ _ _ w
    folded es answer law None x w = wrote Const es answer law x w

    -- an entry that is kept is a lawful fold of itself
    kept_holds : noted r (kept r n s) ≡ goes b → Walked s b
    kept_holds = go (full r.tables s.tables.entries s.tables.kinds (n ∷ [])) refl
      where
        go : (q : Option FullTable) → full r.tables s.tables.entries s.tables.kinds (n ∷ []) ≡ q → noted r (kept_unless q n s) ≡ goes b → Walked s b
        go (Some t) x w = never _ _ _ _ w
        go None x w = wrote Runtime (n ∷ []) (length s.tables.entries) (self_lawful s.tables n stood.stands) x w

    judged_holds : (v : Verdict) → Keeps s.tables n v → noted r (body_judged r n v s) ≡ goes b → Walked s b
    judged_holds (folds es answer) law w = folded es answer law (full r.tables s.tables.entries s.tables.kinds es) refl w
    judged_holds declines law w = kept_holds w
    judged_holds (faults layer code) law w = never _ _ _ _ w

    asked_holds : (m : Meaning) → Keeps s.tables n (m s.tables n) → (k : ExpressionKind) → noted r (body_asked_as k m r n s) ≡ goes b → Walked s b
    asked_holds m law Const w = judged_holds (m s.tables n) law w
    asked_holds m law Override w = kept_holds w
    asked_holds m law Runtime w = kept_holds w

    one_holds : (m : Meaning) → Clauses m → body_one m r e s ≡ goes b → Walked s b
    unfolding body_asked
    one_holds m clauses w = asked_holds m (clauses s.tables n hold.formed stood.stands) (type_of_node s.tables.kinds n) w

  -- ---- the entries in order

  module _ (m : Meaning) (clauses : Clauses m) where
    walk_holds : (es : List Node) (s b : State) → Holds s → ((j : ℕ) (e : Node) → slice_get es j ≡ Some e → slice_get old (length s.images + j) ≡ Some e) →
        body_walk m r es s ≡ goes b → Holds b × (length b.images ≡ length s.images + length es)
    walk_holds [] s b hold rest w =
        let z : length s.images ≡ length s.images + 0 = omega arith in
        subst (λ x. Holds x × (length x.images ≡ length s.images + 0)) (same_goes s b w) (hold, z)
    walk_holds (e ∷ es) s b hold rest w =
        let q = then_goes (body_one m r e s) (body_walk m r es) b w in
        let here : slice_get old (length s.images) ≡ Some e = let z : length s.images ≡ length s.images + 0 = omega arith in ap (slice_get old) z ∙ rest 0 e refl in
        let one = one_holds s hold e here q.mid m clauses q.first in
        let next : (j : ℕ) (g : Node) → slice_get es j ≡ Some g → slice_get old (length q.mid.images + j) ≡ Some g =
        λ j g y. let z : length q.mid.images + j ≡ length s.images + suc j = omega (arith, one.images) in ap (slice_get old) z ∙ rest (suc j) g y in
        let p = walk_holds es q.mid b one.holds next q.second in
        (p.0, omega (arith, p.1, one.images))

    start_holds : Holds (body_start f)
    start_holds =
        record {
          over = refl;
          settled = refl;
          formed = record { stand = λ k e y. absurd (none-some e y); even = refl };
          images = λ h i y. absurd (none-some i y);
          small = omega arith;
          sends = record {
            pre_emit_stays = λ h i y. absurd (none-some i y);
            above = λ h i g j y. absurd (none-some i y);
            operands = λ h i e n y. absurd (none-some i y);
          };
        }

    body_keeps : (b : State) → body_walk m r old (body_start f) ≡ goes b → KeepsBody o f old b
    body_keeps b w =
        let p = walk_holds old (body_start f) b start_holds (λ j e y. let z : 0 + j ≡ j = omega arith in ap (slice_get old) z ∙ y) w in
        let h = p.0 in
        record {
          every_handle = omega (arith, p.1);
          images = λ j i y. let q = h.images j i y in (q.within, ap (λ d. tree_at (trees_under d b.tables.entries) i) (sym h.over) ∙ q.tree_is);
          no_override = λ k e y. (h.formed.stand k e y).no_override;
          sends = h.sends;
        }

pub walk_keeps_body : WalkKeepsBody
walk_keeps_body m r o f most es b clauses keeps ok roomy w = body_keeps o f most es r keeps ok roomy m clauses b w

-- ---- what a walk is told by

abbrev begun_at : List NewConstant → List Node → List ℕ → State
begun_at cs gs settled =
    record { tables = record { entries = []; kinds = []; constants = record { list = cs; globals = Some gs } }; images = []; settled = settled }

begun_is : (m : SettledModule) (f : State) → Lends m f → body_begun m ≡ body_start f
begun_is m f l =
    ap (λ cs. begun_at cs (nodes_in m.globals) m.settled.now) l.constants
    ∙ ap (λ gs. begun_at f.tables.constants.list gs m.settled.now) l.globals
    ∙ ap (begun_at f.tables.constants.list f.tables.entries) l.settled

pub body_walked_as : (m : Meaning) (r : Room) (settled : SettledModule) (es : List Node) (s : State) (e : Result (Unit {0}) Refusal) → Clauses m → r.tables.entries ≤ 4294967295 →
    Went (body_walk m r es (body_begun settled)) s e → BodyWalkedAs m r settled es s e
body_walked_as m r settled es s e lawful few went =
    record {
      went = went;
      keeps = λ o f most lends keeps ok u is.
          walk_keeps_body m r o f most es s lawful keeps ok few
          (ap (body_walk m r es) (sym (begun_is settled f lends))
          ∙ goes_is (body_walk m r es (body_begun settled)) s u (subst (Went (body_walk m r es (body_begun settled)) s) is went));
    }
