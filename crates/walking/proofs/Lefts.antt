-- What is left of a walk gives the whole.
use Rattle.std.proofs.Common.{◌≡◌, ℕ, suc, ◌+◌, ◌-◌, ◌<◌, List, ◌∷◌, length, drop, slice_index_or, sym, ap, ◌∙◌, subst, arith}
use Rattle.std.proofs.Common.{Ok, Result}
use Rattle.std.proofs.Math.Seq.{drop-cons}
use Rattle.std.proofs.Common.{Bor}
use Rattle.refusals.specs.declared.Refusal.{Refusal}
use Rattle.walking.specs.declared.work.Work.{Work}
use Rattle.walking.specs.Works.{Lenders, Stepped, Went, state_of, walk_room}
use Rattle.arena.specs.declared.entry.Entry.{Entry}
use Rattle.arena.specs.Nodes.{node, nodes}
use Rattle.evaluator.specs.Verdicts.{Meaning}
use Rattle.walking.specs.Walks.{walk, walk_one}
use Rattle.walking.specs.declared.overrides.Valued.{Valued}
use Rattle.walking.specs.States.{Room, State, Outcome, goes, stops, then}
use Rattle.walking.specs.Images.{map_constant, map_more}
use Rattle.walking.specs.Overrides.{settle_next, settle_more}

-- the next constant of those from c up to n
pub map_step : (c n : ℕ) (s : State) → c < n → map_more c (n - c) s ≡ map_more (c + 1) (n - (c + 1)) (map_constant c s)
map_step c n s l = let e : n - c ≡ suc (n - (c + 1)) = omega (arith, l) in ap (λ k. map_more c k s) e

-- the next override of those from i up to n
pub settle_step : (r : Room) (os : List Valued) (i n : ℕ) (s : State) → i < n →
    settle_more r os (n - i) s ≡ then (settle_next r os s) (settle_more r os (n - (i + 1)))
settle_step r os i n s l = let e : n - i ≡ suc (n - (i + 1)) = omega (arith, l) in ap (λ k. settle_more r os k s) e

-- the next entry of those from i on
pub walk_step : (m : Meaning) (r : Room) (vs : List Valued) (es : List Entry) (os : List ℕ) (i : ℕ) (d : Entry) (s : State) → i < length es →
    walk m r vs (nodes (drop i es) os) s ≡ then (walk_one m r vs (node os (slice_index_or es i d)) s) (walk m r vs (nodes (drop (i + 1) es) os))
walk_step m r vs es os i d s l =
    let e : drop i es ≡ slice_index_or es i d ∷ drop (i + 1) es = let n : suc i ≡ i + 1 = omega arith in subst (λ k. drop i es ≡ slice_index_or es i d ∷ drop k es) n (drop-cons es i d l) in
    ap (λ xs. walk m r vs (nodes xs os) s) e

pub goes_is : {A : Type 0} (o : Outcome) (t : State) (x : A) → Went o t (Ok x) → o ≡ goes t
goes_is (goes s) t x w = ap goes (sym w)
goes_is (stops s code values) t x w = absurd w

-- an entry that the walk goes past leaves the rest of the walk
pub walk_goes : (m : Meaning) (r : Room) (vs : List Valued) (es : List Entry) (os : List ℕ) (i : ℕ) (d : Entry) (s t : State) (u : Unit {0}) → i < length es →
    Went (walk_one m r vs (node os (slice_index_or es i d)) s) t (Ok u) →
    walk m r vs (nodes (drop (i + 1) es) os) t ≡ walk m r vs (nodes (drop i es) os) s
walk_goes m r vs es os i d s t u l w =
    sym (walk_step m r vs es os i d s l ∙ ap (λ o. then o (walk m r vs (nodes (drop (i + 1) es) os))) (goes_is (walk_one m r vs (node os (slice_index_or es i d)) s) t u w))

lenders_on : (w a b : Work) → Lenders w a → Lenders a b → Lenders w b
lenders_on w a b p q =
    record {
      entries = q.entries ∙ p.entries;
      operands = q.operands ∙ p.operands;
      scratch = q.scratch ∙ p.scratch;
      expressions = q.expressions ∙ p.expressions;
      kinds = q.kinds ∙ p.kinds;
      kinds_slots = q.kinds_slots ∙ p.kinds_slots;
      constants = q.constants ∙ p.constants;
      images = q.images ∙ p.images;
      images_slots = q.images_slots ∙ p.images_slots;
      settled = q.settled ∙ p.settled;
      settled_slots = q.settled_slots ∙ p.settled_slots;
    }

-- The same of the tables: what is left of the walk over w's entries, from a to b.
pub walk_on : (m : Meaning) (vs : List Valued) (w a b : Work) (i : ℕ) (d : Entry) (u : Unit {0}) (x : Result (Unit {0}) Refusal) (o : Outcome) →
    walk m (walk_room w) vs (nodes (drop i w.entries.now) w.operands.now) (state_of a) ≡ o → walk_room a ≡ walk_room w → Lenders w a →
    i < length w.entries.now → Stepped (λ r s. walk_one m r vs (node a.operands.now (slice_index_or w.entries.now i d)) s) a b x → x ≡ Ok u →
    (walk m (walk_room w) vs (nodes (drop (i + 1) w.entries.now) w.operands.now) (state_of b) ≡ o) × (walk_room b ≡ walk_room w) × Lenders w b
walk_on m vs w a b i d u x o left room lend l step ok =
    let went : Went (walk_one m (walk_room w) vs (node w.operands.now (slice_index_or w.entries.now i d)) (state_of a)) (state_of b) (Ok u) =
    subst (λ y. Went (walk_one m (walk_room w) vs (node w.operands.now (slice_index_or w.entries.now i d)) (state_of a)) (state_of b) y) ok
    (subst (λ r. Went (walk_one m r vs (node w.operands.now (slice_index_or w.entries.now i d)) (state_of a)) (state_of b) x) room
    (subst (λ (os : Bor (List ℕ)). Went (walk_one m (walk_room a) vs (node os.now (slice_index_or w.entries.now i d)) (state_of a)) (state_of b) x) lend.operands step.went)) in (
      walk_goes m (walk_room w) vs w.entries.now w.operands.now i d (state_of a) (state_of b) u l went ∙ left,
      step.room ∙ room,
      lenders_on w a b lend step.lenders,
    )
