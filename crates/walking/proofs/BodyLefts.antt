-- What is left of a walk over a body gives the whole.
use Rattle.std.proofs.Common.{◌≡◌, ℕ, suc, ◌+◌, ◌<◌, List, ◌∷◌, length, drop, slice_index_or, sym, ap, ◌∙◌, subst, arith}
use Rattle.std.proofs.Common.{Ok, Result}
use Rattle.std.proofs.Math.Seq.{drop-cons}
use Rattle.std.proofs.Common.{Bor}
use Rattle.refusals.specs.declared.Refusal.{Refusal}
use Rattle.arena.specs.declared.entry.Entry.{Entry}
use Rattle.arena.specs.Nodes.{node, nodes}
use Rattle.evaluator.specs.Verdicts.{Meaning}
use Rattle.walking.specs.States.{Room, State, Outcome, then}
use Rattle.walking.specs.Works.{Went}
use Rattle.walking.specs.BodyWalks.{body_walk, body_one}
use Rattle.walking.specs.BodyWorks.{BodyLenders, BodyStepped, body_room, body_state_of}
use Rattle.walking.specs.declared.body_work.BodyWork.{BodyWork}
use Rattle.walking.proofs.Lefts.{goes_is}

-- the next entry of those from i on
pub body_step : (m : Meaning) (r : Room) (es : List Entry) (os : List ℕ) (i : ℕ) (d : Entry) (s : State) → i < length es →
    body_walk m r (nodes (drop i es) os) s ≡ then (body_one m r (node os (slice_index_or es i d)) s) (body_walk m r (nodes (drop (i + 1) es) os))
body_step m r es os i d s l =
    let e : drop i es ≡ slice_index_or es i d ∷ drop (i + 1) es = let n : suc i ≡ i + 1 = omega arith in subst (λ k. drop i es ≡ slice_index_or es i d ∷ drop k es) n (drop-cons es i d l) in
    ap (λ xs. body_walk m r (nodes xs os) s) e

-- an entry that the walk goes past leaves the rest of the walk
body_goes : (m : Meaning) (r : Room) (es : List Entry) (os : List ℕ) (i : ℕ) (d : Entry) (s t : State) (u : Unit {0}) → i < length es →
    Went (body_one m r (node os (slice_index_or es i d)) s) t (Ok u) →
    body_walk m r (nodes (drop (i + 1) es) os) t ≡ body_walk m r (nodes (drop i es) os) s
body_goes m r es os i d s t u l w =
    sym (body_step m r es os i d s l ∙ ap (λ o. then o (body_walk m r (nodes (drop (i + 1) es) os))) (goes_is (body_one m r (node os (slice_index_or es i d)) s) t u w))

lenders_on : (w a b : BodyWork) → BodyLenders w a → BodyLenders a b → BodyLenders w b
lenders_on w a b p q =
    record {
      entries = q.entries ∙ p.entries;
      operands = q.operands ∙ p.operands;
      over = q.over ∙ p.over;
      scratch = q.scratch ∙ p.scratch;
      expressions = q.expressions ∙ p.expressions;
      kinds = q.kinds ∙ p.kinds;
      kinds_slots = q.kinds_slots ∙ p.kinds_slots;
      images = q.images ∙ p.images;
      images_slots = q.images_slots ∙ p.images_slots;
    }

-- The same of the tables: what is left of the walk over w's entries, from a to b.
pub body_on : (m : Meaning) (w a b : BodyWork) (i : ℕ) (d : Entry) (u : Unit {0}) (x : Result (Unit {0}) Refusal) (o : Outcome) →
    body_walk m (body_room w) (nodes (drop i w.entries.now) w.operands.now) (body_state_of a) ≡ o → body_room a ≡ body_room w → BodyLenders w a →
    i < length w.entries.now → BodyStepped (λ r s. body_one m r (node a.operands.now (slice_index_or w.entries.now i d)) s) a b x → x ≡ Ok u →
    (body_walk m (body_room w) (nodes (drop (i + 1) w.entries.now) w.operands.now) (body_state_of b) ≡ o) × (body_room b ≡ body_room w) × BodyLenders w b
body_on m w a b i d u x o left room lend l step ok =
    let went : Went (body_one m (body_room w) (node w.operands.now (slice_index_or w.entries.now i d)) (body_state_of a)) (body_state_of b) (Ok u) =
    subst (λ y. Went (body_one m (body_room w) (node w.operands.now (slice_index_or w.entries.now i d)) (body_state_of a)) (body_state_of b) y) ok
    (subst (λ r. Went (body_one m r (node w.operands.now (slice_index_or w.entries.now i d)) (body_state_of a)) (body_state_of b) x) room
    (subst (λ (os : Bor (List ℕ)). Went (body_one m (body_room a) (node os.now (slice_index_or w.entries.now i d)) (body_state_of a)) (body_state_of b) x) lend.operands step.went)) in (
      body_goes m (body_room w) w.entries.now w.operands.now i d (body_state_of a) (body_state_of b) u l went ∙ left,
      step.room ∙ room,
      lenders_on w a b lend step.lenders,
    )
