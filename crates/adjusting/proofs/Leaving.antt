-- One record on: what is left gives the whole.
use Rattle.std.proofs.Common.{◌≡◌, ◌==◌, ℕ, ◌+◌, ◌<◌, Bool, true, false, cond, Decides, List, ◌∷◌, length, map, drop, slice_index_or, Ok, Err, sym, refl, ap, ◌∙◌, subst, arith}
use Rattle.std.proofs.lemmas.List.{drop_more, drop-map}
use Rattle.arena.specs.declared.entry.Entry.{Entry}
use Rattle.arena.specs.Nodes.{Node, node, nodes}
use Rattle.blocks.specs.declared.Role.{Role}
use Rattle.blocks.specs.declared.Role.TheVariants.{Opening, Closing, Doing}
use Rattle.blocks.specs.Blocks.{blocks_after_of, role_by, role_given_to}
use Rattle.refusals.specs.declared.Refusal.{Refusal}
use Rattle.adjusting.specs.declared.emits.Counts.{Counts}
use Rattle.adjusting.specs.Rules.{Room, State, Outcome, goes, full, then, add_all, counting, finished, emits_now, strikes_now, adjust_records}
use Rattle.adjusting.specs.Works.{Lenders, Stepped, Went, entries_of, records_of, room_of, state_of}
use Rattle.adjusting.specs.Places.{Adjusted, Passed, left_of}
use Rattle.adjusting.specs.declared.work.Inputs.{Inputs}
use Rattle.adjusting.specs.declared.work.Work.{Work}
use Rattle.adjusting.proofs.Turning.{lenders_on}

-- the next record and those after it
pub next_is : (es : List Entry) (os : List ℕ) (k : ℕ) (d : Entry) → k < length es → drop k (nodes es os) ≡ node os (slice_index_or es k d) ∷ drop (k + 1) (nodes es os)
next_is es os k d l =
    drop-map (node os) k es ∙ ap (map (node os)) (drop_more es k d l)
    ∙ ap (λ (ns : List Node). node os (slice_index_or es k d) ∷ ns) (sym (drop-map (node os) (k + 1) es))

goes_is : (A : Type 0) (o : Outcome) (t : State) (x : A) → Went o t (Ok x) → o ≡ goes t
goes_is A (goes s) t x w = ap goes (sym w)
goes_is A (full s table) t x w = absurd w

stops : (A B : Type 0) (o : Outcome) (f g : State → Outcome) (t : State) (e : Refusal) → Went {A = A} o t (Err e) → Went {A = B} (then (then o f) g) t (Err e)
stops A B (goes s) f g t e w = absurd w
stops A B (full s table) f g t e w = w

module _ (r : Room) (images : List ℕ) (fs : List Node) (n : Node) (rest : List Node) (s t : State) where
  -- a record that is written and counted
  pub record_goes : (c : Counts) → Went (add_all r (finished images fs n) s) t (Ok c) → c.emitted ≡ emits_now images fs n → c.struck ≡ strikes_now images fs n →
      adjust_records r images fs rest (counting c.emitted c.struck t) ≡ adjust_records r images fs (n ∷ rest) s
  record_goes c w e k =
      ap (λ x. adjust_records r images fs rest (counting x c.struck t)) e ∙ ap (λ x. adjust_records r images fs rest (counting (emits_now images fs n) x t)) k
      ∙ sym (ap (λ o. then (then o (λ u. goes (counting (emits_now images fs n) (strikes_now images fs n) u))) (adjust_records r images fs rest)) (goes_is Counts (add_all r (finished images fs n) s) t c w))

  -- a record that there is no room for
  pub record_stops : (e : Refusal) → Went {A = Counts} (add_all r (finished images fs n) s) t (Err e) → Went {A = Unit {0}} (adjust_records r images fs (n ∷ rest) s) t (Err e)
  record_stops e w =
      stops Counts (Unit {0}) (add_all r (finished images fs n) s) (λ u. goes (counting (emits_now images fs n) (strikes_now images fs n) u)) (adjust_records r images fs rest) t e w

-- what the rules make of the records from a place on
abbrev from : Room → Inputs → ℕ → State → Outcome
from r i k s = adjust_records r i.images.now (entries_of i) (drop k (records_of i)) s

-- how a was left when its next record e was written in m, which counting and going on made b
module _ (a m b : Work) (d : Entry) (l : a.next < length a.inputs.records.now) where
  abbrev here : Node
  here = node a.inputs.operands.now (slice_index_or a.inputs.records.now a.next d)

  next_here : left_of a ≡ here ∷ drop (a.next + 1) (records_of a.inputs)
  next_here = next_is a.inputs.records.now a.inputs.operands.now a.next d l

  pub record_on : (c : Counts) → Stepped (λ r s. add_all r (finished a.inputs.images.now (entries_of a.inputs) here) s) a m (Ok c) →
      c.emitted ≡ emits_now a.inputs.images.now (entries_of a.inputs) here → c.struck ≡ strikes_now a.inputs.images.now (entries_of a.inputs) here →
      Lenders m b → room_of b ≡ room_of m → b.next ≡ m.next + 1 → state_of b ≡ counting c.emitted c.struck (state_of m) → (u : Unit {0}) → Adjusted Passed a b (Ok u)
  record_on c w e k lend room next state u =
      let i : b.inputs ≡ a.inputs = lend.inputs ∙ w.lenders.inputs in
      let at : b.next ≡ a.next + 1 = next ∙ ap (λ x. x + 1) w.next in
      record {
        onward =
            ap (λ r. from r b.inputs b.next (state_of b)) (room ∙ w.room)
            ∙ ap (λ x. from (room_of a) x b.next (state_of b)) i ∙ ap (λ x. from (room_of a) a.inputs x (state_of b)) at
            ∙ ap (from (room_of a) a.inputs (a.next + 1)) state
            ∙ record_goes (room_of a) a.inputs.images.now (entries_of a.inputs) here (drop (a.next + 1) (records_of a.inputs)) (state_of a) (state_of m) c w.went e k
            ∙ ap (λ ns. adjust_records (room_of a) a.inputs.images.now (entries_of a.inputs) ns (state_of a)) (sym next_here);
        to = record { node = here; is = next_here ∙ ap (λ ns. here ∷ ns) (sym (ap (λ x. drop b.next (records_of x)) i ∙ ap (λ x. drop x (records_of a.inputs)) at)) };
        further = omega (arith, at);
        room = room ∙ w.room;
        lenders = lenders_on a m b w.lenders lend;
      }

  pub record_off : (e : Refusal) → Stepped {A = Counts} (λ r s. add_all r (finished a.inputs.images.now (entries_of a.inputs) here) s) a m (Err e) → Adjusted Passed a m (Err e)
  record_off e w =
      record {
        onward = subst (λ ns. Went {A = Unit {0}} (adjust_records (room_of a) a.inputs.images.now (entries_of a.inputs) ns (state_of a)) (state_of m) (Err e)) (sym next_here)
            (record_stops (room_of a) a.inputs.images.now (entries_of a.inputs) here (drop (a.next + 1) (records_of a.inputs)) (state_of a) (state_of m) e w.went);
        to = tt;
        further = tt;
        room = w.room;
        lenders = w.lenders;
      }

-- ---- what stands next

same_head : {x y : Node} {xs ys : List Node} → ◌≡◌ {A = List Node} (x ∷ xs) (y ∷ ys) → x ≡ y
same_head e = cc

pub next_role : (es : List Entry) (os : List ℕ) (k : ℕ) (d : Entry) (n : Node) (ns : List Node) → k < length es → drop k (nodes es os) ≡ n ∷ ns →
    role_given_to (node os (slice_index_or es k d)) ≡ role_given_to n
next_role es os k d n ns l e = ap role_given_to (same_head (sym (next_is es os k d l) ∙ e))

-- a record that is neither Open nor Close has its blocks after it
pub due : (kind word count : ℕ) → role_by kind word ≡ Doing count → blocks_after_of kind word ≡ count
due kind word count e = go (kind == 23) (kind == 24) e
  where
    go : (b c : Bool) → ◌≡◌ {A = Role} (cond b Opening (cond c Closing (Doing (blocks_after_of kind word)))) (Doing count) → blocks_after_of kind word ≡ count
    go true c e = let z : ◌≡◌ {A = ℕ} 0 1 = cc in absurd (omega arith)
    go false true e = let z : ◌≡◌ {A = ℕ} 0 1 = cc in absurd (omega arith)
    go false false e = cc

pub is_closing : (r s : Role) → r ≡ s → r ≡ Closing → Decides true (s ≡ Closing)
is_closing r s e c = (λ _. sym e ∙ c, λ _. refl)

pub not_closing : (r s : Role) → r ≡ s → (r ≡ Closing → ⊥) → Decides false (s ≡ Closing)
not_closing r s e c = (λ h. let z : ◌≡◌ {A = ℕ} 0 1 = cc in absurd (omega arith), λ h. absurd (c (e ∙ h)))
