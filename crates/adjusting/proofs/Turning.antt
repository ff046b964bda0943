-- An Emit, handle by handle: what is left gives the whole.
use Rattle.std.proofs.Common.{◌≡◌, ℕ, suc, ◌+◌, ◌-◌, ◌<◌, ◌≤◌, List, [], ◌∷◌, length, Some, None, Ok, Err, Option, sym, ap, ◌∙◌, subst, arith, slice_index}
use Rattle.std.specs.List.{range_with_len, cons_option}
use Rattle.arena.specs.declared.range.Range.{Range}
use Rattle.arena.specs.Nodes.{Node}
use Rattle.blocks.specs.Weave.{emits}
use Rattle.refusals.specs.declared.Refusal.{Refusal}
use Rattle.adjusting.specs.declared.emits.Counts.{Counts}
use Rattle.adjusting.specs.declared.work.Work.{Work}
use Rattle.adjusting.specs.Emits.{sent_to, kept, strikes, struck, emits_of}
use Rattle.adjusting.specs.Rules.{State, Outcome, goes, full, add_all}
use Rattle.adjusting.specs.Works.{Lenders, Stepped, Went, room_of, state_of}
use Rattle.adjusting.specs.Turns.{left, Extended}

-- what stays of the tables, step after step
pub lenders_on : (w a b : Work) → Lenders w a → Lenders a b → Lenders w b
lenders_on w a b p q =
    record {
      inputs = q.inputs ∙ p.inputs;
      records = q.records ∙ p.records;
      operands = q.operands ∙ p.operands;
      records_stay = (q.records_stay.0 ∙ p.records_stay.0, q.records_stay.1 ∙ p.records_stay.1);
      operands_stay = (q.operands_stay.0 ∙ p.operands_stay.0, q.operands_stay.1 ∙ p.operands_stay.1);
    }

-- a refusal is one whatever would have been answered
pub refused : (A B : Type 0) (o : Outcome) (s : State) (e : Refusal) → Went {A = A} o s (Err e) → Went {A = B} o s (Err e)
refused A B (goes t) s e w = w
refused A B (full t table) s e w = w

-- the handles from h up to the end
abbrev pub rest : ℕ → ℕ → List ℕ
rest h end = range_with_len h (end - h)

rest_step : (h end : ℕ) → h < end → rest h end ≡ h ∷ rest (h + 1) end
rest_step h end l = let e : end - h ≡ suc (end - (h + 1)) = omega (arith, l) in ap (range_with_len h) e

pub rest_none : (h end : ℕ) → end ≤ h → rest h end ≡ []
rest_none h end l = let e : end - h ≡ 0 = omega (arith, l) in ap (range_with_len h) e

-- What has been done of the Emit n, from a to b, where the handles from h up to the end are still to come.
pub record Coming (images : List ℕ) (fs : List Node) (n : Node) (h end : ℕ) (o : Option Range) (c : Counts) (a b : Work) : Type 0 where
  pub left : left n o (kept images fs (rest h end)) b ≡ left n None (kept images fs (emits n)) a
  pub emitted : c.emitted + length (kept images fs (rest h end)) ≡ length (kept images fs (emits n))
  pub struck : c.struck + struck images fs (rest h end) ≡ struck images fs (emits n)
  pub both : (c.emitted + c.struck) + slice_index n.words 0 ≡ h
  pub next : b.next ≡ a.next
  pub room : room_of b ≡ room_of a
  pub lenders : Lenders a b

module _ (images : List ℕ) (fs : List Node) where
  kept_step : (h end : ℕ) → h < end → kept images fs (rest h end) ≡ cons_option (sent_to images fs h) (kept images fs (rest (h + 1) end))
  kept_step h end l = ap (kept images fs) (rest_step h end l)

  struck_step : (h end : ℕ) → h < end → struck images fs (rest h end) ≡ strikes (sent_to images fs h) + struck images fs (rest (h + 1) end)
  struck_step h end l = ap (struck images fs) (rest_step h end l)

  module _ (n : Node) (h end : ℕ) (o : Option Range) (c : Counts) (a b : Work) (l : h < end) (k : Coming images fs n h end o c a b) where
    -- this handle is struck
    pub strike : sent_to images fs h ≡ None → Coming images fs n (h + 1) end o (record { emitted = c.emitted; struck = c.struck + 1 }) a b
    strike e =
        let ks : kept images fs (rest h end) ≡ kept images fs (rest (h + 1) end) = kept_step h end l ∙ ap (λ x. cons_option x (kept images fs (rest (h + 1) end))) e in
        let ss : struck images fs (rest h end) ≡ 1 + struck images fs (rest (h + 1) end) = struck_step h end l ∙ ap (λ x. strikes x + struck images fs (rest (h + 1) end)) e in
        record {
          left = ap (λ hs. left n o hs b) (sym ks) ∙ k.left;
          emitted = omega (arith, k.emitted, ap length ks);
          struck = omega (arith, k.struck, ss);
          both = omega (arith, k.both);
          next = k.next;
          room = k.room;
          lenders = k.lenders;
        }

    module _ (image : ℕ) (e : sent_to images fs h ≡ Some image) where
      kept_here : kept images fs (rest h end) ≡ image ∷ kept images fs (rest (h + 1) end)
      kept_here = kept_step h end l ∙ ap (λ x. cons_option x (kept images fs (rest (h + 1) end))) e

      struck_here : struck images fs (rest h end) ≡ struck images fs (rest (h + 1) end)
      struck_here = let z : 0 + struck images fs (rest (h + 1) end) ≡ struck images fs (rest (h + 1) end) = omega arith in
          struck_step h end l ∙ ap (λ x. strikes x + struck images fs (rest (h + 1) end)) e ∙ z

      whole : left n o (image ∷ kept images fs (rest (h + 1) end)) b ≡ left n None (kept images fs (emits n)) a
      whole = ap (λ hs. left n o hs b) (sym kept_here) ∙ k.left

      -- it is emitted
      pub keep : (r : Range) (d : Work) → Extended n o image b d (Ok r) →
          Coming images fs n (h + 1) end (Some r) (record { emitted = c.emitted + 1; struck = c.struck }) a d
      keep r d x =
          record {
            left = x.took (kept images fs (rest (h + 1) end)) ∙ whole;
            emitted = omega (arith, k.emitted, ap length kept_here);
            struck = omega (arith, k.struck, struck_here);
            both = omega (arith, k.both);
            next = x.next ∙ k.next;
            room = x.room ∙ k.room;
            lenders = lenders_on a b d k.lenders x.lenders;
          }

      -- or there is no room before it
      pub stop : (x : Refusal) (d : Work) → Extended n o image b d (Err x) → Stepped {A = Counts} (λ r s. add_all r (emits_of images fs n) s) a d (Err x)
      stop x d y =
          record {
            went = refused Range Counts (left n None (kept images fs (emits n)) a) (state_of d) x (subst (λ w. Went {A = Range} w (state_of d) (Err x)) whole (y.took (kept images fs (rest (h + 1) end))));
            next = y.next ∙ k.next;
            room = y.room ∙ k.room;
            lenders = lenders_on a b d k.lenders y.lenders;
          }
