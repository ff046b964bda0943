-- An Emit, handle by handle: what is written, the open stretch, and what is still to come.
use Rattle.std.specs.Prelude.{◌≡◌, ℕ, ◌+◌, ◌≤◌, List, length, [], ◌∷◌, map, Some, None, Ok, Err, Option, Result}
use Rattle.arena.specs.declared.range.Range.{Range}
use Rattle.arena.specs.Nodes.{Node}
use Rattle.blocks.specs.Weave.{emits}
use Rattle.refusals.specs.declared.Refusal.{Refusal}
use Rattle.adjusting.specs.declared.work.Work.{Work}
use Rattle.adjusting.specs.declared.emits.Counts.{Counts}
use Rattle.adjusting.specs.Emits.{kept, struck, running, stretches, emit_of}
use Rattle.adjusting.specs.Rules.{Outcome, add_all}
use Rattle.adjusting.specs.Works.{Lenders, Went, room_of, state_of}

-- an Emit of the open stretch, if there is one
abbrev pub opened : Node → Option Range → List Node
opened n None = []
opened n (Some r) = emit_of n r ∷ []

-- the stretches that are still to be written, where these numbers follow
abbrev pub pending : Option Range → List ℕ → List Range
pending None hs = stretches hs
pending (Some r) hs = running r hs

-- the outcome of writing them
abbrev pub left : Node → Option Range → List ℕ → Work → Outcome
left n o hs w = add_all (room_of w) (map (emit_of n) (pending o hs)) (state_of w)

-- what is left gives the whole, with this number dealt with; or the whole stops here
abbrev pub Took : Node → Option Range → ℕ → Work → Work → Result Range Refusal → Type 0
Took n o h a b (Ok r) = (hs : List ℕ) → left n (Some r) hs b ≡ left n o (h ∷ hs) a
Took n o h a b (Err e) = (hs : List ℕ) → Went {A = Range} (left n o (h ∷ hs) a) (state_of b) (Err e)

-- that, in the same room, with the same tables lent
pub record Extended (n : Node) (o : Option Range) (h : ℕ) (a b : Work) (r : Result Range Refusal) : Type 0 where
  pub took : Took n o h a b r
  pub next : b.next ≡ a.next
  pub room : room_of b ≡ room_of a
  pub lenders : Lenders a b

-- ---- the whole Emit

-- what the Emits in place of n count: so many numbers that a word holds them
pub record Counted (images : List ℕ) (fs : List Node) (n : Node) (c : Counts) : Type 0 where
  pub emitted : c.emitted ≡ length (kept images fs (emits n))
  pub struck : c.struck ≡ struck images fs (emits n)
  pub few : c.emitted + c.struck ≤ 4294967296
