-- What becomes of an Emit: its handles are sent to their images, and what is still to be emitted falls into longest stretches.
use Rattle.std.specs.Prelude.{ℕ, ◌+◌, ◌-◌, cond, List, [], ◌∷◌, map, Some, None, Option, ◌==◌, slice_index}
use Rattle.std.specs.List.{slice_get, filter_map, range_with_len}
use Rattle.arena.specs.declared.range.Range.{Range}
use Rattle.arena.specs.Nodes.{Node}
use Rattle.blocks.specs.Sight.{is_pre_emit}
use Rattle.blocks.specs.Weave.{emits}
use Rattle.walking.specs.Images.{image_of}

-- ---- each handle

-- an image, if it is an entry that has to be emitted
abbrev pub emitted_if : ℕ → Option Node → Option ℕ
emitted_if image None = None
emitted_if image (Some e) = cond (is_pre_emit e.kind) None (Some image)

-- Where an emitted handle goes, over the new entries fs: to its image. It is struck where that is a pre-emit entry; and where it is no
-- entry at all, which no image in a body that was walked is.
unfoldable pub sent_to : List ℕ → List Node → ℕ → Option ℕ
sent_to images fs h = emitted_if (image_of images h) (slice_get fs (image_of images h))

-- what these handles still emit, in order
abbrev pub kept : List ℕ → List Node → List ℕ → List ℕ
kept images fs hs = filter_map (sent_to images fs) hs

-- 1 where a handle is struck
abbrev pub strikes : Option ℕ → ℕ
strikes None = 1
strikes (Some image) = 0

-- how many of them are struck, every naming counted
abbrev pub struck : List ℕ → List Node → List ℕ → ℕ
struck images fs [] = 0
struck images fs (h ∷ hs) = strikes (sent_to images fs h) + struck images fs hs

-- ---- longest stretches

-- from a first number up to an end
abbrev pub range : ℕ → ℕ → Range
range first end = record { first = first; end = end }

-- its numbers, the end not among them
abbrev pub numbers : Range → List ℕ
numbers r = range_with_len r.first (r.end - r.first)

-- the stretches of an open one and the numbers that follow it
abbrev pub running : Range → List ℕ → List Range
running r [] = r ∷ []
running r (h ∷ hs) = cond (h == r.end) (running (range r.first (h + 1)) hs) (r ∷ running (range h (h + 1)) hs)

-- the longest stretches of successive numbers
abbrev pub stretches : List ℕ → List Range
stretches [] = []
stretches (h ∷ hs) = running (range h (h + 1)) hs

-- ---- the new Emits

-- an Emit of a stretch, with the last words and the span of the old one
abbrev pub emit_of : Node → Range → Node
emit_of n r =
    record {
      kind = 0;
      words = r.first ∷ r.end ∷ slice_index n.words 2 ∷ slice_index n.words 3 ∷ [];
      operands = [];
      span = n.span;
    }

-- an Emit for each longest stretch of what the old one still emits
abbrev pub emits_of : List ℕ → List Node → Node → List Node
emits_of images fs n = map (emit_of n) (stretches (kept images fs (emits n)))
