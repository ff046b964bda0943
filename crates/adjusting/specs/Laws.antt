-- What the rewriting of a body's records keeps.
use Rattle.std.specs.Prelude.{◌≡◌, ℕ, suc, ◌+◌, ◌<◌, cond, List, [], ◌∷◌, length, Some, None, Option}
use Rattle.std.specs.List.{slice_get, flat_map}
use Rattle.arena.specs.declared.range.Range.{Range}
use Rattle.arena.specs.Nodes.{Node}
use Rattle.blocks.specs.Blocks.{OneBlock}
use Rattle.blocks.specs.Sight.{pre_emit, InSight}
use Rattle.blocks.specs.Weave.{Item, emitted, other, weave}
use Rattle.operands.specs.Faults.{absent}
use Rattle.walking.specs.Images.{image_of}
use Rattle.walking.specs.States.{State}
use Rattle.walking.specs.Laws.{Old}
use Rattle.walking.specs.BodyLaws.{Sends, KeepsBody}
use Rattle.adjusting.specs.declared.emits.Counts.{Counts}
use Rattle.adjusting.specs.Emits.{sent_to, strikes, numbers, stretches}
use Rattle.adjusting.specs.Rules.{adjusted, finished}

-- ---- in order

-- an image that is emitted
abbrev pub emitted_image : Option ℕ → List Item
emitted_image None = []
emitted_image (Some image) = emitted image ∷ []

-- Where an item of the original goes: a record with its operands sent to their images; an emitted handle to its image, unless it is
-- struck.
abbrev pub sent : List ℕ → List Node → Item → List Item
sent images fs (emitted h) = emitted_image (sent_to images fs h)
sent images fs (other n) = other (adjusted images n) ∷ []

-- ---- counted

-- how many handles are emitted, every naming counted
abbrev pub emitted_count : List Item → ℕ
emitted_count [] = 0
emitted_count (emitted h ∷ is) = suc (emitted_count is)
emitted_count (other n ∷ is) = emitted_count is

-- how many of them are struck
abbrev pub struck_count : List ℕ → List Node → List Item → ℕ
struck_count images fs [] = 0
struck_count images fs (emitted h ∷ is) = strikes (sent_to images fs h) + struck_count images fs is
struck_count images fs (other n ∷ is) = struck_count images fs is

-- ---- in sight

-- What a walk over the entries es of a body leaves: each has an image, each image is an entry of fs, and the images are as order and sight
-- ask.
pub record KeepsEntries (es fs : List Node) (images : List ℕ) : Type 0 where
  pub every_handle : length images ≡ length es
  pub within : (h i : ℕ) → slice_get images h ≡ Some i → i < length fs
  pub sends : Sends es fs images

-- the records are one block at most 64 deep, and every operand is in sight
pub record Sighted (es rs : List Node) : Type 0 where
  pub body : OneBlock rs 64
  pub in_sight : InSight es [] body.tree

-- an emitted handle of an old entry is struck exactly if its image is pre-emit
abbrev pub StrikesPreEmit : List Node → List Node → List ℕ → Type 0
StrikesPreEmit es fs images = (h : ℕ) (e : Node) → slice_get es h ≡ Some e → h < absent →
    sent_to images fs h ≡ cond (pre_emit (slice_get fs (image_of images h))) None (Some (image_of images h))

-- ---- all of it

-- What holds of the finished records of a body, and of what they count.
pub record KeepsRecords (images : List ℕ) (fs old new : List Node) (c : Counts) : Type 0 where
  -- each old record in its place: itself, adjusted, or the Emits of the longest stretches of what it still emits
  pub is : new ≡ flat_map (finished images fs) old
  -- the records other than Emit in their order, and between neighbours the images of the emitted handles in theirs, less those struck
  pub order : weave new ≡ flat_map (sent images fs) (weave old)
  pub all : c.emitted + c.struck ≡ emitted_count (weave old)
  pub emitted : c.emitted ≡ emitted_count (weave new)
  pub struck : c.struck ≡ struck_count images fs (weave old)
  pub block : OneBlock new 64
  pub strikes : (es : List Node) → KeepsEntries es fs images → StrikesPreEmit es fs images
  pub sight : (es : List Node) → KeepsEntries es fs images → Sighted es old → Sighted fs new

-- ---- what it rests on

-- a body that is kept by the walk over its entries
abbrev pub WalkKeepsEntries : Type 0
WalkKeepsEntries = (o : Old) (f b : State) (es : List Node) → KeepsBody o f es b → KeepsEntries es b.tables.entries b.images

-- ---- longest stretches

-- each has a number
abbrev pub NoneEmpty : List Range → Type 0
NoneEmpty [] = Unit {0}
NoneEmpty (r ∷ rs) = (r.first < r.end) × NoneEmpty rs

-- the first of them does not begin at h
abbrev pub NotAt : ℕ → List Range → Type 0
NotAt h [] = Unit {0}
NotAt h (r ∷ rs) = r.first ≡ h → ⊥

-- none begins where the one before it ends
abbrev pub NoneMeet : List Range → Type 0
NoneMeet [] = Unit {0}
NoneMeet (r ∷ rs) = NotAt r.end rs × NoneMeet rs

-- One after the other they have these numbers, none is empty, and none goes on where the one before it ends.
pub record Stretched (hs : List ℕ) (rs : List Range) : Type 0 where
  pub joins : flat_map numbers rs ≡ hs
  pub none_empty : NoneEmpty rs
  pub none_meet : NoneMeet rs

-- the rule's stretches are such, and no others are
abbrev pub LongestStretches : Type 0
LongestStretches = (hs : List ℕ) → Stretched hs (stretches hs) × ((rs : List Range) → Stretched hs rs → rs ≡ stretches hs)
