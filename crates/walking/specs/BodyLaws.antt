-- What a walk over a body's entries keeps: the trees, and what the order and the sight of emitted entries rest on.
use Rattle.std.specs.Prelude.{◌≡◌, ℕ, ◌<◌, ◌≤◌, true, false, ◌⊎◌, List, [], length, All, Some}
use Rattle.std.specs.List.{slice_get, ContainsAt as Has}
use Rattle.arena.specs.Nodes.{Node}
use Rattle.blocks.specs.Sight.{pre_emit}
use Rattle.ir.specs.Faults.{overriding}
use Rattle.evaluator.specs.Trees.{Tree, unread, tree_at, body_trees}
use Rattle.evaluator.specs.Clauses.{Clauses, PreEmit, inits_of}
use Rattle.evaluator.specs.Verdicts.{Meaning}
use Rattle.walking.specs.States.{Room, State, goes}
use Rattle.walking.specs.Images.{images_of}
use Rattle.walking.specs.BodyWalks.{body_walk}
use Rattle.walking.specs.Laws.{Old, Checked, KeepsTrees, valued, old_trees, new_trees}

-- A body that the checks let pass under a module whose constants' inits lie below `reach`.
abbrev pub CheckedBody : Old → ℕ → List Node → Type 0
CheckedBody o reach es = (h : ℕ) (e : Node) → slice_get es h ≡ Some e → Checked o h reach e

-- A body's own trees are read over the module's tables before settling, overrides at the values given to them.
abbrev pub old_body_trees : Old → List Node → List Tree
old_body_trees o es = body_trees (old_trees o) o.inits (valued o.overrides) es

-- the trees of a finished body, over the finished tables of its module
abbrev pub new_body_trees : State → State → List Tree
new_body_trees f b = body_trees (new_trees f) (inits_of f.tables.constants) unread b.tables.entries

-- ---- where handles are sent

-- an operand of an image: the image of one of the old entry's, or a pre-emit entry
abbrev pub Brought : List Node → List ℕ → Node → ℕ → Type 0
Brought new images e h = Has (images_of images e.operands) h ⊎ PreEmit new h

-- What the order and the sight of emitted entries rest on.
pub record Sends (old new : List Node) (images : List ℕ) : Type 0 where
  -- a pre-emit entry has a pre-emit image
  pub pre_emit_stays : (h i : ℕ) → slice_get images h ≡ Some i → pre_emit (slice_get old h) ≡ true → pre_emit (slice_get new i) ≡ true
  -- an image that is not pre-emit lies above the images of all lower handles: no two handles have it
  pub above : (h i g j : ℕ) → slice_get images h ≡ Some i → pre_emit (slice_get new i) ≡ false → g < h → slice_get images g ≡ Some j → j < i
  -- and its operands are the images of its handle's own, or pre-emit
  pub operands : (h i : ℕ) (e n : Node) → slice_get images h ≡ Some i → slice_get old h ≡ Some e → slice_get new i ≡ Some n → pre_emit (Some n) ≡ false →
      All (Brought new images e) n.operands

-- ---- before and after

-- Each handle's image has the handle's own tree; no finished entry is an Override.
pub record KeepsBody (o : Old) (f : State) (es : List Node) (b : State) : Type 0 where
  pub every_handle : length b.images ≡ length es
  pub images : (h i : ℕ) → slice_get b.images h ≡ Some i → (i < length b.tables.entries) × (tree_at (new_body_trees f b) i ≡ tree_at (old_body_trees o es) h)
  pub no_override : (k : ℕ) (e : Node) → slice_get b.tables.entries k ≡ Some e → e.kind ≡ overriding → ⊥
  pub sends : Sends es b.tables.entries b.images

-- nothing is written yet, over a settled module
abbrev pub body_start : State → State
body_start f =
    record {
      tables = record {
        entries = [];
        kinds = [];
        constants = record { list = f.tables.constants.list; globals = Some f.tables.entries };
      };
      images = [];
      settled = f.settled;
    }

-- A walk that goes to its end keeps the body, whatever folder that keeps the clauses is asked, over a settled module that keeps the
-- trees. There is room for so few entries that none is at the absent handle.
abbrev pub WalkKeepsBody : Type 0
WalkKeepsBody = (m : Meaning) (r : Room) (o : Old) (f : State) (reach : ℕ) (es : List Node) (b : State) → Clauses m → KeepsTrees o f → CheckedBody o reach es →
    r.tables.entries ≤ 4294967295 → body_walk m r es (body_start f) ≡ goes b → KeepsBody o f es b
