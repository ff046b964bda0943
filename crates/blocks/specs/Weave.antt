-- What a body does, in order: its records, and the handles that it emits one by one.
use Rattle.std.specs.Prelude.{ℕ, ◌-◌, Bool, cond, List, [], ◌∷◌, map, ◌==◌, slice_index}
use Rattle.std.specs.List.{range_with_len, flat_map}
use Rattle.arena.specs.Nodes.{Node}

-- 0 is Emit
abbrev pub is_emit : Node → Bool
is_emit n = n.kind == 0

-- the handles of an Emit: from word 0 up to word 1, which is not among them
abbrev pub emits : Node → List ℕ
emits n = range_with_len (slice_index n.words 0) (slice_index n.words 1 - slice_index n.words 0)

pub data Item : Type 0 where
  emitted : ℕ → Item
  other : Node → Item

abbrev pub items_of : Node → List Item
items_of n = cond (is_emit n) (map emitted (emits n)) (other n ∷ [])

-- the records other than Emit, and between them the handles that are emitted
abbrev pub weave : List Node → List Item
weave rs = flat_map items_of rs
