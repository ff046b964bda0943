-- Old handles sent to their images.
use Rattle.std.specs.Prelude.{ℕ, zero, suc, ◌+◌, true, cond, List, ◌∷◌, map, length, Some, None, Option, ◌==◌, unwrap_or, slice_index, slice_set, drop}
use Rattle.std.specs.List.{slice_get}
use Rattle.arena.specs.Nodes.{Node}
use Rattle.operands.specs.Faults.{absent}
use Rattle.ir.specs.Faults.{constant, overriding}
use Rattle.evaluator.specs.declared.tables.NewConstant.{NewConstant}
use Rattle.walking.specs.States.{State, with_constants}

-- the image of a handle; the absent handle has none, and stays
abbrev pub image_of : List ℕ → ℕ → ℕ
image_of images h = cond (h == absent) absent (unwrap_or (slice_get images h) absent)

abbrev pub images_of : List ℕ → List ℕ → List ℕ
images_of images hs = map (image_of images) hs

-- ---- the entry that is asked about

-- the kind and the words of an entry: an Override is from now on the Constant that it was settled to
abbrev pub kind_now : ℕ → ℕ
kind_now kind = cond (kind == overriding) constant kind

abbrev pub words_now : List ℕ → ℕ → List ℕ → List ℕ
words_now settled kind words =
    cond (kind == overriding) (unwrap_or (slice_get settled (slice_index words 0)) absent ∷ drop 1 words) words

-- an old entry with its operands sent to their images
abbrev pub mapped : State → Node → Node
mapped s e =
    record { kind = kind_now e.kind; words = words_now s.settled e.kind e.words; operands = images_of s.images e.operands; span = e.span }

-- ---- constants

-- the init of a constant that is not yet mapped
abbrev pub init_if : Option NewConstant → Option ℕ
init_if None = None
init_if (Some c) = cond c.mapped None (Some c.init)

abbrev pub unmapped : List NewConstant → ℕ → Option ℕ
unmapped cs c = init_if (slice_get cs c)

abbrev pub map_if : List ℕ → List NewConstant → ℕ → Option ℕ → List NewConstant
map_if images cs c None = cs
map_if images cs c (Some init) = slice_set cs c (record { init = image_of images init; mapped = true })

-- A constant's init is sent to its image, once.
abbrev pub map_constant : ℕ → State → State
map_constant c s = with_constants (map_if s.images s.tables.constants.list c (unmapped s.tables.constants.list c)) s

-- so many constants from c on
abbrev pub map_more : ℕ → ℕ → State → State
map_more c zero s = s
map_more c (suc n) s = map_more (c + 1) n (map_constant c s)

-- all of them
abbrev pub map_rest : State → State
map_rest s = map_more 0 (length s.tables.constants.list) s
