-- The literal behind an entry, seen through constants.
use Rattle.std.specs.Prelude.{ℕ, zero, suc, cond, List, Some, None, Option, nat_lt, ◌==◌, slice_index}
use Rattle.std.specs.List.{slice_get}
use Rattle.arena.specs.Nodes.{Node}
use Rattle.ir.specs.Faults.{literal, constant}
use Rattle.evaluator.specs.Trees.{bits_by}
use Rattle.evaluator.specs.Tables.{Tables}
use Rattle.evaluator.specs.Clauses.{inits_of}
use Rattle.layers.specs.declared.values.Value.{Value}

-- the literal that an entry of this kind with these words is
abbrev pub value_by : ℕ → List ℕ → Option Value
value_by kind words = cond (kind == literal) (Some (record { ty = slice_index words 0; bits = bits_by words })) None

abbrev pub value_of : Option Node → Option Value
value_of None = None
value_of (Some e) = value_by e.kind e.words

abbrev pub value_at : List Node → ℕ → Option Value
value_at es h = value_of (slice_get es h)

-- the init of the constant that an entry names
abbrev pub init_by : List ℕ → ℕ → List ℕ → Option ℕ
init_by inits kind words = cond (kind == constant) (slice_get inits (slice_index words 0)) None

abbrev pub init_of : List ℕ → Option Node → Option ℕ
init_of inits None = None
init_of inits (Some e) = init_by inits e.kind e.words

abbrev pub init_at : List Node → List ℕ → ℕ → Option ℕ
init_at es inits h = init_of inits (slice_get es h)

abbrev pub if_below : ℕ → Option ℕ → Option ℕ
if_below h None = None
if_below h (Some i) = cond (nat_lt i h) (Some i) None

-- the same, where it lies below the entry
abbrev pub init_below : List Node → List ℕ → ℕ → Option ℕ
init_below es inits h = if_below h (init_at es inits h)

-- on to the init, where there is one; else what stands here
abbrev pub through : (ℕ → Option Value) → Option Value → Option ℕ → Option Value
through next here None = here
through next here (Some i) = next i

-- what stands at h, seen through at most n constants, each with its init below it
abbrev pub seen : List Node → List ℕ → ℕ → ℕ → Option Value
seen es inits zero h = value_at es h
seen es inits (suc n) h = through (seen es inits n) (value_at es h) (init_below es inits h)

-- seen through as many as there are on the way
abbrev pub behind_in : List Node → List ℕ → ℕ → Option Value
behind_in es inits h = seen es inits h h

-- with no globals the inits stand in the table itself; from a body's entry a constant leads to the globals
abbrev pub behind_by : Option (List Node) → List Node → List ℕ → ℕ → Option Value
behind_by None es inits h = behind_in es inits h
behind_by (Some gs) es inits h = through (behind_in gs inits) (value_at es h) (init_at es inits h)

-- the literal behind the handle h of the tables
abbrev pub behind : Tables → ℕ → Option Value
behind t h = behind_by t.constants.globals t.entries (inits_of t.constants) h
