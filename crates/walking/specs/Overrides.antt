-- Settling an override: the first that is not yet settled.
use Rattle.std.specs.Prelude.{ℕ, zero, suc, ◌+◌, ◌-◌, true, List, [], ◌∷◌, ◌++◌, length, Some, None, Ok, Err, Option, Result}
use Rattle.std.specs.List.{slice_get}
use Rattle.arena.specs.Nodes.{Node}
use Rattle.ir.specs.Faults.{literal}
use Rattle.rounding.specs.declared.literals.Literal.{Literal}
use Rattle.rounding.specs.declared.conversion.ConversionError.{ConversionError}
use Rattle.rounding.specs.Literals.{words_of}
use Rattle.rounding.specs.Conversion.{code_of}
use Rattle.evaluator.specs.declared.expression_kind.ExpressionKind.TheVariants.{Const}
use Rattle.walking.specs.declared.overrides.Valued.{Valued}
use Rattle.walking.specs.States.{Room, State, Outcome, goes, stops, then, if_room, add, with_constants}

-- a constant with this init, which counts as mapped
abbrev pub add_constant : Room → ℕ → State → Outcome
add_constant r h s =
    if_room (length s.tables.constants.list) r.constants 2 s
    (goes (with_constants (s.tables.constants.list ++ (record { init = h; mapped = true }) ∷ []) s))

-- the constant of the next override
abbrev pub note_settled : Room → ℕ → State → Outcome
note_settled r c s =
    if_room (length s.settled) r.settled 13 s
    (goes (record { tables = s.tables; images = s.images; settled = s.settled ++ c ∷ [] }))

-- the next override becomes a constant with this init
abbrev pub settle_to : Room → ℕ → State → Outcome
settle_to r h s = then (add_constant r h s) (note_settled r (length s.tables.constants.list))

-- a literal that comes from a settings file: its span is (0, 0) and its word 3 zero
abbrev pub new_literal : Literal → Node
new_literal l = record { kind = literal; words = words_of l ++ 0 ∷ []; operands = []; span = record { start = 0; end = 0 } }

abbrev pub settle_to_image : Room → ℕ → Option ℕ → State → Outcome
settle_to_image r p None s = stops s 12 (p ∷ [])
settle_to_image r p (Some h) s = settle_to r h s

abbrev pub settle_by_init : Room → ℕ → Option ℕ → State → Outcome
settle_by_init r p None s = stops s 8 (p ∷ [])
settle_by_init r p (Some init) s = settle_to_image r p (slice_get s.images init) s

-- Override p by the literal of its value, or else by its init's image. A value that no literal holds is refused with 9, 10 or 11; an
-- init that has no image yet with 12; and with 8, where there is neither.
abbrev pub settle_by : Room → ℕ → Option (Result Literal ConversionError) → Option ℕ → State → Outcome
settle_by r p (Some (Ok l)) init s = then (add r Const (new_literal l ∷ []) s) (settle_to r (length s.tables.entries))
settle_by r p (Some (Err e)) init s = stops s (code_of e) (p ∷ [])
settle_by r p None init s = settle_by_init r p init s

abbrev pub settle_one : Room → ℕ → Option Valued → State → Outcome
settle_one r p None s = stops s 8 (p ∷ [])
settle_one r p (Some o) s = settle_by r p o.given o.init s

-- the first override that is not yet settled
abbrev pub settle_next : Room → List Valued → State → Outcome
settle_next r os s = settle_one r (length s.settled) (slice_get os (length s.settled)) s

-- so many more
abbrev pub settle_more : Room → List Valued → ℕ → State → Outcome
settle_more r os zero s = goes s
settle_more r os (suc n) s = then (settle_next r os s) (settle_more r os n)

-- all up to override p
abbrev pub settle_up_to : Room → List Valued → ℕ → State → Outcome
settle_up_to r os p s = settle_more r os (p + 1 - length s.settled) s

-- those that are left
abbrev pub settle_rest : Room → List Valued → State → Outcome
settle_rest r os s = settle_more r os (length os - length s.settled) s
