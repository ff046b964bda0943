-- What the refusals of a walk over a module's entries mean, of the overrides, the entries and what was written when the walk stopped.
use Rattle.std.specs.Prelude.{◌≡◌, ℕ, ◌≤◌, ◌⊎◌, MatchBool, List, [], ◌∷◌, length, Some, None, Ok, Err, Option, Result, option_and_then, ◌==◌}
use Rattle.std.specs.List.{slice_get}
use Rattle.arena.specs.Nodes.{Node}
use Rattle.rounding.specs.declared.literals.Literal.{Literal}
use Rattle.rounding.specs.declared.conversion.ConversionError.{ConversionError}
use Rattle.rounding.specs.Conversion.{code_of}
use Rattle.evaluator.specs.declared.expression_kind.ExpressionKind.{ExpressionKind}
use Rattle.evaluator.specs.declared.expression_kind.ExpressionKind.TheVariants.{Const}
use Rattle.evaluator.specs.declared.tables.FullTable.{FullTable}
use Rattle.evaluator.specs.ExpressionKinds.{type_of_node}
use Rattle.evaluator.specs.Tables.{full}
use Rattle.evaluator.specs.Verdicts.{folds, declines, faults, Meaning}
use Rattle.walking.specs.declared.overrides.Valued.{Valued}
use Rattle.walking.specs.States.{Room, State, table_number}
use Rattle.walking.specs.Images.{mapped}
use Rattle.walking.specs.Overrides.{new_literal}
use Rattle.walking.specs.Laws.{init_at}

-- ---- of override p, the first that is not settled

-- what the value given to it is converted to, if one is given
abbrev pub conversion_at : List Valued → ℕ → Option (Result Literal ConversionError)
conversion_at os p = option_and_then (λ (v : Valued). v.given) (slice_get os p)

-- 8: it has neither value nor init
pub record ValueMissing (os : List Valued) (s : State) (p : ℕ) : Type 0 where
  pub next : p ≡ length s.settled
  pub value : conversion_at os p ≡ None
  pub init : init_at os p ≡ None

-- 9, 10, 11: its value is not converted, for the reason of this number
pub record NotConverted (os : List Valued) (s : State) (code p : ℕ) : Type 0 where
  pub next : p ≡ length s.settled
  pub reason : ConversionError
  pub value : conversion_at os p ≡ Some (Err reason)
  pub number : code_of reason ≡ code

-- 12: it has no value, and its init is an entry that has no image yet
pub record InitNotYetMapped (os : List Valued) (s : State) (p : ℕ) : Type 0 where
  pub next : p ≡ length s.settled
  pub value : conversion_at os p ≡ None
  pub init : ℕ
  pub there : init_at os p ≡ Some init
  pub later : length s.images ≤ init

-- ---- of the entry at h, the first that has no image

-- the entry itself
pub record NextEntry (es : List Node) (s : State) (h : ℕ) : Type 0 where
  pub next : h ≡ length s.images
  pub entry : Node
  pub there : slice_get es h ≡ Some entry

-- the kind of expression of an entry, its operands sent to their images
abbrev pub kind_mapped : State → Node → ExpressionKind
kind_mapped s e = type_of_node s.tables.kinds (mapped s e)

-- 13: it is Const, and the folder declines it, which counts as layer 0 and code 0, or faults with this layer and code
pub record NotFolded (m : Meaning) (es : List Node) (s : State) (h layer code : ℕ) : Type 0 where
  pub at : NextEntry es s h
  pub is_const : kind_mapped s at.entry ≡ Const
  pub verdict : ((m s.tables (mapped s at.entry) ≡ declines) × (layer ≡ 0) × (code ≡ 0)) ⊎ (m s.tables (mapped s at.entry) ≡ faults layer code)

-- 14: it is not Const
pub record NotConst (es : List Node) (s : State) (h : ℕ) : Type 0 where
  pub at : NextEntry es s h
  pub not_const : kind_mapped s at.entry ≡ Const → ⊥

-- ---- 17: of table t, which has no room

-- the literal of the next override's value
abbrev pub IsLiteral : List Valued → State → List Node → Type 0
IsLiteral os s xs = (l : Literal) × (conversion_at os (length s.settled) ≡ Some (Ok l)) × (xs ≡ new_literal l ∷ [])

-- what the folder folds the next entry to
abbrev pub IsFold : Meaning → List Node → State → List Node → Type 0
IsFold m es s xs = (e : NextEntry es s (length s.images)) × (answer : ℕ) × (m s.tables (mapped s e.entry) ≡ folds xs answer)

-- t is the first table that has no room for these entries, with their operands and kinds
pub record NoRoomFor (r : Room) (s : State) (xs : List Node) (t : ℕ) : Type 0 where
  pub table : FullTable
  pub number : t ≡ table_number s.tables.constants.globals table
  pub first : full r.tables s.tables.entries s.tables.kinds xs ≡ Some table

-- The constants, the images or the overrides' constants take no more; or the entries that come next do not fit.
abbrev pub NoRoom : Meaning → Room → List Valued → List Node → State → ℕ → Type 0
NoRoom m r os es s t =
    ((t ≡ 2) × (r.constants ≤ length s.tables.constants.list))
    ⊎ (((t ≡ 12) × (r.images ≤ length s.images))
    ⊎ (((t ≡ 13) × (r.settled ≤ length s.settled))
    ⊎ ((xs : List Node) × (IsLiteral os s xs ⊎ IsFold m es s xs) × NoRoomFor r s xs t)))

-- ---- by number

-- said of one value
abbrev pub OfOne : (ℕ → Type 0) → List ℕ → Type 0
OfOne P (v ∷ []) = P v
OfOne P _ = ⊥

-- and of three
abbrev pub OfThree : (ℕ → ℕ → ℕ → Type 0) → List ℕ → Type 0
OfThree P (u ∷ v ∷ w ∷ []) = P u v w
OfThree P _ = ⊥

-- what a walk's refusal of this number with these values means; a walk has no other
abbrev pub StopMeans : Meaning → Room → List Valued → List Node → State → ℕ → List ℕ → Type 0
StopMeans m r os es s code values =
    MatchBool (code == 8) (OfOne (ValueMissing os s) values)
    (MatchBool (code == 9) (OfOne (NotConverted os s 9) values)
    (MatchBool (code == 10) (OfOne (NotConverted os s 10) values)
    (MatchBool (code == 11) (OfOne (NotConverted os s 11) values)
    (MatchBool (code == 12) (OfOne (InitNotYetMapped os s) values)
    (MatchBool (code == 13) (OfThree (NotFolded m es s) values)
    (MatchBool (code == 14) (OfOne (NotConst es s) values)
    (MatchBool (code == 17) (OfOne (NoRoom m r os es s) values) ⊥)))))))
