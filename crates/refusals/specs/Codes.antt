-- The numbers of the refusals, and the values that come with them.
use Rattle.std.specs.Prelude.{◌≡◌, ℕ, ◌<◌, ◌⊎◌, List, [], ◌∷◌, cond, codes, Ok, Err, Result, ◌==◌}
use Rattle.places.specs.declared.Place.{Place}
use Rattle.places.specs.First.{number_of, At}
use Rattle.refusals.specs.declared.Axis.{Axis}
use Rattle.refusals.specs.declared.Axis.TheVariants.{X, Y, Z}
use Rattle.refusals.specs.declared.MeshOutput.{MeshOutput}
use Rattle.refusals.specs.declared.MeshOutput.TheVariants.{Vertices, Primitives}
use Rattle.refusals.specs.declared.Refusal.{Refusal}
use Rattle.refusals.specs.declared.Refusal.TheVariants.{MalformedSettings, RepeatedKey, Misshapen, OutOfRange, NotOneBlock, NotFound, Nameless, MissingValue, SrcNeedsToBeFinite, DstRangeTooSmall, UnsupportedScalar, InitNotMapped, ConstantEvaluatorError, RuntimeExpr, NegativeWorkgroupSize, NegativeMeshOutputMax, Full}

-- a place as two values
abbrev pub place_of : Place → List ℕ
place_of p = number_of p.table ∷ p.index ∷ []

-- the number of an axis, and of an output
abbrev pub axis_number : Axis → ℕ
axis_number X = 0
axis_number Y = 1
axis_number Z = 2

abbrev pub output_number : MeshOutput → ℕ
output_number Vertices = 0
output_number Primitives = 1

-- and that of a byte: of one past the last number, the last
abbrev pub axis_of : ℕ → Axis
axis_of n = cond (n == 0) X (cond (n == 1) Y Z)

abbrev pub output_of : ℕ → MeshOutput
output_of n = cond (n == 0) Vertices Primitives

-- and how they are called
abbrev pub axis_word : Axis → List ℕ
axis_word X = codes "x"
axis_word Y = codes "y"
axis_word Z = codes "z"

abbrev pub output_word : MeshOutput → List ℕ
output_word Vertices = codes "vertices"
output_word Primitives = codes "primitives"

abbrev pub code_of : Refusal → ℕ × List ℕ
code_of MalformedSettings = (1, [])
code_of (RepeatedKey key) = (2, key ∷ [])
code_of (Misshapen p) = (3, place_of p)
code_of (OutOfRange p) = (4, place_of p)
code_of (NotOneBlock record_at) = (5, record_at ∷ [])
code_of (NotFound key) = (6, key ∷ [])
code_of (Nameless o) = (7, o ∷ [])
code_of (MissingValue o) = (8, o ∷ [])
code_of (SrcNeedsToBeFinite o) = (9, o ∷ [])
code_of (DstRangeTooSmall o) = (10, o ∷ [])
code_of (UnsupportedScalar o) = (11, o ∷ [])
code_of (InitNotMapped o) = (12, o ∷ [])
code_of (ConstantEvaluatorError h layer code) = (13, h ∷ layer ∷ code ∷ [])
code_of (RuntimeExpr h) = (14, h ∷ [])
code_of (NegativeWorkgroupSize axis) = (15, axis_number axis ∷ [])
code_of (NegativeMeshOutputMax which) = (16, output_number which ∷ [])
code_of (Full table) = (17, number_of table ∷ [])

-- values in order, the first that differ deciding
abbrev pub Less : List ℕ → List ℕ → Type 0
Less [] ys = ⊥
Less (x ∷ xs) [] = ⊥
Less (x ∷ xs) (y ∷ ys) = (x < y) ⊎ ((x ≡ y) × Less xs ys)

-- a lower number comes first, and with one number the lower values: so a place comes before another by table, then by index
abbrev pub Earlier : Refusal → Refusal → Type 0
Earlier q r = ((code_of q).0 < (code_of r).0) ⊎ (((code_of q).0 ≡ (code_of r).0) × Less (code_of q).1 (code_of r).1)

-- accepted exactly if no refusal applies, and refused with the first that does
abbrev pub FirstOf : (Refusal → Type 0) → Result (Unit {0}) Refusal → Type 0
FirstOf Applies (Ok _) = (r : Refusal) → Applies r → ⊥
FirstOf Applies (Err e) = Applies e × ((r : Refusal) → Earlier r e → Applies r → ⊥)

-- The refusals of tables: 3 at a place of a wrong shape, 4 at a place out of range, 5 at a record that breaks the blocks, 7 at an
-- override with neither id nor name.
abbrev pub Faulty : (shape range : ℕ → ℕ → Type 0) → (blocks names : ℕ → Type 0) → Refusal → Type 0
Faulty shape range blocks names (Misshapen p) = At shape p
Faulty shape range blocks names (OutOfRange p) = At range p
Faulty shape range blocks names (NotOneBlock k) = blocks k
Faulty shape range blocks names (Nameless k) = names k
Faulty shape range blocks names _ = ⊥
