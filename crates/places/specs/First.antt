-- The least number at fault, and the first place at fault.
use Rattle.std.specs.Prelude.{◌≡◌, ℕ, ◌<◌, min, ◌⊎◌, List, Some, None, Ok, Err, Option, Result}
use Rattle.std.specs.List.{slice_get}
use Rattle.places.specs.declared.Place.{Place}
use Rattle.places.specs.declared.TableName.{TableName}
use Rattle.places.specs.declared.TableName.TheVariants.{GlobalEntries, GlobalOperands, Constants, Overrides, VariableInits, BodyEntries, BodyOperands, Records, RecordOperands, LocalInits, NamedHandles, Sizes, HandleTable, OverridesConstants, Kinds}

-- None: nothing has P. Some k: k has P, and nothing below it.
abbrev pub Least : (ℕ → Type 0) → Option ℕ → Type 0
Least P None = (k : ℕ) → P k → ⊥
Least P (Some k) = P k × ((j : ℕ) → j < k → P j → ⊥)

-- something stands at k, and P holds of it there
abbrev pub Holds : {A : Type 0} → (ℕ → A → Type 0) → List A → ℕ → Type 0
Holds {A} P xs k = (x : A) × (slice_get xs k ≡ Some x) × P k x

-- a table of n items is over its limit, which is the index at fault
abbrev pub Over : ℕ → ℕ → ℕ → Type 0
Over limit n k = (k ≡ limit) × (limit < n)

-- the number of a table
abbrev pub number_of : TableName → ℕ
number_of GlobalEntries = 0
number_of GlobalOperands = 1
number_of Constants = 2
number_of Overrides = 3
number_of VariableInits = 4
number_of BodyEntries = 5
number_of BodyOperands = 6
number_of Records = 7
number_of RecordOperands = 8
number_of LocalInits = 9
number_of NamedHandles = 10
number_of Sizes = 11
number_of HandleTable = 12
number_of OverridesConstants = 13
number_of Kinds = 14

-- F holds at the place, F being said of a table's number and an index
abbrev pub At : (ℕ → ℕ → Type 0) → Place → Type 0
At F p = F (number_of p.table) p.index

-- places are ordered by their table's number, then by index
abbrev pub Before : Place → Place → Type 0
Before q p =
    (number_of q.table < number_of p.table) ⊎ ((number_of q.table ≡ number_of p.table) × (q.index < p.index))

-- no place is at fault
abbrev pub Clean : (ℕ → ℕ → Type 0) → Type 0
Clean F = (p : Place) → At F p → ⊥

-- the place is at fault, and none before it
abbrev pub First : (ℕ → ℕ → Type 0) → Place → Type 0
First F p = At F p × ((q : Place) → Before q p → At F q → ⊥)

-- accepted exactly if no place is at fault, and refused with the first that is
abbrev pub Checked : (ℕ → ℕ → Type 0) → Result Unit Place → Type 0
Checked F (Ok _) = Clean F
Checked F (Err p) = First F p

-- the lesser of two, where there are two
abbrev pub lesser_of : Option ℕ → Option ℕ → Option ℕ
lesser_of None b = b
lesser_of (Some x) None = Some x
lesser_of (Some x) (Some y) = Some (min x y)
