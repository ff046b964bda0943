-- The first of some numbers, and the places of a list.
use Rattle.std.specs.Prelude.{◌≡◌, ℕ, ◌<◌, List, Some, None, Option}
use Rattle.std.specs.List.{slice_get}

-- None: nothing has P. Some k: k has P, and nothing below it.
abbrev pub Least : (ℕ → Type 0) → Option ℕ → Type 0
Least P None = (k : ℕ) → P k → ⊥
Least P (Some k) = P k × ((j : ℕ) → j < k → P j → ⊥)

-- something stands at k, and it has P
abbrev pub Holds : {A : Type 0} → (A → Type 0) → List A → ℕ → Type 0
Holds {A} P xs k = (x : A) × (slice_get xs k ≡ Some x) × P x
