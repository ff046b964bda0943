-- What is read of a settings file.
use Rattle.std.specs.Prelude.{◌≡◌, ℕ, ◌≤◌, ◌⊎◌, List, [], ◌∷◌, map, length, Some, None, Ok, Err, Option, Result, ◌≢◌, from_bits, Float}
use Rattle.std.specs.Float.{binary64}
use Rattle.std.specs.Borrow.{Bor}
use Rattle.std.specs.List.{slice_get}
use Rattle.std.specs.Option.{option_map}
use Rattle.settings.specs.First.{Least, Holds}
use Rattle.settings.specs.Layout.{Given, Valid, encode, Encodes, Repeats, Distinct, number_of}
use Rattle.settings.specs.Walks.{keys_left}
use Rattle.settings.specs.Codes.{code_of}
use Rattle.settings.specs.Keys.{Taken}
use Rattle.settings.specs.declared.error.SettingsError.{SettingsError}
use Rattle.settings.specs.declared.naming.Identifier.{Identifier}
use Rattle.settings.specs.declared.file.Settings.{Settings}

-- the settings that these parts of a file stand for
abbrev pub given : Settings → Given
given s = record { keys = keys_left s.keys; values = map number_of s.values.now }

-- the bytes are no settings file
abbrev pub Unreadable : List ℕ → Type 0
Unreadable bs = (g : Given) → Valid g → encode g ≢ bs

-- the parts of a file, with no look at whether a key is repeated
abbrev pub CutInto : List ℕ → Option Settings → Type 0
CutInto bs None = Unreadable bs
CutInto bs (Some s) = Encodes bs (given s)

-- Read: the file encodes these settings, and no key is repeated.
-- Refused with 1: it encodes none. With 2 and k: it encodes some, and k is the first key that is repeated.
abbrev pub Read : List ℕ → Result Settings SettingsError → Type 0
Read bs (Ok s) = Encodes bs (given s) × Distinct (given s).keys
Read bs (Err e) =
    ((code_of e ≡ (1, [])) × Unreadable bs)
    ⊎ ((k : ℕ) × (g : Given) × (code_of e ≡ (2, k ∷ [])) × Encodes bs g × Least (Repeats g.keys) (Some k))

-- the key at i, if there is one
abbrev pub KeyAt : List (List ℕ) → ℕ → Option (Bor (List ℕ)) → Type 0
KeyAt ks i None = length ks ≤ i
KeyAt ks i (Some r) = slice_get ks i ≡ Some r.now

-- the only one that has P, if one has
abbrev pub Only : (ℕ → Type 0) → Option ℕ → Type 0
Only P None = (k : ℕ) → P k → ⊥
Only P (Some k) = P k × ((j : ℕ) → P j → j ≡ k)

-- the double at i, if there is one
abbrev pub value_at : Given → Option ℕ → Option Float
value_at g None = None
value_at g (Some i) = option_map (from_bits binary64) (slice_get g.values i)

-- Accepted: each key is taken. Refused with 6 and k: k is the first key that none takes.
abbrev pub AllTaken : List (List ℕ) → List Identifier → Result Unit SettingsError → Type 0
AllTaken ks ws (Ok _) = (i : ℕ) (k : List ℕ) → slice_get ks i ≡ Some k → Taken ws k
AllTaken ks ws (Err e) = (i : ℕ) × (code_of e ≡ (6, i ∷ [])) × Least (Holds (λ k. Taken ws k → ⊥) ks) (Some i)
