-- What is written as a settings file.
use Rattle.std.specs.Prelude.{◌≡◌, ℕ, ◌<◌, ◌≤◌, List, ◌++◌, map, length, Some, None, Ok, codes, decimal, Result, from_bits, to_bits}
use Rattle.std.specs.Float.{binary64}
use Rattle.std.specs.List.{slice_get}
use Rattle.std.specs.Option.{option_map}
use Rattle.settings.specs.First.{Least, Holds}
use Rattle.settings.specs.Layout.{Given, Repeats, Distinct}
use Rattle.settings.specs.Reading.{given, value_at, Read}
use Rattle.settings.specs.declared.error.SettingsError.{SettingsError}
use Rattle.settings.specs.declared.file.Settings.{Settings}
use Rattle.settings.specs.declared.writing.Setting.{Setting}
use Rattle.settings.specs.declared.writing.WriteError.{WriteError}
use Rattle.settings.specs.declared.writing.WriteError.TheVariants.{TooManySettings, KeyTooLong, RepeatedKey, OutOfMemory}

abbrev pub keys_of : List Setting → List (List ℕ)
keys_of ss = map (λ s. s.key.now) ss

abbrev pub value_bits_of : List Setting → List ℕ
value_bits_of ss = map (λ s. to_bits binary64 s.value) ss

abbrev pub given_by : List Setting → Given
given_by ss = record { keys = keys_of ss; values = value_bits_of ss }

-- the key at i has more bytes than its length has room for
abbrev pub TooLong : List (List ℕ) → ℕ → Type 0
TooLong ks i = Holds (λ k. 255 < length k) ks i

-- Why settings are not written: the first of these that holds.
abbrev pub Refused : List Setting → WriteError → Type 0
Refused ss TooManySettings = 4096 < length ss
Refused ss (KeyTooLong k) = (length ss ≤ 4096) × Least (TooLong (keys_of ss)) (Some k)
Refused ss (RepeatedKey k) = (length ss ≤ 4096) × Least (TooLong (keys_of ss)) None × Least (Repeats (keys_of ss)) (Some k)
Refused ss OutOfMemory = (length ss ≤ 4096) × Least (TooLong (keys_of ss)) None × Distinct (keys_of ss)

-- how a refusal is told
abbrev pub write_words : WriteError → List ℕ
write_words TooManySettings = codes "there are more than 4096 settings"
write_words (KeyTooLong k) = codes "key " ++ (decimal k ++ codes " has more than 255 bytes")
write_words (RepeatedKey k) = codes "key " ++ (decimal k ++ codes " is equal to an earlier key")
write_words OutOfMemory = codes "there is not enough memory for the settings file"

-- the double that the bits of the value stand for is the value
abbrev pub Restored : Setting → Type 0
Restored s = from_bits binary64 (to_bits binary64 s.value) ≡ s.value

-- each value is read of the bits that are written for it
abbrev pub ValuesBack : List Setting → Type 0
ValuesBack ss = (i : ℕ) → value_at (given_by ss) (Some i) ≡ option_map (λ s. s.value) (slice_get ss i)

-- Whatever answer a reading of these bytes may give, it is these settings.
abbrev pub ReadsBack : List ℕ → Given → Type 0
ReadsBack bs g = (r : Result Settings SettingsError) → Read bs r → (s : Settings) × (r ≡ Ok s) × (given s ≡ g)
