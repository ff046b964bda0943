-- The numbers of the refusals, the values that come with them, and how they are told.
use Rattle.std.specs.Prelude.{ℕ, List, [], ◌∷◌, ◌++◌, codes, decimal}
use Rattle.settings.specs.declared.error.SettingsError.{SettingsError}
use Rattle.settings.specs.declared.error.SettingsError.TheVariants.{Malformed, RepeatedKey, NotFound}

abbrev pub code_of : SettingsError → ℕ × List ℕ
code_of Malformed = (1, [])
code_of (RepeatedKey k) = (2, k ∷ [])
code_of (NotFound k) = (6, k ∷ [])

abbrev pub words_of : SettingsError → List ℕ
words_of Malformed = codes "the settings file is short, long or over its limit"
words_of (RepeatedKey k) = codes "key " ++ (decimal k ++ codes " is equal to an earlier key")
words_of (NotFound k) = codes "no override takes key " ++ decimal k
