-- What is left of a walk over the settings of a file.
use Rattle.std.specs.Prelude.{ℕ, List, map, from_bits, Float}
use Rattle.std.specs.Float.{binary64}
use Rattle.std.specs.List.{zip}
use Rattle.settings.specs.Layout.{Given, number_of, pieces}
use Rattle.settings.specs.declared.keys.Keys.{Keys}
use Rattle.settings.specs.declared.iter.Iter.{Iter}

-- the keys that are still to come
abbrev pub keys_left : Keys → List (List ℕ)
keys_left k = pieces k.lengths.now k.bytes.now

-- each key beside the double that it is given
abbrev pub settings_of : Given → List (List ℕ × Float)
settings_of g = zip g.keys (map (from_bits binary64) g.values)

-- the settings that are still to come
abbrev pub settings_left : Iter → List (List ℕ × Float)
settings_left i = settings_of (record { keys = keys_left i.keys; values = map number_of i.values.now })
