use Rattle.std.proofs.Common.{◌≡◌, ◌^◌, ◌<◌, ◌++◌, take, vec_items}
use Rattle.std.specs.List.{flat_map, AllByRecursion}
use Rattle.settings.specs.Layout.{bytes_of}
use Rattle.settings.specs.Written.{value_bits_of, Restored}
use Rattle.settings.proofs.writing.push_values.Given as goal

abbrev pub invariant-loop-setting : goal.invariant-loop-setting
invariant-loop-setting l =
    (vec_items l.file ≡ vec_items l.initial.file ++ flat_map (bytes_of 8) (value_bits_of (take l.setting-index l.settings)))
    × AllByRecursion (λ b. b < 2 ^ 64) (value_bits_of (take l.setting-index l.settings))
    × AllByRecursion Restored (take l.setting-index l.settings)
