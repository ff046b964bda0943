use Rattle.std.proofs.Common.{◌≡◌, ◌++◌, take, vec_items}
use Rattle.std.specs.List.{flat_map}
use Rattle.settings.specs.Written.{keys_of}
use Rattle.settings.proofs.writing.push_keys.Given as goal

abbrev pub invariant-loop-setting : goal.invariant-loop-setting
invariant-loop-setting l = vec_items l.file ≡ vec_items l.initial.file ++ flat_map (λ k. k) (keys_of (take l.setting-index l.settings))
