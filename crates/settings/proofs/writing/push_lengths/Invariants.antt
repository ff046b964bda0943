use Rattle.std.proofs.Common.{◌≡◌, ◌++◌, map, length, take, vec_items}
use Rattle.settings.specs.Written.{keys_of}
use Rattle.settings.proofs.writing.push_lengths.Given as goal

abbrev pub invariant-loop-setting : goal.invariant-loop-setting
invariant-loop-setting l = vec_items l.file ≡ vec_items l.initial.file ++ map length (keys_of (take l.setting-index l.settings))
