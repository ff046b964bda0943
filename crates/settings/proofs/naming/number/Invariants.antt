use Rattle.std.proofs.Common.{◌≡◌, ◌≤◌, drop}
use Rattle.std.specs.Str.{all_ascii_digits}
use Rattle.settings.specs.Keys.{read_on}
use Rattle.settings.proofs.naming.number.Given as goal

abbrev pub invariant-loop-b : goal.invariant-loop-b
invariant-loop-b l =
    (l.n ≤ 65535) × (read_on l.n (drop l.b-index l.bytes) ≡ read_on 0 l.bytes) × (all_ascii_digits (drop l.b-index l.bytes) ≡ all_ascii_digits l.bytes)
