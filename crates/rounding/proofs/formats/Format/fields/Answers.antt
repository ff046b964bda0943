use Rattle.std.proofs.Common.{◌+◌, ◌-◌, ◌≤◌, lt_of_lt_of_le, arith, pow_mono}
use Rattle.std.proofs.lemmas.Nat.{shl_whole, shl_below}
use Rattle.rounding.proofs.formats.Format.fields.Goals as goal

pub returns-clause-bound : goal.returns-clause-bound
returns-clause-bound c =
    let n = c.args.count in
    let d = c.self.inside.digits in
    let fits : 12 + (d - 1) ≤ 35 = omega (arith, c.self.invariant.1) in
    omega (arith, shl_whole n 12 (d - 1) 64 c.requires (omega arith), lt_of_lt_of_le (shl_below n 12 (d - 1) c.requires) (pow_mono fits))
