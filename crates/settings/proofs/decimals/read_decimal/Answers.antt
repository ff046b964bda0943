use Rattle.std.proofs.Common.{arith, rules}
use Rattle.settings.specs.Decimals.{Ill}
use Rattle.settings.proofs.Digits.{ill_is_none, read, below}
use Rattle.settings.proofs.decimals.read_decimal.Goals as goal

pub returns-then-is_ill : goal.returns-then-is_ill
returns-then-is_ill g c = λ n small.
    let ill : Ill c.args.word.now = search rules in
    ill_is_none c.args.word.now n (omega (arith, small, below g.N.Decimal.bits g.N.Decimal.few)) ill

pub returns : goal.returns
returns g c =
    let well : Ill c.args.word.now → ⊥ = search rules in
    let got = read g.N.Decimal.number g.N.Decimal.bits c.args.word.now c.parse.result g.N.Decimal.few well (g.met.N.Decimal.parses c.args.word.now c.parse.result c.parse.ensures.value) in
    rw c.ok.ensures.value got
