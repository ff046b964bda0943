use Rattle.std.proofs.Common.{sym, ap, ◌∙◌, arith}
use Rattle.std.proofs.lemmas.List.{drop_all}
use Rattle.std.specs.Str.{all_ascii_digits}
use Rattle.settings.specs.Keys.{read_on}
use Rattle.settings.proofs.Numeral.{read_more, digits_more, a_digit, read_ge}
use Rattle.settings.proofs.naming.number.Goals as goal

pub loop-b-preserved : goal.loop-b-preserved
loop-b-preserved c = (
  c.if-n-gt-LARGEST_NUMBER.false,
  read_more c.args.bytes.now c.loop-b.b-index c.loop-b.n c.loop-b-test.true c.loop-b.invariant.1 c.loop-b.invariant.2,
  digits_more c.args.bytes.now c.loop-b.b-index c.loop-b.n c.loop-b-test.true c.loop-b.invariant.1 c.loop-b.invariant.2 c.if-b-lt48.false c.if-b-gt57.false,
)

pub returns-then-b-lt48 : goal.returns-then-b-lt48
returns-then-b-lt48 c = λ d v.
    let k = a_digit c.args.bytes.now c.loop-b.b-index c.loop-b.n c.loop-b-test.true c.loop-b.invariant.1 c.loop-b.invariant.2 d in omega (arith, k.0)

pub returns-then-b-gt57 : goal.returns-then-b-gt57
returns-then-b-gt57 c = λ d v.
    let k = a_digit c.args.bytes.now c.loop-b.b-index c.loop-b.n c.loop-b-test.true c.loop-b.invariant.1 c.loop-b.invariant.2 d in omega (arith, k.1)

pub returns-then-n-gt-LARGEST_NUMBER : goal.returns-then-n-gt-LARGEST_NUMBER
returns-then-n-gt-LARGEST_NUMBER c = λ d v.
    omega (arith, read_ge c.args.bytes.now c.loop-b.b-index c.loop-b.n c.loop-b-test.true c.loop-b.invariant.1 c.loop-b.invariant.2)

pub returns : goal.returns
returns c =
    let e = drop_all c.loop-b.b-index c.args.bytes.now c.loop-b-test.false in
    (c.loop-b.invariant.0, sym c.loop-b.invariant.2 ∙ ap all_ascii_digits e, sym c.loop-b.invariant.1 ∙ ap (read_on c.loop-b.n) e)
