-- The pattern of the nearest value, with the double's sign. Assumes nothing.
use Rattle.std.proofs.Common.{arith}
use Rattle.std.proofs.lemmas.Grind.{common_steps}
use Rattle.rounding.proofs.Conversions.{below, too_large, rounds_to}
use Rattle.rounding.proofs.conversion.rounded.Goals as goal

pub nearest-pattern-requires : goal.nearest-pattern-requires
nearest-pattern-requires c = below c.args.value c.in_ok-value.value c.abs.result c.well_formed.0.1 c.in_ok-value.ensures.finite c.abs.ensures.value

pub returns-then-pattern-infinity-clause-cases : goal.returns-then-pattern-infinity-clause-cases
returns-then-pattern-infinity-clause-cases c =
    too_large c.args.value c.in_ok-value.value c.abs.result c.well_formed.0.1 c.in_ok-value.ensures.finite c.abs.ensures.value c.args.format c.nearest-pattern.result c.nearest-pattern.ensures
    (omega (arith, c.infinity.ensures))

pub returns-clause-cases : goal.returns-clause-cases
returns-clause-cases c =
    rounds_to c.args.value c.in_ok-value.value c.abs.result c.well_formed.0.1 c.in_ok-value.ensures.finite c.abs.ensures.value c.args.format c.nearest-pattern.result c.nearest-pattern.ensures
    (omega (arith, c.infinity.ensures)) _ (grind (arith, common_steps))
