use Rattle.std.proofs.Common.{◌≡◌, ap, subst, arith}
use Rattle.rounding.specs.Formats.{Format, double, doublings}
use Rattle.rounding.specs.Shifts.{Narrow}
use Rattle.rounding.proofs.Doubles.{fields_of, nearest_of, zero_of}
use Rattle.rounding.proofs.formats.Format.nearest.Goals as goal

pub returns-then-drop-gt-LONGEST_SHIFT : goal.returns-then-drop-gt-LONGEST_SHIFT
returns-then-drop-gt-LONGEST_SHIFT c =
    let d = ap (λ (f : Format). f.digits) c.self.view_is in
    let x = ap (λ (f : Format). f.emax) c.self.view_is in
    zero_of c.args.self (subst Narrow c.self.view_is c.self.invariant) c.args.bits _ (omega (arith, d, x)) c.if-drop-gt-LONGEST_SHIFT.true

pub returns : goal.returns
returns c =
    let d = ap (λ (f : Format). f.digits) c.self.view_is in
    let x = ap (λ (f : Format). f.emax) c.self.view_is in
    let y : c.saturating_sub-field.result ≡ fields_of c.args.self (doublings double c.args.bits) = omega (arith, d, x) in
    nearest_of c.args.self (subst Narrow c.self.view_is c.self.invariant) c.args.bits _ _ _ _ c.of-parts.ensures.significand (omega (arith, d, x)) c.rounded_shift.ensures.nearest cc
