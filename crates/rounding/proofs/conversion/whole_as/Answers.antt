use Rattle.std.proofs.Common.{◌≡◌, ℤ, subst, ◌∙◌, to_z-of_z, w64, to_z, of_z, rules}
use Rattle.std.specs.Float.{float_is_finite}
use Rattle.rounding.proofs.Conversions.{chosen}
use Rattle.rounding.proofs.conversion.whole_as.Goals as goal

pub returns : goal.returns
returns g c =
    let z = c.in_ok-whole_of.field-0 in
    let s = c.in_ok-whole_of.ensures.finite in
    -- a signed value that is passed shows as its bits and back
    let back : to_z w64 (of_z w64 z) ≡ z = to_z-of_z {w = w64} (search rules) in
    chosen (float_is_finite c.args.value) _ _ s.1 (c.try_from.result, subst (λ (k : ℤ). g.T.TryFrom.try_from_gives k c.try_from.result) (back ∙ s.0) c.try_from.ensures, c.or.ensures)
