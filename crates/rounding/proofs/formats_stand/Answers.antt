use Rattle.std.proofs.Common.{refl}
use Rattle.rounding.specs.Formats.{magnitude}
use Rattle.rounding.proofs.Choosing.{nearest_is_one}
use Rattle.rounding.proofs.Agreeing.{agrees}
use Rattle.rounding.proofs.Floats.{exact}
use Rattle.rounding.proofs.formats_stand.Goals as goal

pub returns : goal.returns
unfolding magnitude
returns c = record { one = nearest_is_one; stand_ins = (refl, refl); agrees = agrees; exact = exact }
