use lib.Ieee.{fits, binary64}
use lib.Ieee.Bits.{of_bits-to_bits}
use denote.Floats.{passes}
use Rattle.settings.proofs.writing.bits_of.Goals as goal

pub returns-clause-back : goal.returns-clause-back
returns-clause-back c = of_bits-to_bits binary64 c.args.value (passes (fits binary64 c.args.value) c.well_formed.0.1)
