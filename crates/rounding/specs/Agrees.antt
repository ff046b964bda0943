-- The patterns as the logic's own account of IEEE 754 reads them, for the two formats that it has.
use Rattle.std.specs.Prelude.{ℕ, ◌%◌, ◌^◌, ◌<◌, nat_le}
use Rattle.std.specs.Float.Ieee as Ieee
use Rattle.std.specs.Float.Ieee.Exact.{HasValue}
use Rattle.rounding.specs.Formats.{Format, infinity, sign_bit_of, magnitude}

abbrev pub format_of : Ieee.Format → Format
format_of f = record { digits = Ieee.prec f; emax = Ieee.emax f }

-- A finite pattern is read as its magnitude / 2 ^ 1074, negative where the sign is set.
abbrev pub Agrees : Type 0
Agrees =
    (f : Ieee.Format) (b : ℕ) → b % sign_bit_of (format_of f) < infinity (format_of f)
    → HasValue (Ieee.of_bits f b) (nat_le (sign_bit_of (format_of f)) b) (magnitude (format_of f) (b % sign_bit_of (format_of f))) (2 ^ 1074)
