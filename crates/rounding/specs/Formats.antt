-- IEEE 754's binary formats, by their bit patterns. A value's magnitude is a whole number of units, each 2^-1074, the smallest double above 0.
use Rattle.std.specs.Prelude.{◌≡◌, ℕ, ◌+◌, ◌-◌, ◌*◌, ◌/◌, ◌%◌, ◌^◌, cond, nat_lt}

-- the binary digits of a significand, the leading one counted, and the exponent of the largest values, which lie below 2 ^ (emax + 1)
pub record Format : Type 0 where
  pub digits : ℕ
  pub emax : ℕ

abbrev pub half : Format
half = record { digits = 11; emax = 15 }

abbrev pub single : Format
single = record { digits = 24; emax = 127 }

abbrev pub double : Format
double = record { digits = 53; emax = 1023 }

-- A pattern is the sign, the exponent's field, and the digits below the leading one. This is the weight of the field's last bit.
abbrev pub weight : Format → ℕ
weight f = 2 ^ (f.digits - 1)

-- the pattern of the infinity: the field is all ones, and the digits are 0. The patterns below it are those of the finite values.
abbrev pub infinity : Format → ℕ
infinity f = (2 * f.emax + 1) * weight f

-- the weight of the sign
abbrev pub sign_bit_of : Format → ℕ
sign_bit_of f = (2 * f.emax + 2) * weight f

-- the format's smallest value above 0 is 2 ^ step units
abbrev pub step : Format → ℕ
step f = 1076 - (f.digits + f.emax)

-- Of a pattern whose sign is clear. A field of 0 has no leading one.
unfoldable pub significand : Format → ℕ → ℕ
significand f q = cond (nat_lt q (weight f)) q (weight f + q % weight f)

-- how often the significand is doubled: a field of 0 counts as a field of 1
unfoldable pub doublings : Format → ℕ → ℕ
doublings f q = q / weight f - 1

-- The units that a pattern with a clear sign stands for. At the infinity's pattern this is 2 ^ (emax + 1).
unfoldable pub magnitude : Format → ℕ → ℕ
unfolding significand doublings
magnitude f q = significand f q * 2 ^ (doublings f q + step f)

-- what stands for the infinity: 2^16 and 2^128
abbrev pub StandIns : Type 0
StandIns = (magnitude half (infinity half) ≡ 2 ^ 16 * 2 ^ 1074) × (magnitude single (infinity single) ≡ 2 ^ 128 * 2 ^ 1074)
