-- IEEE 754's rounding to nearest, ties to even: the value of a format that is nearest to a number of units. The infinity takes part as an even value, and stands for 2 ^ (emax + 1).
use Rattle.std.specs.Prelude.{◌≡◌, ℕ, ◌%◌, ◌≤◌, ◌≢◌}
use Rattle.std.specs.Int.{abs_diff}
use Rattle.rounding.specs.Formats.{Format, infinity, significand, magnitude}

-- q is the pattern, with a clear sign, of the value of f that is nearest to n units: no other is nearer, and where another is as near, q's significand is even.
pub record Nearest (f : Format) (n q : ℕ) : Type 0 where
  pub among : q ≤ infinity f
  pub nearer : (r : ℕ) → r ≤ infinity f → abs_diff (magnitude f q) n ≤ abs_diff (magnitude f r) n
  pub even : (r : ℕ) → r ≤ infinity f → r ≢ q → abs_diff (magnitude f r) n ≡ abs_diff (magnitude f q) n → significand f q % 2 ≡ 0

-- There is one such pattern at most.
abbrev pub NearestIsOne : Type 0
NearestIsOne = (f : Format) → 2 ≤ f.digits → (n q r : ℕ) → Nearest f n q → Nearest f n r → q ≡ r
