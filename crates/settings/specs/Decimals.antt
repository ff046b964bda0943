-- Numbers as they are written in decimal.
use Rattle.std.specs.Prelude.{◌≡◌, ℕ, ◌<◌, ◌⊎◌, List, length, Ok, Err, Result, slice_index}
use Rattle.std.specs.Str.Parse.{ParsesUnsigned}
use Rattle.std.specs.Result.{result_map_both}

-- where a value is itself the number
pub parsed : {E : Type 0} (bits : ℕ) (text : List ℕ) (r : Result ℕ E) → ParsesUnsigned bits 10 text r → ParsesUnsigned bits 10 text (result_map_both (λ (n : ℕ). n) (λ (e : E). e) r)
parsed bits text (Ok n) h = h
parsed bits text (Err e) h = h

-- a plus sign, or a zero before other bytes
abbrev pub Ill : List ℕ → Type 0
Ill bs = (slice_index bs 0 ≡ 43) ⊎ ((slice_index bs 0 ≡ 48) × (1 < length bs))
