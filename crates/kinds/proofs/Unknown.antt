-- A number past the last kind has no row.
use Rattle.std.proofs.Common.{◌≡◌, ℕ, ◌≤◌, List, length, Ok, Err, None, Result, MatchResult}
use Rattle.std.specs.List.{slice_get}
use Rattle.std.specs.Result.{result_ok}
use Rattle.std.proofs.lemmas.Option.{slice_get_past}
use Rattle.kinds.specs.declared.UnknownKind.{UnknownKind}

pub past_rows : {A R : Type 0} (F : A → Type 0) (rows : List R) (k : ℕ) (r : Result A UnknownKind) →
    MatchResult r F (λ u. (u.0 ≡ k) × (length rows ≤ k)) → result_ok r ≡ None → slice_get rows k ≡ None
past_rows F rows k (Ok a) h e = cc
past_rows F rows k (Err u) h e = slice_get_past rows k h.1
