-- How the words of a listing stand for handles, kinds, runs and spans.
use Rattle.std.specs.Prelude.{◌≡◌, ◌≢◌, ℕ, ◌+◌, ◌≤◌, Bool, ◌&&◌, cond, List, ◌++◌, ◌==◌, nat_le, Option, Some, None, codes, decimal, unwrap_or, slice_index}
use Rattle.std.specs.List.{slice_get}
use Rattle.arena.specs.declared.entry.Run.{Run}
use Rattle.arena.specs.declared.entry.Span.{Span}
use Rattle.operands.specs.declared.Sort.{Sort}
use Rattle.operands.specs.Faults.{absent}
use Rattle.shader_text.specs.KindNames.{names_of}

-- a handle where none is written -
abbrev pub handle_word : ℕ → List ℕ
handle_word h = cond (h == absent) (codes "-") (decimal h)

-- a handle that may be left out
abbrev pub init_word : Option ℕ → List ℕ
init_word None = codes "-"
init_word (Some h) = decimal h

-- the name of a kind, or its number where it has none
abbrev pub kind_word : Sort → ℕ → List ℕ
kind_word sort kind = unwrap_or (slice_get (names_of sort) kind) (decimal kind)

abbrev pub pair_word : List ℕ → ℕ → ℕ → List ℕ
pair_word between left right = decimal left ++ between ++ decimal right

abbrev pub run_word : Run → List ℕ
run_word r = codes "@" ++ pair_word (codes "+") r.at r.len

abbrev pub span_word : Span → List ℕ
span_word s = pair_word (codes "..") s.start s.end

-- the run begins right after the first `done` items of a list of n, and lies in the list
abbrev pub in_line_of : ℕ → ℕ → Run → Bool
in_line_of n done r = (r.at == done) && nat_le (r.at + r.len) n

-- of four words all from n on are 0, and the one before them, if there is one, is not
abbrev pub Cut : List ℕ → ℕ → Type 0
Cut ws n = (n ≤ 4) × ((k : ℕ) → n ≤ k → slice_index ws k ≡ 0) × ((m : ℕ) → n ≡ m + 1 → slice_index ws m ≢ 0)
