-- One entry more is counted.
use Rattle.std.proofs.Common.{◌≡◌, ℕ, ◌+◌, ◌<◌, Bool, true, false, List, length, get_or, take, ◌==◌, count_by, slice_index, slice_index_or, slice_set, tests, arith}
use Rattle.std.proofs.lemmas.Grind.{common_steps}
use Rattle.std.proofs.lemmas.List.Sums.{count_by_more_yes, count_by_more_no}
use Rattle.arena.specs.declared.entry.Entry.{Entry}

pub one_more : (es : List Entry) (counts : List ℕ) (i kind k : ℕ) (e : Entry) (b : Bool) → (kind == k) ≡ b → i < length es → kind ≡ (get_or es i e).kind → kind < length counts →
    slice_index counts k ≡ count_by (λ x. x.kind == k) (take i es) →
    slice_index (slice_set counts kind (slice_index_or counts kind 0 + 1)) k ≡ count_by (λ x. x.kind == k) (take (i + 1) es)
one_more es counts i kind k e true same within is inside so_far = grind (arith, common_steps, tests, same, is, so_far, count_by_more_yes (λ x. x.kind == k) es i e within)
one_more es counts i kind k e false other within is inside so_far = grind (arith, common_steps, tests, other, is, so_far, count_by_more_no (λ x. x.kind == k) es i e within)
