use Rattle.std.proofs.Common.{◌≡◌, ℕ, ◌<◌, ◌==◌, count_by, length, slice_index, take}
use Rattle.inspection.proofs.counts.kind_counts.Given as goal

abbrev pub invariant-loop-entry : goal.invariant-loop-entry
invariant-loop-entry l = (length l.counts ≡ 256) × ((k : ℕ) → k < 256 → slice_index l.counts k ≡ count_by (λ e. e.kind == k) (take l.entry-index l.entries))
