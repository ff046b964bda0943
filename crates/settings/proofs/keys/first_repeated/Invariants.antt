use Rattle.std.proofs.Common.{ℕ, ◌<◌, List, length}
use Rattle.std.specs.Iterator.{AlwaysYields}
use Rattle.settings.specs.Layout.{Repeats}
use Rattle.settings.proofs.keys.first_repeated.Given as goal

abbrev pub invariant-loop-i : goal.invariant-loop-i
invariant-loop-i g l = (ks : List (List ℕ)) → AlwaysYields g.K.Iterator.next_gives (λ k. k.now) l.keys ks → (k : ℕ) → k < length l.yielded → Repeats ks k → ⊥
