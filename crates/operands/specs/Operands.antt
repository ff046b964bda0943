-- Which places of an operand list are at fault. A place may lie in the runs of several entries: it is at fault if it is wrong for any.
use Rattle.std.specs.Prelude.{◌≡◌, ℕ, ◌+◌, ◌<◌, true, List}
use Rattle.places.specs.First.{Holds}
use Rattle.arena.specs.declared.entry.Entry.{Entry}
use Rattle.operands.specs.declared.Sort.{Sort}
use Rattle.operands.specs.Faults.{lacking, out_of_range_of}

-- what is said of the index of an entry, the entry, a slot and the operand there
abbrev pub Fault : Type 1
Fault = ℕ → Entry → ℕ → ℕ → Type 0

-- the operand at k is in slot s of the entry e, which stands at i, and is wrong for it
abbrev pub InRun : Fault → List ℕ → ℕ → Entry → ℕ → Type 0
InRun F os i e k = (s : ℕ) × (s < e.run.len) × (k ≡ e.run.at + s) × Holds (λ _ h. F i e s h) os k

-- the operand at k is wrong for some entry
abbrev pub Wrong : Fault → List Entry → List ℕ → ℕ → Type 0
Wrong F es os k = (i : ℕ) × Holds (λ j e. InRun F os j e k) es i

-- the operand at k is absent, and some entry needs it
abbrev pub Lacking : Sort → List Entry → List ℕ → ℕ → Type 0
Lacking sort = Wrong (λ _ e s h. lacking sort e s h ≡ true)

-- the operand at k is not below an entry that it is an operand of
abbrev pub NotBelow : List Entry → List ℕ → ℕ → Type 0
NotBelow = Wrong (λ i _ _ h. out_of_range_of true i h ≡ true)

-- the operand at k is an operand of some entry, and not below the bound
abbrev pub Beyond : ℕ → List Entry → List ℕ → ℕ → Type 0
Beyond bound = Wrong (λ _ _ _ h. out_of_range_of true bound h ≡ true)
