-- Runs that tile an operand list: each operand belongs to exactly one entry. In which order the runs lie is left open.
use Rattle.std.specs.Prelude.{◌≡◌, ℕ, ◌+◌, ◌<◌, Bool, ◌&&◌, List, count_by, nat_le, nat_lt}
use Rattle.arena.specs.declared.entry.Run.{Run}
use Rattle.arena.specs.declared.entry.Entry.{Entry}
use Rattle.arena.specs.Nodes.{Within}

-- whether a place lies in a run
abbrev pub lies : ℕ → Run → Bool
lies p r = nat_le r.at p && nat_lt p (r.at + r.len)

-- how many entries have the place in their run
abbrev pub owners : List Entry → ℕ → ℕ
owners es p = count_by (λ e. lies p e.run) es

-- every place below n lies in the run of exactly one entry, and no run reaches past n
abbrev pub Tiled : List Entry → ℕ → Type 0
Tiled es n = Within es n × ((p : ℕ) → p < n → owners es p ≡ 1)
