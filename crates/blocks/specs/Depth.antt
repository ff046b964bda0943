-- How many blocks are open at once.
use Rattle.std.specs.Prelude.{◌≡◌, ℕ, ◌-◌, ◌≤◌, List, length, take}
use Rattle.arena.specs.Nodes.{Node}
use Rattle.blocks.specs.Blocks.{opened, closed}

-- how many are open after k records; none where more were closed than opened
abbrev pub depth_at : List Node → ℕ → ℕ
depth_at rs k = opened (take k rs) - closed (take k rs)

-- so many are open somewhere, and nowhere more
pub record Deepest (rs : List Node) (d : ℕ) : Type 0 where
  pub reached : (k : ℕ) × (k ≤ length rs) × (depth_at rs k ≡ d)
  pub most : (k : ℕ) → k ≤ length rs → depth_at rs k ≤ d
