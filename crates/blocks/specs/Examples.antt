-- Small bodies: what is woven, and what is in sight.
use Rattle.std.specs.Prelude.{◌≡◌, ℕ, List, [], ◌∷◌}
use Rattle.arena.specs.Nodes.{Node}
use Rattle.blocks.specs.Blocks.{Block, Stmts, Stmt, block, end, also, stmt, none, more, Shaped}
use Rattle.blocks.specs.Weave.{emitted, other, weave}
use Rattle.blocks.specs.Sight.{uses, results, InSight}

-- an entry or a record of a kind, with its words and operands
abbrev pub made : ℕ → List ℕ → List ℕ → Node
made kind words operands = record { kind = kind; words = words; operands = operands; span = record { start = 0; end = 0 } }

-- entry 0 is a Literal, entry 1 a Load of it, entry 2 a Load of entry 1
abbrev pub entries : List Node
entries = made 18 [] [] ∷ made 5 [] (0 ∷ []) ∷ made 5 [] (1 ∷ []) ∷ []

abbrev pub emitting : ℕ → ℕ → Stmt
emitting from to = stmt (made 0 (from ∷ to ∷ []) []) none

abbrev pub returning : ℕ → Stmt
returning h = stmt (made 5 [] (h ∷ [])) none

abbrev pub block_of : Stmts → Block
block_of ss = block (made 23 [] []) ss (made 24 [] [])

-- a record with two blocks after it, an If or a Loop
abbrev pub with_two : ℕ → ℕ → Stmts → Stmts → Stmt
with_two kind h ss ts = stmt (made kind [] (h ∷ [])) (more (block_of ss) (more (block_of ts) none))

-- { Emit 1..2; If 1 { Return 1 } {} }
abbrev pub used_inside : Block
used_inside = block_of (also (emitting 1 2) (also (with_two 2 1 (also (returning 1) end) end) end))

-- { If 0 { Emit 1..2 } {}; Return 1 }
abbrev pub used_after : Block
used_after = block_of (also (with_two 2 0 (also (emitting 1 2) end) end) (also (returning 1) end))

-- { Loop { Emit 1..2 } { Emit 2..3 } break_if 2 }
abbrev pub looped : Block
looped = block_of (also (with_two 4 2 (also (emitting 1 2) end) (also (emitting 2 3) end)) end)

-- Call(7, 8) with the result 9
abbrev pub calling : Node
calling = made 14 [] (7 ∷ 8 ∷ 9 ∷ [])

pub record Examples : Type 0 where
  pub woven : weave (calling ∷ made 0 (1 ∷ 3 ∷ []) [] ∷ made 18 [] [] ∷ []) ≡ other calling ∷ emitted 1 ∷ emitted 2 ∷ other (made 18 [] []) ∷ []
  pub call_uses : uses calling ≡ 7 ∷ 8 ∷ []
  pub call_names : results calling ≡ 9 ∷ []
  pub two_deep : Shaped used_inside 2
  pub not_one_deep : Shaped used_inside 1 → ⊥
  pub inside : InSight entries [] used_inside
  pub after : InSight entries [] used_after → ⊥
  pub loop : InSight entries [] looped
