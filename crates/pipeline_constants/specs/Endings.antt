-- What a walk in the finished tables came to.
use Rattle.std.specs.Prelude.{◌≡◌, List, length, Ok, Err, Result}
use Rattle.arena.specs.Items.{items}
use Rattle.arena.specs.Nodes.{nodes, operand_total}
use Rattle.arena.specs.Tiles.{Tiled}
use Rattle.refusals.specs.declared.Refusal.{Refusal}
use Rattle.refusals.specs.Codes.{code_of}
use Rattle.ir.specs.declared.tables.Sizes.{Sizes}
use Rattle.ir.specs.Tables.{Global, sizes_of}
use Rattle.evaluator.specs.Verdicts.{Meaning}
use Rattle.walking.specs.declared.overrides.Valued.{Valued}
use Rattle.walking.specs.Laws.{CheckedOld, KeepsTrees}
use Rattle.walking.specs.Accepted.{old_of_global}
use Rattle.pipeline_constants.specs.declared.finished.Finished.{Finished}
use Rattle.pipeline_constants.specs.declared.settling.Ended.{Ended}
use Rattle.pipeline_constants.specs.Contents.{Content}
use Rattle.pipeline_constants.specs.Settlings.{Answer, settles, refuses, after_walk, walked}
use Rattle.pipeline_constants.specs.Views.{content_of, limits_of}

-- The tables hold what the answer says, and the sizes or the refusal are its own.
abbrev pub Came : Answer → Content → Result Sizes Refusal → Type 0
Came (settles c zs) d (Ok z) = (d ≡ c) × (sizes_of z ≡ zs)
Came (settles c zs) d (Err e) = ⊥
Came (refuses c code values) d (Ok z) = ⊥
Came (refuses c code values) d (Err e) = (d ≡ c) × (code_of e ≡ (code, values))

-- A settling of a module with overrides of these values, in finished tables f.
pub record Ending (v : Meaning) (m : Global) (os : List Valued) (f : Finished) (e : Ended) : Type 0 where
  pub came : Came (after_walk m (walked v (limits_of f) m os)) (content_of e.finished) e.sized
  pub keeps : CheckedOld (old_of_global m os) → (n : Sizes) → e.sized ≡ Ok n → KeepsTrees (old_of_global m os) (content_of e.finished).walk
  pub tiled : Tiled (items e.finished.entries) (length (items e.finished.operands))
  pub total : length (items e.finished.operands) ≡ operand_total (nodes (items e.finished.entries) (items e.finished.operands))
  pub limits : limits_of e.finished ≡ limits_of f
