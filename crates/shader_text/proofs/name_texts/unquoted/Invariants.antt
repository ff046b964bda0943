use Rattle.std.proofs.Common.{◌≡◌, ℕ, List, ◌++◌, length, vec_items}
use Rattle.shader_text.specs.NameTexts.{Bytes, inner}
use Rattle.shader_text.proofs.name_texts.unquoted.Given as goal

abbrev pub invariant-loop-rest : goal.invariant-loop-rest
invariant-loop-rest l = (name : List ℕ) → Bytes name → l.text ≡ inner name → (left : List ℕ) × Bytes left × (l.rest ≡ inner left) × (name ≡ vec_items l.name ++ left)

abbrev pub decreases-loop-rest : goal.decreases-loop-rest
decreases-loop-rest l = length l.rest
