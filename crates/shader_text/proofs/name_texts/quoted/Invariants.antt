use Rattle.std.proofs.Common.{◌≡◌, ◌∷◌, take, string_bytes}
use Rattle.shader_text.specs.NameTexts.{inner}
use Rattle.shader_text.proofs.name_texts.quoted.Given as goal

abbrev pub invariant-loop-b : goal.invariant-loop-b
invariant-loop-b l = string_bytes l.out ≡ 34 ∷ inner (take l.b-index l.name)
