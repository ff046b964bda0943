use Rattle.std.proofs.Common.{◌≡◌, ℕ, ◌<◌, List, decimal, refl, sym, ◌∙◌, rules, tests, arith}
use Rattle.std.proofs.lemmas.Fmt.{decimal_injective}
use Rattle.shader_text.proofs.words.read_handle.Goals as goal

-- the word of the largest number is no other number's
largest : (word : List ℕ) (n h : ℕ) → n ≡ 4294967295 → word ≡ decimal n → h < 4294967295 → word ≡ decimal h → ⊥
largest word n h is e small other =
    let same : n ≡ h = decimal_injective n h (omega (arith, is)) (omega (arith, small)) (sym e ∙ other) in
    omega (arith, is, small, same)

pub returns-then-handle : goal.returns-then-handle
returns-then-handle c = (refl, search rules, λ h small e. largest c.args.word.now c.in_ok-handle.handle h (search (rules, tests)) (search rules) small e)
