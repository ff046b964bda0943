use Rattle.std.proofs.Common.{◌≡◌, Some, rules, tests}
use Rattle.std.specs.List.{slice_get}
use Rattle.std.proofs.lemmas.Iterator.{first_from_Range}
use Rattle.shader_text.specs.KindNames.{names_of}
use Rattle.shader_text.proofs.Distinct.{least_named, back_named}
use Rattle.shader_text.proofs.kind_names.kind_named.Goals as goal

pub returns-clause-least : goal.returns-clause-least
returns-clause-least c =
    let sort = c.args.sort in
    let word = c.args.word.now in
    least_named sort word c.find.result (first_from_Range _ _ _ c.find.result (λ k. slice_get (names_of sort) k ≡ Some word) (λ k. slice_get (names_of sort) k ≡ Some word → ⊥) c.find.ensures.ran (λ x q h. search (rules, tests)) (λ x q h. search (rules, tests)))

pub returns-clause-back : goal.returns-clause-back
returns-clause-back c = back_named c.args.sort c.args.word.now c.find.result (returns-clause-least c)
