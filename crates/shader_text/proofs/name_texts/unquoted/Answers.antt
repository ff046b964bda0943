use Rattle.std.proofs.Common.{◌≡◌, ◌<◌, ◌++◌, length, vec_items, sym, ap, ◌∙◌, append-nil, rules}
use Rattle.std.proofs.lemmas.Option.{MatchOption-at_some}
use Rattle.shader_text.specs.NameTexts.{inner}
use Rattle.shader_text.proofs.Escaped.{next, none_left, joined_more}
use Rattle.shader_text.proofs.name_texts.unquoted.Goals as goal

pub returns-in_err-byte : goal.returns-in_err-byte
returns-in_err-byte c = λ name small e.
    let some : 0 < length c.loop-rest.rest.now = search rules in
    let so_far = c.loop-rest.invariant name small e in
    let step = next c.loop-rest.rest.now so_far.0 some so_far.1 so_far.2 in
    elim (rw c.in_err-byte.ensures.ok_part at (c.first_byte.ensures.back step.0 (inner step.1) step.3 step.4)) [ ]

pub loop-rest-preserved : goal.loop-rest-preserved
loop-rest-preserved c = λ name small e.
    let some : 0 < length c.loop-rest.rest.now = search rules in
    let so_far = c.loop-rest.invariant name small e in
    let step = next c.loop-rest.rest.now so_far.0 some so_far.1 so_far.2 in
    let got = MatchOption-at_some ⊥ (λ x. (x.0 ≡ step.0) × (x.1.now ≡ inner step.1)) (c.in_ok-byte.byte, c.in_ok-byte.after) c.in_ok-byte.ensures.ok_part (c.first_byte.ensures.back step.0 (inner step.1) step.3 step.4) in
    (step.1, step.5, got.1, joined_more name (vec_items c.push.new.self) (vec_items c.loop-rest.name) so_far.0 step.1 step.0 c.in_ok-byte.byte so_far.3 step.2 got.0 c.in_ok-push.ensures.items)

pub returns : goal.returns
returns c = λ name small e.
    let none : length c.loop-rest.rest.now ≡ 0 = search rules in
    let so_far = c.loop-rest.invariant name small e in
    let all = vec_items c.loop-rest.name in
    sym (so_far.3 ∙ ap (λ l. all ++ l) (none_left c.loop-rest.rest.now so_far.0 none so_far.2) ∙ append-nil all)
