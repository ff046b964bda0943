use Rattle.std.proofs.Common.{◌≡◌, List, [], ◌∷◌, map, length, Some, None, Option, refl, ◌∙◌, ap, rules, arith}
use Rattle.std.proofs.lemmas.List.{length-map}
use lib.Ieee.{of_bits, binary64}
use Rattle.std.specs.List.{zip}
use Rattle.std.specs.Iterator.{YieldsFirstBy}
use Rattle.settings.specs.Layout.{number_of}
use Rattle.settings.specs.Walks.{keys_left, settings_left}
use Rattle.settings.specs.declared.iter.Iter.{Iter}
use Rattle.settings.specs.declared.writing.Setting.{Setting}
use Rattle.settings.proofs.iter.IterIterator.next.Goals as goal

zip_nil : {A B : Type 0} (xs : List A) (ys : List B) → length ys ≡ 0 → zip xs ys ≡ []
zip_nil [] ys e = refl
zip_nil (x ∷ xs) [] e = refl
zip_nil (x ∷ xs) (y ∷ ys) e = absurd (omega arith)

none_left : (i : Iter) → length i.values.now ≡ 0 → settings_left i ≡ []
none_left i e = zip_nil (keys_left i.keys) _ (length-map (map number_of i.values.now) (of_bits binary64) ∙ length-map i.values.now number_of ∙ e)

ends : (s t : Iter) (r : Option Setting) → r ≡ None → length s.values.now ≡ 0 → length t.values.now ≡ 0 → YieldsFirstBy (λ x. (x.key.now, x.value)) settings_left s r t
ends s t None e none rest = (none_left s none, none_left t rest)
ends s t (Some x) e none rest = absurd (cc)

pub returns-in_err-split_off_first-clause-steps : goal.returns-in_err-split_off_first-clause-steps
returns-in_err-split_off_first-clause-steps c =
    let none = c.in_err-split_off_first.ensures.cases in
    ends c.args.self.now (record { keys = c.next.new.self; values = c.split_off_first.new.self }) c.from_residual-in_err-split_off_first.result (search rules) none.0 (ap length none.1 ∙ none.0)
