use Rattle.std.proofs.Common.{ap, ◌∙◌, rules, arith}
use Rattle.std.specs.List.{slice_get}
use Rattle.std.proofs.lemmas.Iterator.Consumers.{YieldsList-from_first, nth_from_yields_List}
use Rattle.settings.specs.Walks.{keys_left}
use Rattle.settings.proofs.Places.{key_at}
use Rattle.settings.proofs.file.Settings.key.Goals as goal

pub returns : goal.returns
returns c =
    key_at (keys_left c.args.self.now.keys) c.args.i c.nth.result
    (nth_from_yields_List c.nth.result c.nth.new.self _ c.nth.ensures.ran (YieldsList-from_first (λ k. k.now) keys_left (keys_left c.args.self.now.keys) c.keys.ensures) ∙ ap (slice_get (keys_left c.args.self.now.keys)) (search (rules, arith)))
