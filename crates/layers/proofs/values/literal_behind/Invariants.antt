use Rattle.std.proofs.Common.{◌≡◌, map}
use Rattle.evaluator.specs.Views.{nodes_in}
use Rattle.layers.specs.Values.{behind_in}
use Rattle.layers.proofs.values.literal_behind.Given as goal

abbrev pub invariant-loop-init : goal.invariant-loop-init
invariant-loop-init l =
    behind_in (nodes_in l.fn.nodes) (map (λ c. c.init) l.fn.constants) l.at ≡ behind_in (nodes_in l.fn.nodes) (map (λ c. c.init) l.fn.constants) l.fn.handle

abbrev pub decreases-loop-init : goal.decreases-loop-init
decreases-loop-init l = l.at
