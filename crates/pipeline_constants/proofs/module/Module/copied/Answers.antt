use Rattle.std.proofs.Common.{refl}
use Rattle.pipeline_constants.proofs.Modules.{settled_copied, copied_stands}
use Rattle.pipeline_constants.proofs.module.Module.copied.Goals as goal

pub invariant_of-result : goal.invariant_of-result
invariant_of-result c =
    record { stands = ∣ copied_stands c.args.self c.requires.bare _ refl c.copy.ensures c.requires.accepted c.clear.ensures.items ∣₁ }

pub returns : goal.returns
returns c f = settled_copied c.args.self c.requires.bare f _ _ refl refl c.copy.ensures c.requires.accepted c.clear.ensures.items
