use Rattle.std.proofs.Common.{◌==◌, refl, rules}
use Rattle.std.proofs.lemmas.List.{get_or-replicate}
use Rattle.inspection.proofs.Counting.{one_more}
use Rattle.inspection.proofs.counts.kind_counts.Goals as goal

pub loop-entry-init : goal.loop-entry-init
loop-entry-init c = (refl, λ k small. get_or-replicate 256 k 0 0 small)

pub loop-entry-preserved : goal.loop-entry-preserved
loop-entry-preserved c = (search (rules, c.loop-entry.invariant.0), λ k small. one_more c.args.entries.now c.loop-entry.counts c.loop-entry.entry-index c.from.result k _ (c.from.result == k) refl c.loop-entry-test.true c.from.ensures (search rules) (c.loop-entry.invariant.1 k small))
