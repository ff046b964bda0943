use Rattle.std.proofs.Common.{sym, arith}
use Rattle.std.proofs.lemmas.List.{length-map}
use Rattle.std.proofs.lemmas.Option.{slice_get-get_or}
use Rattle.arena.specs.Nodes.{node, nodes}
use Rattle.blocks.proofs.Parts.{node_at}
use Rattle.blocks.proofs.Depths.{counts_more, counts_all, opens_one, closes_one}
use Rattle.blocks.proofs.deepest.Goals as goal

pub loop-record-preserved : goal.loop-record-preserved
loop-record-preserved c = (
  omega (arith, opens_one c.role_of-role.result),
  omega (arith, closes_one c.role_of-role.result),
  λ os.
      counts_more (nodes c.args.records.now os) c.loop-record.record-index c.loop-record.opened c.loop-record.closed c.loop-record.deepest _ c.role_of-role.result _ _ _
      (node_at os c.args.records.now c.loop-record.record-index _ (slice_get-get_or c.args.records.now c.loop-record.record-index _ c.loop-record-test.true))
      (sym c.role_of-role.ensures) (omega arith) (omega arith) (omega arith) (c.loop-record.invariant.2 os),
)

pub returns : goal.returns
returns c = λ os.
    let long = length-map c.args.records.now (node os) in
    counts_all (nodes c.args.records.now os) c.loop-record.record-index c.loop-record.opened c.loop-record.closed _ (omega arith) (c.loop-record.invariant.2 os)
