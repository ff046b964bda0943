use Rattle.std.proofs.Common.{length, refl, arith}
use Rattle.arena.specs.Nodes.{nodes}
use Rattle.adjusting.proofs.Adding.{length_nodes}
use Rattle.adjusting.proofs.Checking.{few, first_record, none_applies}
use Rattle.adjusting.proofs.body.check.Goals as goal

pub returns-in-Some-check_blocks-clause-first : goal.returns-in-Some-check_blocks-clause-first
returns-in-Some-check_blocks-clause-first c os =
    let l = few (length c.args.records.now) c.in_default.ensures in
    first_record (nodes c.args.records.now os) c.in-Some-check_blocks.record (omega (arith, l, length_nodes c.args.records.now os)) (c.in-Some-check_blocks.ensures os).first

pub returns-in-None-clause-first : goal.returns-in-None-clause-first
returns-in-None-clause-first c os =
    let l = few (length c.args.records.now) c.in_default.ensures in
    none_applies (nodes c.args.records.now os) (omega (arith, l, length_nodes c.args.records.now os)) (c.in-None.ensures os).first

pub returns-in-None-clause-block : goal.returns-in-None-clause-block
returns-in-None-clause-block c os = (c.in-None.ensures os).accepts refl

pub returns-in-None-clause-few : goal.returns-in-None-clause-few
returns-in-None-clause-few c = few (length c.args.records.now) c.in_default.ensures
