use Rattle.std.proofs.Common.{◌≡◌, rules, ap}
use Rattle.arena.specs.Items.{items}
use Rattle.arena.specs.Nodes.{nodes}
use Rattle.adjusting.specs.Ends.{adjusted_body}
use Rattle.adjusting.specs.Rules.{goes, none_yet}
use Rattle.adjusting.specs.Works.{room_for, state_of}
use Rattle.adjusting.proofs.Ending.{from_nothing}
use Rattle.adjusting.proofs.body.adjust_checked.Goals as goal

pub returns-clause-came : goal.returns-clause-came
returns-clause-came c =
    let i = c.args.inputs in
    let b = c.adjust_block.new.self in
    let done : adjusted_body i (room_for c.args.records.now c.args.operands.now) ≡ goes (state_of b) =
    from_nothing _ b _ c.requires.block (ap (λ es. record none_yet { records = nodes es (items c.args.operands.now) }) c.requires.empty.0) c.in_ok-adjust_block.ensures in
    search rules
