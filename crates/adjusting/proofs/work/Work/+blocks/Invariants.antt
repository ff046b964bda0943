use Rattle.std.proofs.Common.{◌+◌, ◌-◌, ◌*◌, length}
use Rattle.adjusting.proofs.Nesting.{InBlock, InStmt}
use Rattle.adjusting.proofs.work.Work.+blocks.Given as goal

abbrev pub decreases-adjust_block : goal.decreases-adjust_block
decreases-adjust_block l = 2 * l.depth

abbrev pub decreases-adjust_stmt : goal.decreases-adjust_stmt
decreases-adjust_stmt l = 2 * l.depth + 1

abbrev pub invariant-adjust_block-loop-self : goal.invariant-adjust_block-loop-self
invariant-adjust_block-loop-self l = InBlock l.depth l.fn.self l.self

abbrev pub decreases-adjust_block-loop-self : goal.decreases-adjust_block-loop-self
decreases-adjust_block-loop-self l = length l.self.inputs.records.now - l.self.next

abbrev pub invariant-adjust_stmt-loop : goal.invariant-adjust_stmt-loop
invariant-adjust_stmt-loop l = InStmt l.depth (l.count - l.counter) l.fn.self l.self
