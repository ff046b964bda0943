use Rattle.std.proofs.Common.{◌≡◌, ◌+◌, ◌-◌, Err, suc, arith, rules}
use Rattle.blocks.specs.Blocks.{role_given_to}
use Rattle.blocks.specs.declared.Role.TheVariants.{Closing}
use Rattle.adjusting.specs.Places.{BlockTo, Passed, StmtTo, left_of}
use Rattle.adjusting.proofs.Nesting.{Somewhere, adjusted_on, block_deep, block_done, block_opened, block_starts, blocks_next, fewer_left, in_block_on, in_stmt_on, left_starts, left_stmt, not_so, so, somewhere, stmt_done, stmt_opened, stmt_starts, there}
use Rattle.adjusting.proofs.work.Work.+blocks.Goals as goal

-- ---- a block

pub adjust_block-adjust_record-requires : goal.adjust_block-adjust_record-requires
adjust_block-adjust_record-requires t c = there c.args.self.now (block_starts c.args.depth (left_of c.args.self.now) c.requires)

pub adjust_block-loop-self-init : goal.adjust_block-loop-self-init
adjust_block-loop-self-init t c =
    let w = c.args.self.now in
    let p = c.in_ok-adjust_record.ensures in
    record {
      adjusted = somewhere Passed w c.adjust_record.new.self _ p;
      left = block_opened c.args.depth (c.args.depth - 1) (left_of w) (left_of c.adjust_record.new.self) (block_deep c.args.depth (left_of w) c.requires) p.to;
    }

pub adjust_block-closes-requires : goal.adjust_block-closes-requires
adjust_block-closes-requires t c =
    let b = c.requires in
    there c.loop-self.self (left_starts (c.args.depth - 1) (left_of c.loop-self.self) b.rest (c.loop-self.invariant.left b.tree b.rest b.shaped b.is))

pub adjust_block-overflow_sub-depth : goal.adjust_block-overflow_sub-depth
adjust_block-overflow_sub-depth t c = let e = block_deep c.args.depth (left_of c.args.self.now) c.requires in omega arith

pub adjust_block-adjust_stmt-requires : goal.adjust_block-adjust_stmt-requires
adjust_block-adjust_stmt-requires t c =
    let b = c.requires in
    let left = c.loop-self.invariant.left b.tree b.rest b.shaped b.is in
    let s = left_starts (c.args.depth - 1) (left_of c.loop-self.self) b.rest left in
    let e = block_deep c.args.depth (left_of c.args.self.now) c.requires in (
      omega (arith, e, c.decreases),
      left_stmt (c.args.depth - 1) (left_of c.loop-self.self) b.rest left s.node s.rest s.is
          (not_so (role_given_to s.node ≡ Closing) (c.loop-self-test.ensures s.node s.rest s.is)),
    )

pub adjust_block-loop-self-smaller : goal.adjust_block-loop-self-smaller
adjust_block-loop-self-smaller t c =
    let b = c.requires in
    let left = c.loop-self.invariant.left b.tree b.rest b.shaped b.is in
    let s = left_starts (c.args.depth - 1) (left_of c.loop-self.self) b.rest left in
    let q = c.in_ok-adjust_stmt.ensures in fewer_left c.loop-self.self c.adjust_stmt.new.self s q.lenders q.further

pub adjust_block-loop-self-preserved : goal.adjust_block-loop-self-preserved
adjust_block-loop-self-preserved t c =
    let b = c.requires in
    let left = c.loop-self.invariant.left b.tree b.rest b.shaped b.is in
    let s = left_starts (c.args.depth - 1) (left_of c.loop-self.self) b.rest left in
    in_block_on c.args.depth c.args.self.now c.loop-self.self c.adjust_stmt.new.self c.loop-self.invariant s
    (not_so (role_given_to s.node ≡ Closing) (c.loop-self-test.ensures s.node s.rest s.is)) _ c.in_ok-adjust_stmt.ensures

pub adjust_block-returns-in_err-adjust_stmt : goal.adjust_block-returns-in_err-adjust_stmt
adjust_block-returns-in_err-adjust_stmt t c =
    let e = c.in_err-adjust_stmt.field-0.0 in
    let is : c.from_residual-in_err-adjust_stmt.result ≡ Err e = search rules in
    rw is
    (adjusted_on Somewhere (StmtTo (c.args.depth - 1)) (BlockTo c.args.depth) c.args.self.now c.loop-self.self c.adjust_stmt.new.self tt (Err e)
    c.loop-self.invariant.adjusted c.in_err-adjust_stmt.ensures tt)

pub adjust_block-adjust_record-requires-2 : goal.adjust_block-adjust_record-requires-2
adjust_block-adjust_record-requires-2 t c =
    let b = c.requires in
    there c.loop-self.self (left_starts (c.args.depth - 1) (left_of c.loop-self.self) b.rest (c.loop-self.invariant.left b.tree b.rest b.shaped b.is))

pub adjust_block-returns : goal.adjust_block-returns
adjust_block-returns t c =
    let b = c.requires in
    let left = c.loop-self.invariant.left b.tree b.rest b.shaped b.is in
    let s = left_starts (c.args.depth - 1) (left_of c.loop-self.self) b.rest left in
    block_done c.args.depth c.args.self.now c.loop-self.self c.adjust_record-2.new.self c.loop-self.invariant s
    (so (role_given_to s.node ≡ Closing) (c.loop-self-test.ensures s.node s.rest s.is)) c.adjust_record-2.result c.adjust_record-2.ensures

-- ---- a record with its blocks

pub adjust_stmt-blocks_due-count-requires : goal.adjust_stmt-blocks_due-count-requires
adjust_stmt-blocks_due-count-requires t c = there c.args.self.now (stmt_starts c.args.depth (left_of c.args.self.now) c.requires)

pub adjust_stmt-adjust_record-requires : goal.adjust_stmt-adjust_record-requires
adjust_stmt-adjust_record-requires t c = there c.args.self.now (stmt_starts c.args.depth (left_of c.args.self.now) c.requires)

pub adjust_stmt-loop-init : goal.adjust_stmt-loop-init
adjust_stmt-loop-init t c =
    let w = c.args.self.now in
    let p = c.in_ok-adjust_record.ensures in
    record {
      adjusted = somewhere Passed w c.adjust_record.new.self _ p;
      left = stmt_opened c.args.depth c.blocks_due-count.result _ (left_of w) (left_of c.adjust_record.new.self) (omega arith) c.blocks_due-count.ensures p.to;
    }

pub adjust_stmt-adjust_block-requires : goal.adjust_stmt-adjust_block-requires
adjust_stmt-adjust_block-requires t c =
    let b = c.requires in
    let left = c.loop.invariant.left b.tree b.rest b.shaped b.is in
    (omega (arith, c.decreases), blocks_next c.args.depth (c.blocks_due-count.result - c.loop.counter) (left_of c.loop.self) b.rest (omega arith) left)

pub adjust_stmt-returns-in_err-adjust_block : goal.adjust_stmt-returns-in_err-adjust_block
adjust_stmt-returns-in_err-adjust_block t c =
    let e = c.in_err-adjust_block.field-0.0 in
    let is : c.from_residual-in_err-adjust_block.result ≡ Err e = search rules in
    rw is
    (adjusted_on Somewhere (BlockTo c.args.depth) (StmtTo c.args.depth) c.args.self.now c.loop.self c.adjust_block.new.self tt (Err e)
    c.loop.invariant.adjusted c.in_err-adjust_block.ensures tt)

pub adjust_stmt-loop-preserved : goal.adjust_stmt-loop-preserved
adjust_stmt-loop-preserved t c =
    let k = c.blocks_due-count.result - c.loop.counter in
    let j = c.blocks_due-count.result - (c.loop.counter + 1) in
    let e : k ≡ suc j = omega arith in
    in_stmt_on c.args.depth j k c.args.self.now c.loop.self c.adjust_block.new.self e c.loop.invariant _ c.in_ok-adjust_block.ensures

pub adjust_stmt-returns : goal.adjust_stmt-returns
adjust_stmt-returns t c =
    let k = c.blocks_due-count.result - c.loop.counter in
    let e : k ≡ 0 = omega arith in stmt_done c.args.depth k c.args.self.now c.loop.self e c.loop.invariant
