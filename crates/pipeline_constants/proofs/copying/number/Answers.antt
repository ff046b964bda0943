use Rattle.std.proofs.Common.{rules, ◌<◌, length}
use Rattle.pipeline_constants.proofs.Numbers.{write_next}
use Rattle.pipeline_constants.proofs.copying.number.Goals as goal

pub loop-handle-preserved : goal.loop-handle-preserved
loop-handle-preserved c =
    let inside : c.loop-handle.handle < length c.loop-handle.values = search rules in (
      write_next c.loop-handle.values c.loop-handle.handle inside c.loop-handle.invariant.0,
      search rules,
    )
