use Rattle.std.proofs.Common.{vec_items}
use Rattle.std.proofs.ByRecursion.{All-more}
use Rattle.settings.specs.Written.{Restored}
use Rattle.settings.proofs.Emit.{values_more, doubles_more}
use Rattle.settings.proofs.writing.push_values.Goals as goal

pub loop-setting-preserved : goal.loop-setting-preserved
loop-setting-preserved c =
    let ss = c.args.settings.now in let i = c.loop-setting.setting-index in let l = c.loop-setting-test.true in (
      values_more ss i _ l c.bits_of.result c.bits_of.ensures.bits (vec_items c.args.file.now) _ _ _ c.loop-setting.invariant.0
          c.in_ok-extend_from_slice.ensures.items c.to_le_bytes.ensures,
      doubles_more ss i _ l c.bits_of.result c.bits_of.ensures.bits c.loop-setting.invariant.1 c.bits_of.type_inv,
      All-more Restored ss i _ l c.loop-setting.invariant.2 c.bits_of.ensures.back,
    )
