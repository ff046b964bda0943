use Rattle.settings.proofs.Emit.{short_fits}
use Rattle.settings.proofs.writing.push_lengths.Goals as goal

pub overflow_cast-setting : goal.overflow_cast-setting
overflow_cast-setting c = short_fits c.args.settings.now c.loop-setting.setting-index _ c.requires c.loop-setting-test.true
