use Rattle.std.proofs.Common.{sym}
use Rattle.settings.proofs.Format.{length_pieces}
use Rattle.settings.proofs.file.Settings.len.Goals as goal

pub returns : goal.returns
returns c = sym (length_pieces c.args.self.now.keys.lengths.now c.args.self.now.keys.bytes.now)
