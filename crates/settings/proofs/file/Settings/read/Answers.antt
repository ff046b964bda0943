use Rattle.std.proofs.Common.{rules}
use Rattle.settings.specs.Walks.{keys_left}
use Rattle.settings.proofs.Places.{walked}
use Rattle.settings.proofs.file.Settings.read.Goals as goal

pub returns-in-Some : goal.returns-in-Some
returns-in-Some c =
    let least = c.in-Some.ensures (keys_left c.in_ok-settings.settings.keys) (walked keys_left c.in_ok-settings.settings.keys) in
    search rules

pub returns-in-None : goal.returns-in-None
returns-in-None c =
    let least = c.in-None.ensures (keys_left c.in_ok-settings.settings.keys) (walked keys_left c.in_ok-settings.settings.keys) in
    search rules
