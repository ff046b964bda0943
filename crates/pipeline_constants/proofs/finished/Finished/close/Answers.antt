use Rattle.std.proofs.Common.{rules, ◌≡◌, Ok}
use Rattle.pipeline_constants.proofs.Closings.{closed}
use Rattle.pipeline_constants.proofs.finished.Finished.close.Goals as goal

pub returns : goal.returns
returns c =
    let t = c.take.ensures in
    let v = c.map_variables.ensures in
    let ok : c.args.ended ≡ Ok c.in_ok-ended.field-0 = search rules in
    closed c.args.source.now c.args.sizes.now c.args.self.now c.take.new.self c.map_variables.new.self c.args.ended c.in_ok-ended.field-0 c.sizes.result ok
    t.overrides t.walk t.room v.overrides v.variables v.walk v.room c.sizes.ensures
