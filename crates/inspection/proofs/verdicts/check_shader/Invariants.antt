use Rattle.std.proofs.Common.{take, vec_items}
use Rattle.inspection.specs.Verdicts.{JudgedBodies}
use Rattle.inspection.proofs.verdicts.check_shader.Given as goal

abbrev pub invariant-loop-body : goal.invariant-loop-body
invariant-loop-body l = JudgedBodies (take l.body-index (vec_items l.shader.bodies)) l.shader.source (vec_items l.bodies)
