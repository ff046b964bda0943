-- What a settled module is, for as long as it stays one.
use Rattle.arena.specs.Items.{items}
use Rattle.ir.specs.declared.tables.Sizes.{Sizes}
use Rattle.ir.specs.Tables.{global}
use Rattle.walking.specs.Laws.{KeepsTrees}
use Rattle.walking.specs.Accepted.{Accepted, ValuesOf, old_of_global}
use Rattle.pipeline_constants.specs.declared.module.Module.{Module}
use Rattle.pipeline_constants.specs.Views.{content_of}

-- Its tables are accepted, with the sizes that it was settled from; it knows the values of its overrides, and at these values what is
-- finished keeps the trees.
pub record Stands (m : Module) : Type 0 where
  pub sizes : Sizes
  pub accepted : Accepted (global m.source sizes)
  pub values : ValuesOf (global m.source sizes) (items m.values)
  pub trees : KeepsTrees (old_of_global (global m.source sizes) (items m.values)) (content_of m.finished).walk
