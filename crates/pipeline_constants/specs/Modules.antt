-- A module when it is made.
use Rattle.std.specs.Prelude.{◌≡◌, [], length, vec_items}
use Rattle.arena.specs.Items.{items}
use Rattle.ir.specs.declared.tables.Source.{Source}
use Rattle.ir.specs.declared.tables.Sizes.{Sizes}
use Rattle.pipeline_constants.specs.declared.room.Room.{Room}
use Rattle.pipeline_constants.specs.declared.finished.Finished.{Finished}
use Rattle.pipeline_constants.specs.declared.module.Module.{Module}
use Rattle.pipeline_constants.specs.Contents.{no_content}
use Rattle.pipeline_constants.specs.Rooms.{within, limits_in}
use Rattle.pipeline_constants.specs.Views.{content_of, limits_of, room_of}

-- finished tables with nothing in them, and with this room
pub record Empty (r : Room) (f : Finished) : Type 0 where
  pub content : content_of f ≡ no_content
  pub operands : items f.operands ≡ []
  pub limits : limits_of f ≡ limits_in r

-- a module of these tables and sizes, that has written nothing, with the room that the caller allows
pub record New (s : Source) (z : Sizes) (r : Room) (m : Module) : Type 0 where
  pub source : m.source ≡ s
  pub sizes : m.sizes ≡ z
  pub content : content_of m.finished ≡ no_content
  pub operands : items m.finished.operands ≡ []
  pub room : room_of m ≡ limits_in (within r (length (vec_items s.variables)))
