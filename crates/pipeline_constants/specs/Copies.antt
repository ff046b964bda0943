-- Tables that are filled with copies.
use Rattle.std.specs.Prelude.{◌≡◌, List}
use Rattle.arena.specs.Items.{items, Stays}
use Rattle.arena.specs.declared.table.Table.{Table}

module _ {T : Type 0} where
  -- t became u, which holds xs and nothing else, in the same memory
  pub record Holds (xs : List T) (t u : Table T) : Type 0 where
    pub holds : items u ≡ xs
    pub stays : Stays t u
