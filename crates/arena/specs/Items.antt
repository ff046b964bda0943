-- What a `Table` holds, and what is written into it.
use Rattle.std.specs.Prelude.{◌≡◌, ℕ, ◌+◌, ◌<◌, ◌≤◌, Bool, true, false, List, ◌++◌, length, Ok, Err, vec_items, vec_capacity, Result, slice_set}
use Rattle.arena.specs.declared.table.Table.{Table}
use Rattle.arena.specs.declared.table.NoRoom.{NoRoom}

module _ {T : Type 0} where
  -- the items, in order
  abbrev pub items : Table T → List T
  items t = vec_items t.items

  -- how many it may hold
  abbrev pub limit : Table T → ℕ
  limit t = t.limit

  -- how many it has memory for
  abbrev pub memory : Table T → ℕ
  memory t = vec_capacity t.items

  -- t became u with the limit and the memory that it had
  abbrev pub Stays : Table T → Table T → Type 0
  Stays t u = (limit u ≡ limit t) × (memory u ≡ memory t)

  -- all of xs came after the items of t, which made it u; or they did not fit, and nothing changed
  abbrev pub Pushed : List T → Table T → Table T → Result (Unit {0}) NoRoom → Type 0
  Pushed xs t u (Ok _) = (length (items t) + length xs ≤ limit t) × (items u ≡ items t ++ xs)
  Pushed xs t u (Err _) = (limit t < length (items t) + length xs) × (u ≡ t)

  -- x took the place of the item at k, which made t into u; or there was no item, and nothing changed
  abbrev pub Written : ℕ → T → Table T → Table T → Bool → Type 0
  Written k x t u true = (k < length (items t)) × (items u ≡ slice_set (items t) k x)
  Written k x t u false = (length (items t) ≤ k) × (u ≡ t)
