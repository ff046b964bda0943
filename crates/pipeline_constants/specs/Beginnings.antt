-- The finished tables before a walk, and after it.
use Rattle.std.specs.Prelude.{◌≡◌, ◌≤◌, [], length, true, false, Ok, Err, Result, vec_items}
use Rattle.arena.specs.Items.{items, limit}
use Rattle.refusals.specs.declared.Refusal.{Refusal}
use Rattle.ir.specs.declared.tables.Source.{Source}
use Rattle.ir.specs.declared.tables.Sizes.{Sizes}
use Rattle.ir.specs.Tables.{sizes_of}
use Rattle.walking.specs.States.{State}
use Rattle.pipeline_constants.specs.declared.finished.Finished.{Finished}
use Rattle.pipeline_constants.specs.Contents.{new_constants, numbers, all_taken, variables_mapped}
use Rattle.pipeline_constants.specs.Sizings.{sizing}
use Rattle.pipeline_constants.specs.Lookups.{SizedAs}
use Rattle.pipeline_constants.specs.Views.{written_of, places_of, content_of, limits_of}

-- there is room for copies of a module's constants, overrides and variables
pub record Fits (m : Source) (f : Finished) : Type 0 where
  pub constants : length (vec_items m.constants) ≤ limit f.constants
  pub overrides : length (vec_items m.overrides) ≤ limit f.overrides
  pub variables : length (vec_items m.variables) ≤ limit f.variables

-- b takes as much as a
abbrev pub SameRoom : Finished → Finished → Type 0
SameRoom a b = limits_of b ≡ limits_of a

-- what a walk has written
abbrev pub walk_of : Finished → State
walk_of f = (content_of f).walk

-- a walk can begin: no constant is mapped, and overrides and variables are as they come
pub record Begun (m : Source) (a b : Finished) : Type 0 where
  pub constants : items b.constants ≡ new_constants false (vec_items m.constants)
  pub overrides : items b.overrides ≡ vec_items m.overrides
  pub variables : items b.variables ≡ vec_items m.variables
  pub room : SameRoom a b

-- what a walk writes stays as it is
pub record SameWalk (a b : Finished) : Type 0 where
  pub entries : b.entries ≡ a.entries
  pub operands : b.operands ≡ a.operands
  pub constants : b.constants ≡ a.constants
  pub images : b.images ≡ a.images
  pub settled : b.settled ≡ a.settled
  pub kinds : b.kinds ≡ a.kinds

-- The variables have their inits' images and the sizes their numbers, after a walk that went to its end; after another all stays.
abbrev pub Sized : Source → Sizes → Finished → Finished → Result (Unit {0}) Refusal → Result Sizes Refusal → Type 0
Sized m z a b (Ok _) r =
    (items b.variables ≡ variables_mapped (written_of a.images) (vec_items m.variables)) × SizedAs (sizing (walk_of a) 0 (sizes_of z)) r
Sized m z a b (Err e) r = (b.variables ≡ a.variables) × (r ≡ Err e)

-- a became b, once a walk has ended
pub record Closed (m : Source) (z : Sizes) (a b : Finished) (e : Result (Unit {0}) Refusal) (r : Result Sizes Refusal) : Type 0 where
  pub overrides : items b.overrides ≡ all_taken (walk_of a) (vec_items m.overrides)
  pub sized : Sized m z a b e r
  pub walk : SameWalk a b
  pub room : SameRoom a b

-- ---- a module without overrides

-- there is room for copies of all tables, and each handle is a number
pub record FitsAll (m : Source) (f : Finished) : Type 0 where
  pub entries : length (vec_items m.entries) ≤ limit f.entries
  pub operands : length (vec_items m.operands) ≤ limit f.operands
  pub constants : length (vec_items m.constants) ≤ limit f.constants
  pub variables : length (vec_items m.variables) ≤ limit f.variables
  pub images : length (vec_items m.entries) ≤ places_of f.images
  pub numbers : length (vec_items m.entries) ≤ 4294967295

-- the tables as they come, each handle its own image
pub record Copied (m : Source) (a b : Finished) : Type 0 where
  pub entries : items b.entries ≡ vec_items m.entries
  pub operands : items b.operands ≡ vec_items m.operands
  pub constants : items b.constants ≡ new_constants true (vec_items m.constants)
  pub overrides : items b.overrides ≡ []
  pub variables : items b.variables ≡ vec_items m.variables
  pub images : written_of b.images ≡ numbers 0 (length (vec_items m.entries))
  pub settled : written_of b.settled ≡ []
  pub kinds : items b.kinds ≡ []
  pub room : SameRoom a b
