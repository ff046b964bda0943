-- Settling, by its rules: what it writes, and where it is refused.
use Rattle.std.specs.Prelude.{ℕ, cond, List, [], ◌∷◌, length, Some, None, Option, nat_lt, false}
use Rattle.arena.specs.Nodes.{nodes}
use Rattle.ir.specs.declared.tables.Override.{Override}
use Rattle.ir.specs.declared.tables.Size.{Size}
use Rattle.ir.specs.Tables.{Global}
use Rattle.evaluator.specs.Verdicts.{Meaning}
use Rattle.walking.specs.declared.overrides.Valued.{Valued}
use Rattle.walking.specs.States.{Room as WalkRoom, Outcome, goes, stops}
use Rattle.walking.specs.Modules.{begun, walk_module}
use Rattle.pipeline_constants.specs.Contents.{Content, new_constants, copies, stopped, ended}
use Rattle.pipeline_constants.specs.Sizings.{Sizing, sized, unsized, sizing}

-- how many items each finished table takes
pub record Limits : Type 0 where
  pub walk : WalkRoom
  pub overrides : ℕ
  pub variables : ℕ

-- A settling is accepted, with what is finished and the sizes; or refused, with what was written by then, the number and its values.
pub data Answer : Type 0 where
  settles : Content → List Size → Answer
  refuses : Content → ℕ → List ℕ → Answer

-- a table with this number, where it takes fewer than so many
abbrev pub full_or : ℕ → ℕ → ℕ → Option ℕ → Option ℕ
full_or table limit count rest = cond (nat_lt limit count) (Some table) rest

-- the first table that has no room for its copy, in a module without overrides
abbrev pub full_for_copies : Limits → Global → Option ℕ
full_for_copies r m =
    full_or 0 r.walk.tables.entries (length m.entries)
    (full_or 1 r.walk.tables.operands (length m.operands)
    (full_or 2 r.walk.constants (length m.constants)
    (full_or 4 r.variables (length m.variables)
    (full_or 12 r.walk.images (length m.entries) None))))

-- and in one with overrides, where the walk writes the others
abbrev pub full_for_walk : Limits → Global → Option ℕ
full_for_walk r m =
    full_or 2 r.walk.constants (length m.constants)
    (full_or 3 r.overrides (length m.overrides)
    (full_or 4 r.variables (length m.variables) None))

-- the table, by whether there are overrides
abbrev pub full_by : List Override → Limits → Global → Option ℕ
full_by [] r m = full_for_copies r m
full_by (o ∷ os) r m = full_for_walk r m

-- the first table that has no room for what a settling begins with
abbrev pub full_at_first : Limits → Global → Option ℕ
full_at_first r m = full_by m.overrides r m

-- the sizes come last, all or none
abbrev pub sized_as : Content → Sizing → Answer
sized_as c (sized zs) = settles c zs
sized_as c (unsized code values) = refuses c code values

-- where the walk stopped that is the answer; else the sizes decide
abbrev pub after_walk : Global → Outcome → Answer
after_walk m (stops s code values) = refuses (stopped m s) code values
after_walk m (goes s) = sized_as (ended m s) (sizing s 0 m.sizes)

-- the walk over the entries with these values, from constants that are not mapped
abbrev pub walked : Meaning → Limits → Global → List Valued → Outcome
walked f r m os = walk_module f r.walk os (nodes m.entries m.operands) (begun (new_constants false m.constants))

-- with no overrides the tables are copied, and no size is altered
abbrev pub settled_by : List Override → Meaning → Limits → Global → List Valued → Answer
settled_by [] f r m os = settles (copies m) m.sizes
settled_by (p ∷ ps) f r m os = after_walk m (walked f r m os)

-- what settling a module gives whose overrides have these values, where there is room for what it begins with
abbrev pub settling : Meaning → Limits → Global → List Valued → Answer
settling f r m os = settled_by m.overrides f r m os
