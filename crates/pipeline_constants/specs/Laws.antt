-- What settling a module gives: by the rules, and for the trees.
use Rattle.std.specs.Prelude.{◌≡◌, ℕ, ◌⊎◌, List, [], ◌∷◌, length, Some, None, Ok, Err, Result, vec_items}
use Rattle.arena.specs.Items.{items}
use Rattle.arena.specs.Tiles.{Tiled}
use Rattle.settings.specs.Layout.{Given, Encodes, Distinct}
use Rattle.refusals.specs.declared.Refusal.{Refusal}
use Rattle.refusals.specs.Codes.{code_of}
use Rattle.ir.specs.declared.tables.Override.{Override}
use Rattle.ir.specs.Tables.{Global, sizes_of}
use Rattle.evaluator.specs.Verdicts.{Meaning}
use Rattle.walking.specs.declared.overrides.Valued.{Valued}
use Rattle.walking.specs.Laws.{KeepsTrees}
use Rattle.walking.specs.Accepted.{old_of_global}
use Rattle.overrides.specs.Settling.{SettlingFaults, FirstFault}
use Rattle.overrides.specs.Values.{ValuedFor}
use Rattle.pipeline_constants.specs.declared.module.Module.{Module}
use Rattle.pipeline_constants.specs.declared.settled.Settled.{Settled}
use Rattle.pipeline_constants.specs.declared.settled.Refused.{Refused}
use Rattle.pipeline_constants.specs.Contents.{no_content}
use Rattle.pipeline_constants.specs.Settlings.{settling, full_at_first}
use Rattle.pipeline_constants.specs.Endings.{Came}
use Rattle.pipeline_constants.specs.Carried.{Carries}
use Rattle.pipeline_constants.specs.Rows.{RowOf}
use Rattle.pipeline_constants.specs.Views.{content_of, counts, room_of, tables_of}

-- no refusal applies to the file and the module before a settling begins
abbrev pub Clean : List ℕ → Global → Type 0
Clean file m = (r : Refusal) → SettlingFaults file m r → ⊥

-- What the file gives to the module's overrides: it encodes settings with no key twice, and these are the overrides' values.
pub record GivenBy (file : List ℕ) (m : Global) (g : Given) (os : List Valued) : Type 0 where
  pub encodes : Encodes file g
  pub distinct : Distinct g.keys
  pub values : ValuedFor g m.names m.overrides os

-- the tables as they came stay, and so does the room
pub record Stays (a b : Module) : Type 0 where
  pub source : b.source ≡ a.source
  pub room : room_of b ≡ room_of a

-- The runs of the finished entries: those of the module, where it has no overrides; else they tile the finished operand list. In which
-- order they lie, and where an empty one does, is left open: it is the one freedom.
abbrev pub RunsBy : List Override → Module → Module → Type 0
RunsBy [] a b = (items b.finished.entries ≡ vec_items a.source.entries) × (items b.finished.operands ≡ vec_items a.source.operands)
RunsBy (o ∷ os) a b = Tiled (items b.finished.entries) (length (items b.finished.operands))

-- the runs of a module's finished entries
abbrev pub Runs : Module → Module → Type 0
Runs a b = RunsBy (vec_items a.source.overrides) a b

-- The rules settle module a with these values, and all that is finished and the sizes are theirs.
-- The tree of each handle's image over the finished tables is the handle's own tree over the module's, overrides read at these values;
-- and so it is with the inits of variables and overrides, and with the sizes.
pub record SettledAs (f : Meaning) (a : Module) (os : List Valued) (s : Settled) : Type 0 where
  pub rules : Came (settling f (room_of a) (tables_of a) os) (content_of s.module.finished) (Ok s.module.sizes)
  pub trees : KeepsTrees (old_of_global (tables_of a) os) (content_of s.module.finished).walk
  pub carries : Carries (old_of_global (tables_of a) os) (tables_of a) (content_of s.module.finished) (sizes_of s.module.sizes)
  pub runs : Runs a s.module
  pub values : items s.module.values ≡ os
  pub stays : Stays a s.module

-- nothing at all was written
pub record Untouched (a : Module) (e : Refused) : Type 0 where
  pub module_as_it_was : e.module ≡ a
  pub written : e.written ≡ counts no_content

-- The rules refuse module a in the walk or at the sizes, and what was written by then is theirs: the variables have their old inits if
-- the walk stopped, and their images' if a size is refused. The refusal means what its row says.
pub record StoppedAs (f : Meaning) (a : Module) (os : List Valued) (e : Refused) : Type 0 where
  pub rules : Came (settling f (room_of a) (tables_of a) os) (content_of e.module.finished) (Err e.refusal)
  pub row : RowOf f (room_of a) (tables_of a) os (content_of e.module.finished).walk e.refusal
  pub written : e.written ≡ counts (content_of e.module.finished)
  pub runs : Runs a e.module
  pub sizes : e.module.sizes ≡ a.sizes
  pub stays : Stays a e.module

-- what is given at these values
abbrev pub Answered : Meaning → Module → List Valued → Result Settled Refused → Type 0
Answered f a os (Ok s) = SettledAs f a os s
Answered f a os (Err e) = StoppedAs f a os e

-- The file and the module are accepted, and there is room for what a settling begins with: the rules decide, at the values of the file.
-- There is one list of such values.
pub record Decided (f : Meaning) (file : List ℕ) (a : Module) (r : Result Settled Refused) : Type 0 where
  pub clean : Clean file (tables_of a)
  pub room : full_at_first (room_of a) (tables_of a) ≡ None
  pub given : Given
  pub values : List Valued
  pub by_file : GivenBy file (tables_of a) given values
  pub answer : Answered f a values r

-- Refused with 17, of the first table that has no room for what a settling begins with; nothing is written.
pub record Crowded (file : List ℕ) (a : Module) (e : Refused) : Type 0 where
  pub clean : Clean file (tables_of a)
  pub table : ℕ
  pub full : full_at_first (room_of a) (tables_of a) ≡ Some table
  pub refusal : code_of e.refusal ≡ (17, table ∷ [])
  pub untouched : Untouched a e

-- Refused with the first refusal that applies to the file and the module; nothing is written.
pub record Rejected (file : List ℕ) (a : Module) (e : Refused) : Type 0 where
  pub fault : FirstFault file (tables_of a) e.refusal
  pub untouched : Untouched a e

-- refused before a settling begins
abbrev pub RefusedAtFirst : List ℕ → Module → Result Settled Refused → Type 0
RefusedAtFirst file a (Ok s) = ⊥
RefusedAtFirst file a (Err e) = Rejected file a e ⊎ Crowded file a e

-- What `settle` gives: the three exclude one another, and each leaves one answer.
abbrev pub Settles : Meaning → List ℕ → Module → Result Settled Refused → Type 0
Settles f file a r = RefusedAtFirst file a r ⊎ Decided f file a r
