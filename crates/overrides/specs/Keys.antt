-- Which key of a settings file an override of a module takes.
use Rattle.std.specs.Prelude.{◌≡◌, ℕ, List, Option}
use Rattle.std.specs.Option.{option_map}
use Rattle.arena.specs.declared.entry.Run.{Run}
use Rattle.arena.specs.Nodes.{cut}
use Rattle.settings.specs.First.{Least, Holds}
use Rattle.settings.specs.Layout.{Distinct}
use Rattle.settings.specs.Keys.{TakenBy, name_of}
use Rattle.settings.specs.Reading.{Only}
use Rattle.settings.specs.declared.naming.Identifier.{Identifier}
use Rattle.ir.specs.declared.tables.Override.{Override}

-- the bytes of a name, which lie in a run of the module's name bytes
abbrev pub name_in : List ℕ → Option Run → Option (List ℕ)
name_in names name = option_map (λ r. cut r names) name

-- an override is known by its id and by the bytes of its name
pub record Identified (names : List ℕ) (o : Override) (w : Identifier) : Type 0 where
  pub id : w.id ≡ o.id
  pub name : name_of w ≡ name_in names o.name

-- the override takes the key
abbrev pub TakesKey : List ℕ → Override → List ℕ → Type 0
TakesKey names o key = TakenBy o.id (name_in names o.name) key

-- some override takes the key
abbrev pub SomeTakes : List ℕ → List Override → List ℕ → Type 0
SomeTakes names os key = (j : ℕ) × Holds (λ o. TakesKey names o key) os j

-- no override takes the key at k
abbrev pub Untaken : List ℕ → List Override → List (List ℕ) → ℕ → Type 0
Untaken names os ks = Holds (λ key. SomeTakes names os key → ⊥) ks

-- the key that the override takes: the first that it could, and the only one where no key is repeated
pub record TakenKey (names : List ℕ) (ks : List (List ℕ)) (o : Override) (k : Option ℕ) : Type 0 where
  pub first : Least (Holds (TakesKey names o) ks) k
  pub only : Distinct ks → Only (Holds (TakesKey names o) ks) k
