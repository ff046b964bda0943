-- What a walk can rely on, once a file and a module are accepted and the overrides have their values.
use Rattle.std.specs.Prelude.{◌≡◌, ℕ, List, None, Ok}
use Rattle.settings.specs.First.{Holds}
use Rattle.settings.specs.Layout.{Given, Valid}
use Rattle.settings.specs.declared.file.Settings.{Settings}
use Rattle.ir.specs.declared.tables.Override.{Override}
use Rattle.ir.specs.Tables.{Global}
use Rattle.walking.specs.declared.overrides.Valued.{Valued}
use Rattle.walking.specs.Accepted.{Accepted, ValuesOf}
use Rattle.overrides.specs.Settling.{CheckedSettling}
use Rattle.overrides.specs.Keys.{TakesKey}
use Rattle.overrides.specs.Values.{ValuedAs, ValuedFor}

-- the tables of an accepted module are accepted
abbrev pub SettlingAccepts : Type 0
SettlingAccepts = (file : List ℕ) (m : Global) (s : Settings) → CheckedSettling file m (Ok s) → Accepted m

-- the overrides with their values are what a walk over the module reads, and their literals hold the bits of their types
abbrev pub ValuedIsValues : Type 0
ValuedIsValues = (g : Given) (m : Global) (vs : List Valued) → ValuedFor g m.names m.overrides vs → ValuesOf m vs

-- settings give one list of values
abbrev pub ValuedOnce : Type 0
ValuedOnce = (g : Given) (names : List ℕ) (os : List Override) (vs ws : List Valued) → ValuedFor g names os vs → ValuedFor g names os ws → ws ≡ vs

-- of settings that a file can hold only an override that takes no key is without a value
abbrev pub NoneWithoutKey : Type 0
NoneWithoutKey = (g : Given) (names : List ℕ) (o : Override) (v : Valued) → Valid g → ValuedAs g names o v → v.given ≡ None → (k : ℕ) → Holds (TakesKey names o) g.keys k → ⊥
