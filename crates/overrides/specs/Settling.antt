-- What is refused of a settings file and a module before a settling writes anything.
use Rattle.std.specs.Prelude.{◌≡◌, ℕ, ◌⊎◌, List, Ok, Err, Result}
use Rattle.settings.specs.Layout.{Given, Encodes, Repeats, Distinct}
use Rattle.settings.specs.Reading.{given, Unreadable}
use Rattle.settings.specs.declared.file.Settings.{Settings}
use Rattle.settings.specs.declared.error.SettingsError.{SettingsError}
use Rattle.settings.specs.declared.error.SettingsError.TheVariants as Errors
use Rattle.refusals.specs.declared.Refusal.{Refusal}
use Rattle.refusals.specs.declared.Refusal.TheVariants.{MalformedSettings, RepeatedKey, NotFound}
use Rattle.refusals.specs.Codes.{Earlier, FirstOf}
use Rattle.ir.specs.declared.tables.Override.{Override}
use Rattle.ir.specs.Tables.{Global}
use Rattle.ir.specs.Checks.{SourceFaults}
use Rattle.overrides.specs.Keys.{Untaken}

-- The refusals of a settings file: 1 where the bytes are no settings, 2 at a key that is equal to an earlier one, 6 at a key that no
-- override takes.
abbrev pub FileFaults : List ℕ → Global → Refusal → Type 0
FileFaults file m MalformedSettings = Unreadable file
FileFaults file m (RepeatedKey k) = (g : Given) × Encodes file g × Repeats g.keys k
FileFaults file m (NotFound k) = (g : Given) × Encodes file g × Untaken m.names m.overrides g.keys k
FileFaults file m _ = ⊥

-- the refusals that apply to a settling before it begins: those of the file, and those of the module's tables, 3, 4 and 7
abbrev pub SettlingFaults : List ℕ → Global → Refusal → Type 0
SettlingFaults file m r = FileFaults file m r ⊎ SourceFaults m r

-- no refusal applies, and these are the settings of the file
pub record Settleable (file : List ℕ) (m : Global) (s : Settings) : Type 0 where
  pub clean : (r : Refusal) → SettlingFaults file m r → ⊥
  pub encodes : Encodes file (given s)
  pub distinct : Distinct (given s).keys

-- the refusal applies, and none that comes before it does
pub record FirstFault (file : List ℕ) (m : Global) (e : Refusal) : Type 0 where
  pub applies : SettlingFaults file m e
  pub first : (r : Refusal) → Earlier r e → SettlingFaults file m r → ⊥

-- accepted with the settings exactly if no refusal applies, and refused with the first that does
abbrev pub CheckedSettling : List ℕ → Global → Result Settings Refusal → Type 0
CheckedSettling file m (Ok s) = Settleable file m s
CheckedSettling file m (Err e) = FirstFault file m e

-- ---- the steps of the check

-- what a settings file is refused with, among all refusals
abbrev pub refusal_of : SettingsError → Refusal
refusal_of Errors.Malformed = MalformedSettings
refusal_of (Errors.RepeatedKey k) = RepeatedKey k
refusal_of (Errors.NotFound k) = NotFound k

-- 6 at a key that no override takes
abbrev pub KeyFaults : List ℕ → List Override → List (List ℕ) → Refusal → Type 0
KeyFaults names os ks r = (k : ℕ) × (r ≡ NotFound k) × Untaken names os ks k

-- the first key that no override takes, if there is one
abbrev pub CheckedKeys : List ℕ → List Override → List (List ℕ) → Result (Unit {0}) Refusal → Type 0
CheckedKeys names os ks = FirstOf (KeyFaults names os ks)

-- the first refusal of the tables and of these keys: a 6 comes before a 7
abbrev pub CheckedTables : List (List ℕ) → Global → Result (Unit {0}) Refusal → Type 0
CheckedTables ks m = FirstOf (λ r. KeyFaults m.names m.overrides ks r ⊎ SourceFaults m r)
