-- What becomes of an override under a settings file, and what a report says of the file.
use Rattle.std.specs.Prelude.{◌≡◌, ℕ, ◌+◌, min, List, length, Some, None, Ok, Err, Option, Result}
use Rattle.std.specs.Float.Ieee as Ieee
use Rattle.rounding.specs.declared.scalars.Scalar.{Scalar}
use Rattle.rounding.specs.Conversion.{code_of, Becomes}
use Rattle.settings.specs.declared.naming.Identifier.{Identifier}
use Rattle.settings.specs.declared.file.Settings.{Settings}
use Rattle.settings.specs.First.{Least, Holds}
use Rattle.settings.specs.Layout.{Given, Encodes, Distinct}
use Rattle.settings.specs.Keys.{Takes}
use Rattle.settings.specs.Reading.{value_at, Read}
use Rattle.report.specs.declared.outcomes.Outcome.{Outcome}
use Rattle.report.specs.declared.outcomes.Outcome.TheVariants.{Made, Kept}
use Rattle.report.specs.declared.outcomes.Unresolved.{Unresolved}
use Rattle.report.specs.declared.outcomes.Unresolved.TheVariants.{Refused, MissingValue, NoIdentifier}
use Rattle.report.specs.declared.errors.ReportError.{ReportError}
use Rattle.report.specs.declared.errors.ReportError.TheVariants.{Settings as Unread, Text, Unwritten}
use Rattle.report.specs.declared.outcomes.Tally.{Tally}

-- the override takes the key at k, the first that it could, which has the value x
abbrev pub TakesValue : Given → Identifier → ℕ → Ieee.Float → Type 0
TakesValue g who k x = Least (Holds (Takes who) g.keys) (Some k) × (value_at g (Some k) ≡ Some x)

-- no value is given to the override
abbrev pub NoValue : Given → Identifier → Type 0
NoValue g who = (k : Option ℕ) × Least (Holds (Takes who) g.keys) k × (value_at g k ≡ None)

-- the override has neither id nor name
abbrev pub Nameless : Identifier → Type 0
Nameless who = (who.id ≡ None) × (who.name ≡ None)

-- An override with neither id nor name is refused with 7. The value of the key that it takes becomes a literal by the rule, or is refused by it.
-- With no value the init stays, and with no init either it is refused with 8.
abbrev pub Resolved : Given → Identifier → Scalar → Option ℕ → Result Outcome Unresolved → Type 0
Resolved g who scalar init (Ok (Made k x l)) = TakesValue g who k x × Becomes scalar x (Ok l)
Resolved g who scalar init (Ok (Kept i)) = NoValue g who × (init ≡ Some i) × (Nameless who → ⊥)
Resolved g who scalar init (Err (Refused k x e)) = TakesValue g who k x × Becomes scalar x (Err e)
Resolved g who scalar init (Err MissingValue) = NoValue g who × (init ≡ None) × (Nameless who → ⊥)
Resolved g who scalar init (Err NoIdentifier) = Nameless who

-- the numbers of the refusals
abbrev pub refusal_code : Unresolved → ℕ
refusal_code (Refused k x e) = code_of e
refusal_code MissingValue = 8
refusal_code NoIdentifier = 7

-- one more, up to the largest count
abbrev pub more : ℕ → ℕ
more n = min (n + 1) 18446744073709551615

abbrev pub counted : Tally → Result Outcome Unresolved → Tally
counted t (Ok (Made k x l)) = record { overrides = more t.overrides; literals = more t.literals; inits = t.inits; refused = t.refused; untaken = t.untaken }
counted t (Ok (Kept i)) = record { overrides = more t.overrides; literals = t.literals; inits = more t.inits; refused = t.refused; untaken = t.untaken }
counted t (Err e) = record { overrides = more t.overrides; literals = t.literals; inits = t.inits; refused = more t.refused; untaken = t.untaken }

-- the file holds settings with no key twice
abbrev pub Readable : List ℕ → Type 0
Readable bs = (s : Settings) × Read bs (Ok s)

-- A report is given only of a file that can be read. One that cannot is refused by its own number, and no other is refused so.
abbrev pub Told : {X : Type 0} → List ℕ → Result X ReportError → Type 0
Told bs (Ok x) = Readable bs
Told bs (Err (Unread e)) = Read bs (Err e)
Told bs (Err (Text e)) = Readable bs
Told bs (Err (Unwritten l e)) = ⊥

-- the bytes are the file of n settings with no key twice
abbrev pub Packs : List ℕ → ℕ → Type 0
Packs bs n = (g : Given) × Encodes bs g × Distinct g.keys × (length g.keys ≡ n)
