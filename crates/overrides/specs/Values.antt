-- What a settings file gives to the overrides of a module.
use Rattle.std.specs.Prelude.{◌≡◌, ℕ, List, length, take, Some, None, Option}
use Rattle.std.specs.List.{slice_get}
use Rattle.std.specs.Float.Ieee as Ieee
use Rattle.rounding.specs.declared.scalars.Scalar.{Scalar}
use Rattle.rounding.specs.declared.literals.Literal.{Literal}
use Rattle.rounding.specs.Conversion.{Answer, Becomes}
use Rattle.settings.specs.Layout.{Given}
use Rattle.settings.specs.Reading.{value_at}
use Rattle.arena.specs.declared.table.Table.{Table}
use Rattle.arena.specs.Items.{items, limit}
use Rattle.ir.specs.declared.tables.Override.{Override}
use Rattle.walking.specs.declared.overrides.Valued.{Valued}
use Rattle.overrides.specs.Keys.{TakenKey}

-- what a value becomes for the scalar; no value becomes nothing
abbrev pub ConvertedIf : Scalar → Option Ieee.Float → Option (Answer Literal) → Type 0
ConvertedIf scalar None r = r ≡ None
ConvertedIf scalar (Some x) r = (a : Answer Literal) × (r ≡ Some a) × Becomes scalar x a

-- the value that is given to the override: the one beside the key that it takes
pub record GivenTo (g : Given) (names : List ℕ) (o : Override) (x : Option Ieee.Float) : Type 0 where
  pub key : Option ℕ
  pub taken : TakenKey names g.keys o key
  pub value : x ≡ value_at g key

-- the override with its value converted, and with its init
pub record ValuedAs (g : Given) (names : List ℕ) (o : Override) (v : Valued) : Type 0 where
  pub value : Option Ieee.Float
  pub given : GivenTo g names o value
  pub converted : ConvertedIf o.scalar value v.given
  pub init : v.init ≡ o.init

-- each override in order, with its own value
pub record ValuedFor (g : Given) (names : List ℕ) (os : List Override) (vs : List Valued) : Type 0 where
  pub every : length vs ≡ length os
  pub each : (p : ℕ) (o : Override) (v : Valued) → slice_get os p ≡ Some o → slice_get vs p ≡ Some v → ValuedAs g names o v

-- the table holds as many of the overrides, from the first, as it may
abbrev pub ValuedBy : Given → List ℕ → List Override → Table Valued → Table Valued → Type 0
ValuedBy g names os t u = ValuedFor g names (take (limit t) os) (items u)
