-- What the tables of an accepted module and of an accepted body are, node by node.
use Rattle.std.specs.Prelude.{◌≡◌, ℕ, List, map, length, Some, false, option_and_then}
use Rattle.std.specs.List.{slice_get}
use Rattle.arena.specs.Nodes.{nodes}
use Rattle.rounding.specs.declared.literals.Literal.{Literal}
use Rattle.rounding.specs.Literals.{type_of, literal_bits_of}
use Rattle.refusals.specs.declared.Refusal.{Refusal}
use Rattle.ir.specs.declared.tables.Constant.{Constant}
use Rattle.ir.specs.declared.tables.Override.{Override}
use Rattle.ir.specs.Faults.{malformed}
use Rattle.ir.specs.Tables.{Global, Local}
use Rattle.ir.specs.Checks.{SourceFaults, BodyFaults}
use Rattle.walking.specs.declared.overrides.Valued.{Valued}
use Rattle.walking.specs.Laws.{Old, CheckedOld, given_at, init_at}
use Rattle.walking.specs.BodyLaws.{CheckedBody}

-- the overrides of a module with what was given to them
pub record ValuesOf (m : Global) (os : List Valued) : Type 0 where
  pub every : length os ≡ length m.overrides
  pub inits : (p : ℕ) → init_at os p ≡ option_and_then (λ (o : Override). o.init) (slice_get m.overrides p)
  pub given : (p : ℕ) (l : Literal) → given_at os p ≡ Some l → malformed (type_of l) (literal_bits_of l) 0 ≡ false

-- what a walk reads of a module
abbrev pub old_of_global : Global → List Valued → Old
old_of_global m os =
    record { entries = nodes m.entries m.operands; inits = map (λ (c : Constant). c.init) m.constants; overrides = os }

-- no refusal applies to the tables
abbrev pub Accepted : Global → Type 0
Accepted m = (r : Refusal) → SourceFaults m r → ⊥

abbrev pub AcceptedIsChecked : Type 0
AcceptedIsChecked = (m : Global) (os : List Valued) → Accepted m → ValuesOf m os → CheckedOld (old_of_global m os)

-- ---- a body

-- a body that names the constants and the overrides of this module
pub record BodyOf (m : Global) (b : Local) : Type 0 where
  pub constants : b.constants ≡ m.constants
  pub overrides : b.overrides ≡ length m.overrides

-- no refusal applies to the body's tables
abbrev pub AcceptedBody : Local → Type 0
AcceptedBody b = (r : Refusal) → BodyFaults b r → ⊥

-- Each node of the body is well formed; the init of a constant that it names is an entry of the module.
abbrev pub AcceptedBodyIsChecked : Type 0
AcceptedBodyIsChecked = (m : Global) (os : List Valued) (b : Local) → Accepted m → ValuesOf m os → BodyOf m b → AcceptedBody b →
    CheckedBody (old_of_global m os) (length m.entries) (nodes b.entries b.operands)
