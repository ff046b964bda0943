-- What every settling keeps: the trees.
use Rattle.std.specs.Prelude.{◌≡◌, ℕ, ◌<◌, ◌≤◌, true, false, List, map, length, All, Some, None, Ok, Err, Option, Result, option_and_then, unwrap_or, []}
use Rattle.std.specs.List.{slice_get}
use Rattle.arena.specs.Nodes.{Node}
use Rattle.rounding.specs.declared.literals.Literal.{Literal}
use Rattle.rounding.specs.declared.conversion.ConversionError.{ConversionError}
use Rattle.rounding.specs.Literals.{type_of, literal_bits_of}
use Rattle.ir.specs.Faults.{literal, constant, overriding, malformed}
use Rattle.evaluator.specs.declared.tables.NewConstant.{NewConstant}
use Rattle.evaluator.specs.Trees.{Tree, leaf, Overrides, unread, tree_at, tree_if, word, global_trees}
use Rattle.evaluator.specs.Clauses.{Clauses, Shaped, Below, inits_of}
use Rattle.evaluator.specs.Verdicts.{Meaning}
use Rattle.walking.specs.declared.overrides.Valued.{Valued}
use Rattle.walking.specs.States.{Room, State, goes}
use Rattle.walking.specs.Images.{map_rest}
use Rattle.walking.specs.Walks.{walk_all}

-- ---- tables that the checks let pass

-- What is read of a module: its entries, the inits of its constants, its overrides.
pub record Old : Type 0 where
  pub entries : List Node
  pub inits : List ℕ
  pub overrides : List Valued

-- An entry at h whose constants' inits lie below `reach`.
pub record Checked (o : Old) (h reach : ℕ) (e : Node) : Type 0 where
  pub shaped : Shaped e
  pub below : All (Below h) e.operands
  pub literal : e.kind ≡ literal → malformed (word e 0) (word e 1) (word e 2) ≡ false
  pub constant : e.kind ≡ constant → (i : ℕ) × (slice_get o.inits (word e 0) ≡ Some i) × (i < reach)
  -- an Override has a word 0, and it numbers one that is there
  pub override : e.kind ≡ overriding → word e 0 < length o.overrides

-- the value given to an override, if a literal holds it
abbrev pub literal_if : Option (Result Literal ConversionError) → Option Literal
literal_if (Some (Ok l)) = Some l
literal_if (Some (Err e)) = None
literal_if None = None

abbrev pub given_at : List Valued → ℕ → Option Literal
given_at os p = option_and_then (λ (v : Valued). literal_if v.given) (slice_get os p)

abbrev pub init_at : List Valued → ℕ → Option ℕ
init_at os p = option_and_then (λ (v : Valued). v.init) (slice_get os p)

-- A module whose entries are checked, whose inits are entries, and whose given literals hold the bits of their types.
pub record CheckedOld (o : Old) : Type 0 where
  pub entries : (h : ℕ) (e : Node) → slice_get o.entries h ≡ Some e → Checked o h h e
  pub inits : (c i : ℕ) → slice_get o.inits c ≡ Some i → i < length o.entries
  pub override_inits : (p i : ℕ) → init_at o.overrides p ≡ Some i → i < length o.entries
  pub given : (p : ℕ) (l : Literal) → given_at o.overrides p ≡ Some l → malformed (type_of l) (literal_bits_of l) 0 ≡ false

-- ---- trees before and after

abbrev pub leaf_of : Literal → Tree
leaf_of l = leaf (type_of l) (literal_bits_of l)

abbrev pub leaf_if : Option Literal → Option Tree
leaf_if None = None
leaf_if (Some l) = Some (leaf_of l)

-- overrides read at the values given to them
abbrev pub valued : List Valued → Overrides
valued os = record { given = λ p. leaf_if (given_at os p); init = init_at os }

abbrev pub old_trees : Old → List Tree
old_trees o = global_trees o.inits (valued o.overrides) o.entries

abbrev pub new_trees : State → List Tree
new_trees f = global_trees (inits_of f.tables.constants) unread f.tables.entries

-- an entry of the finished table that has this tree
abbrev pub StandsFor : State → Tree → ℕ → Type 0
StandsFor f tree h = (h < length f.tables.entries) × (tree_at (new_trees f) h ≡ tree)

-- a constant that is mapped, whose init has this tree
abbrev pub HoldsTree : State → Tree → ℕ → Type 0
HoldsTree f tree c =
    (k : NewConstant) × (slice_get f.tables.constants.list c ≡ Some k) × (k.mapped ≡ true) × StandsFor f tree k.init

-- Each handle's image has the handle's own tree; so has each constant's init, and each override's constant its value's or its init's
-- tree; and no finished entry is an Override.
pub record KeepsTrees (o : Old) (f : State) : Type 0 where
  pub every_handle : length f.images ≡ length o.entries
  pub images : (h i : ℕ) → slice_get f.images h ≡ Some i → StandsFor f (tree_at (old_trees o) h) i
  pub constants : (c i : ℕ) → slice_get o.inits c ≡ Some i → HoldsTree f (tree_at (old_trees o) i) c
  pub every_override : length f.settled ≡ length o.overrides
  pub overrides : (p c : ℕ) → slice_get f.settled p ≡ Some c →
      HoldsTree f (unwrap_or ((valued o.overrides).given p) (tree_if (old_trees o) (init_at o.overrides p))) c
  pub no_override : (k : ℕ) (e : Node) → slice_get f.tables.entries k ≡ Some e → e.kind ≡ overriding → ⊥

-- nothing is written yet, and no constant is mapped
abbrev pub start : Old → State
start o =
    record {
      tables = record {
        entries = [];
        kinds = [];
        constants = record { list = map (λ i. record { init = i; mapped = false }) o.inits; globals = None };
      };
      images = [];
      settled = [];
    }

-- A walk that goes to its end keeps the trees, whatever folder that keeps the clauses is asked. There is room for so few entries and
-- images that none is at the absent handle.
abbrev pub WalkKeepsTrees : Type 0
WalkKeepsTrees = (m : Meaning) (r : Room) (o : Old) (f : State) → Clauses m → CheckedOld o → r.tables.entries ≤ 4294967295 →
    r.images ≤ 4294967295 → walk_all m r o.overrides o.entries (start o) ≡ goes f → KeepsTrees o (map_rest f)
