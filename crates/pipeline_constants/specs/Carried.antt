-- What a settled module carries besides the images of its handles: variables, overrides, sizes and constants.
use Rattle.std.specs.Prelude.{◌≡◌, ℕ, ◌<◌, ◌^◌, true, ◌⊎◌, List, [], ◌∷◌, length, Some, None, Option, unwrap_or}
use Rattle.std.specs.List.{slice_get}
use Rattle.ir.specs.declared.tables.Override.{Override}
use Rattle.ir.specs.declared.tables.Size.{Size}
use Rattle.ir.specs.Tables.{Global}
use Rattle.evaluator.specs.declared.tables.NewConstant.{NewConstant}
use Rattle.evaluator.specs.Trees.{Tree, leaf, tree_at, tree_if}
use Rattle.walking.specs.States.{State}
use Rattle.walking.specs.Laws.{Old, StandsFor, init_at, valued, old_trees}
use Rattle.pipeline_constants.specs.Contents.{Content, inits_in}
use Rattle.pipeline_constants.specs.Sizings.{i32, u32}

-- the tree of override p: the leaf of the value given to it, or else its init's tree
abbrev pub tree_of_override : Old → ℕ → Tree
tree_of_override o p = unwrap_or ((valued o.overrides).given p) (tree_if (old_trees o) (init_at o.overrides p))

-- An init became a finished entry that stands for what it was; where there was none there is none.
abbrev pub InitAs : Old → State → Option ℕ → Option ℕ → Type 0
InitAs o s None j = j ≡ None
InitAs o s (Some h) j = (i : ℕ) × (j ≡ Some i) × StandsFor s (tree_at (old_trees o) h) i

-- Override p is called as it was, and its init is a finished entry that stands for the override.
pub record OverrideAs (o : Old) (s : State) (p : ℕ) (a b : Override) : Type 0 where
  pub id : b.id ≡ a.id
  pub name : b.name ≡ a.name
  pub scalar : b.scalar ≡ a.scalar
  pub init : ℕ
  pub there : b.init ≡ Some init
  pub stands : StandsFor s (tree_of_override o p) init

-- the bits of a U32, or those of an I32 that is not negative
abbrev pub Counting : ℕ → ℕ → Type 0
Counting type bits = ((type ≡ u32) × (bits < 2 ^ 32)) ⊎ ((type ≡ i32) × (bits < 2 ^ 31))

-- The tree is the literal of n, which may be the size at this place: a workgroup's is above zero.
pub record Measures (tree : Tree) (at n : ℕ) : Type 0 where
  pub type : ℕ
  pub is : tree ≡ leaf type n
  pub counts : Counting type n
  pub above : at < 3 → 0 < n

-- a size with a handle is what the handle's tree says, and one without stays
abbrev pub SizeBy : Old → ℕ → Option ℕ → ℕ → ℕ → Type 0
SizeBy o at None was now = now ≡ was
SizeBy o at (Some h) was now = Measures (tree_at (old_trees o) h) at now

-- in a module without overrides each size is as it was; else it keeps its handle
abbrev pub SizeAs : List Override → Old → ℕ → Size → Size → Type 0
SizeAs [] o at a b = b ≡ a
SizeAs (p ∷ ps) o at a b = (b.handle ≡ a.handle) × SizeBy o at a.handle a.value b.value

-- Each variable's init stands for what it was; each override has an init that stands for its value, or for what its init was; each size
-- that has a handle is the number that the handle's tree is; and each finished constant is mapped, to a finished entry.
pub record Carries (o : Old) (m : Global) (c : Content) (zs : List Size) : Type 0 where
  pub every_variable : length c.variables ≡ length m.variables
  pub variables : (v : ℕ) (a b : Option ℕ) → slice_get m.variables v ≡ Some a → slice_get c.variables v ≡ Some b → InitAs o c.walk a b
  pub every_override : length c.overrides ≡ length m.overrides
  pub overrides : (p : ℕ) (a b : Override) → slice_get m.overrides p ≡ Some a → slice_get c.overrides p ≡ Some b → OverrideAs o c.walk p a b
  pub every_size : length zs ≡ length m.sizes
  pub sizes : (at : ℕ) (a b : Size) → slice_get m.sizes at ≡ Some a → slice_get zs at ≡ Some b → SizeAs m.overrides o at a b
  pub constants : (n : ℕ) (k : NewConstant) → slice_get (inits_in c.walk) n ≡ Some k → (k.mapped ≡ true) × (k.init < length c.walk.tables.entries)
