-- What an expression stands for, whatever handles it goes by: its tree.
use Rattle.std.specs.Prelude.{ℕ, ◌+◌, ◌-◌, ◌*◌, ◌%◌, ◌^◌, Bool, cond, ◌&&◌, ◌||◌, List, [], ◌∷◌, ◌++◌, Some, None, Option, unwrap_or, option_map, ◌==◌, slice_index, slice_index_or}
use Rattle.std.specs.List.{slice_get}
use Rattle.arena.specs.Nodes.{Node}
use Rattle.operands.specs.Faults.{absent}
use Rattle.ir.specs.Faults.{literal, constant, overriding}

mutual
  -- a literal, by its type and its bits; or a kind with its words and the trees of its operands
  pub data Tree : Type 0 where
    leaf : ℕ → ℕ → Tree
    node : ℕ → List ℕ → Trees → Tree

  -- the trees of operands in order, each there or absent
  pub data Trees : Type 0 where
    none : Trees
    gap : Trees → Trees
    arg : Tree → Trees → Trees

-- ---- what operators give

-- The result of operator 0 (Add), 1 (Subtract) or 2 (Multiply), modulo 2 ^ 32; no other operator has one.
unfoldable pub operated : ℕ → ℕ → ℕ → Option ℕ
operated op a b =
    cond (op == 0) (Some ((a + b) % 2 ^ 32))
    (cond (op == 1) (Some ((a + (2 ^ 32 - b % 2 ^ 32)) % 2 ^ 32))
    (cond (op == 2) (Some ((a * b) % 2 ^ 32)) None))

-- the types whose operators are worked out: I32 and U32
abbrev pub has_operators : ℕ → Bool
has_operators type = type == 3 || type == 4

-- an operator on two values of one such type
unfoldable pub combined : ℕ → (t a u b : ℕ) → Option Tree
combined op t a u b = cond (t == u && has_operators t) (option_map (leaf t) (operated op a b)) None

abbrev pub binary_of : ℕ → Trees → Option Tree
binary_of op (arg (leaf t a) (arg (leaf u b) none)) = combined op t a u b
binary_of op _ = None

-- 10 is Binary, whose word 0 is the operator
abbrev pub binary : ℕ
binary = 10

-- what is worked out of an expression whose operands have these trees, if anything is
unfoldable pub worked_out : ℕ → List ℕ → Trees → Option Tree
worked_out kind words ts = cond (kind == binary) (binary_of (slice_index words 0) ts) None

-- ---- trees of entries

-- what is read where no tree stands
abbrev pub blank : Tree
blank = leaf 0 0

abbrev pub tree_at : List Tree → ℕ → Tree
tree_at ts h = slice_index_or ts h blank

-- the tree at a handle that may be missing
abbrev pub tree_if : List Tree → Option ℕ → Tree
tree_if ts None = blank
tree_if ts (Some h) = tree_at ts h

abbrev pub args_of : (ℕ → Tree) → List ℕ → Trees
args_of look [] = none
args_of look (h ∷ hs) = cond (h == absent) (gap (args_of look hs)) (arg (look h) (args_of look hs))

-- How a table reads what its entries name: the trees of operands, of constants by number and of overrides by number.
pub record Reading : Type 0 where
  pub operand : ℕ → Tree
  pub constant_at : ℕ → Tree
  pub override_at : ℕ → Tree

-- the tree of an expression of no other kind: what is worked out of it, or else itself
abbrev pub plain : ℕ → List ℕ → Trees → Tree
plain kind words ts = unwrap_or (worked_out kind words ts) (node kind words ts)

abbrev pub word : Node → ℕ → ℕ
word n i = slice_index n.words i

-- the bits of a literal, whose words 1 and 2 are their low and their high half
abbrev pub bits_by : List ℕ → ℕ
bits_by words = slice_index words 1 + 4294967296 * slice_index words 2

-- A Literal is a leaf, a Constant has the tree of its init and an Override that of its value or init.
unfoldable pub tree_of : Reading → Node → Tree
tree_of r e =
    cond (e.kind == literal) (leaf (word e 0) (bits_by e.words))
    (cond (e.kind == constant) (r.constant_at (word e 0))
    (cond (e.kind == overriding) (r.override_at (word e 0))
    (plain e.kind e.words (args_of r.operand e.operands))))

-- The trees of a table, from the first entry on: each is read from those below it.
abbrev pub grown : (List Tree → Reading) → List Tree → List Node → List Tree
grown reading ts [] = ts
grown reading ts (e ∷ es) = grown reading (ts ++ tree_of (reading ts) e ∷ []) es

-- What overrides stand for: the value given, as a leaf, or else the init.
pub record Overrides : Type 0 where
  pub given : ℕ → Option Tree
  pub init : ℕ → Option ℕ

-- finished tables read no override
abbrev pub unread : Overrides
unread = record { given = λ _. None; init = λ _. None }

-- constants and overrides read through their inits, which stand in the table of these trees
abbrev pub reading_over : List Tree → List ℕ → Overrides → List Tree → Reading
reading_over globals inits o ts =
    record {
      operand = tree_at ts;
      constant_at = λ c. tree_if globals (slice_get inits c);
      override_at = λ p. unwrap_or (o.given p) (tree_if globals (o.init p));
    }

-- A module's entries: an init is an entry of the same table.
abbrev pub global_trees : List ℕ → Overrides → List Node → List Tree
global_trees inits o = grown (λ ts. reading_over ts inits o ts) []

-- A body's entries: an init is a global entry.
abbrev pub body_trees : List Tree → List ℕ → Overrides → List Node → List Tree
body_trees globals inits o = grown (reading_over globals inits o) []
