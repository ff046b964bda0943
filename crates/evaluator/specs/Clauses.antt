-- What every folder keeps, whatever it folds.
use Rattle.std.specs.Prelude.{◌≡◌, ℕ, ◌+◌, ◌<◌, true, false, ◌⊎◌, List, [], ◌++◌, map, length, All, Some, None, Option}
use Rattle.std.specs.List.{slice_get, ContainsAt as Has}
use Rattle.kinds.specs.Kinds.{Row, expressions, admitted}
use Rattle.arena.specs.Nodes.{Node}
use Rattle.operands.specs.Faults.{absent, needed}
use Rattle.blocks.specs.Sight.{pre_emit}
use Rattle.ir.specs.Faults.{literal, constant, overriding, malformed}
use Rattle.evaluator.specs.declared.tables.NewConstant.{NewConstant}
use Rattle.evaluator.specs.Trees.{Tree, Reading, word, tree_at, tree_of, unread, grown, global_trees, reading_over}
use Rattle.evaluator.specs.Tables.{Constants, Tables}
use Rattle.evaluator.specs.Verdicts.{Verdict, folds, declines, faults, Meaning}

-- ---- trees of the tables

abbrev pub inits_of : Constants → List ℕ
inits_of c = map (λ (k : NewConstant). k.init) c.list

abbrev pub reading_by : List ℕ → Option (List Node) → List Tree → Reading
reading_by inits None ts = reading_over ts inits unread ts
reading_by inits (Some gs) ts = reading_over (global_trees inits unread gs) inits unread ts

-- how entries are read with these constants
abbrev pub reading : Constants → List Tree → Reading
reading c = reading_by (inits_of c) c.globals

-- the trees of entries with these constants
abbrev pub trees : Constants → List Node → List Tree
trees c es = grown (reading c) [] es

-- the tree of an entry that would stand next
abbrev pub tree_next : Tables → Node → Tree
tree_next t e = tree_of (reading t.constants (trees t.constants t.entries)) e

-- ---- entries that are well formed

-- a known kind with the right number of operands, the needed ones there
pub record Shaped (e : Node) : Type 0 where
  pub row : Row
  pub known : slice_get expressions e.kind ≡ Some row
  pub count : admitted row (length e.operands) ≡ true
  pub there : (s : ℕ) → slice_get e.operands s ≡ Some absent → needed (Some row) (length e.operands) s ≡ false

-- an operand that is there lies below k
abbrev pub Below : ℕ → ℕ → Type 0
Below k h = (h ≡ absent) ⊎ (h < k)

-- how far the inits of constants may lie that an entry at k names
abbrev pub reach : Option (List Node) → ℕ → ℕ
reach None k = k
reach (Some gs) k = length gs

-- the constant is mapped, and its init lies below that
pub record Named (c : Constants) (k number : ℕ) : Type 0 where
  pub init : NewConstant
  pub there : slice_get c.list number ≡ Some init
  pub mapped : init.mapped ≡ true
  pub below : init.init < reach c.globals k

-- An entry that may stand at k.
pub record Stands (c : Constants) (k : ℕ) (e : Node) : Type 0 where
  pub shaped : Shaped e
  pub below : All (Below k) e.operands
  pub literal : e.kind ≡ literal → malformed (word e 0) (word e 1) (word e 2) ≡ false
  pub no_override : e.kind ≡ overriding → ⊥
  pub named : e.kind ≡ constant → Named c k (word e 0)

-- Every entry stands where it is, and has its kind.
pub record WellFormed (t : Tables) : Type 0 where
  pub stand : (k : ℕ) (e : Node) → slice_get t.entries k ≡ Some e → Stands t.constants k e
  pub even : length t.kinds ≡ length t.entries

-- ---- the clauses

-- the entry at h is there, and pre-emit
abbrev pub PreEmit : List Node → ℕ → Type 0
PreEmit es h = pre_emit (slice_get es h) ≡ true

-- Nothing is added and the answer is an earlier pre-emit entry, or the answer is the last added.
abbrev pub Place : List Node → List Node → ℕ → Type 0
Place es added answer = ((added ≡ []) × PreEmit es answer) ⊎ ((0 < length added) × (answer + 1 ≡ length es + length added))

-- an operand of an added entry: one of the asked entry's, or a pre-emit entry
abbrev pub From : List Node → Node → ℕ → Type 0
From es asked h = Has asked.operands h ⊎ PreEmit es h

-- What a folder that folds an entry may add and answer.
pub record Lawful (t : Tables) (asked : Node) (added : List Node) (answer : ℕ) : Type 0 where
  -- the answer stands for what was asked
  pub tree : tree_at (trees t.constants (t.entries ++ added)) answer ≡ tree_next t asked
  pub place : Place t.entries added answer
  -- all that is added before the answer is pre-emit
  pub others : (i : ℕ) → i + 1 < length added → PreEmit added i
  -- so is the answer to a pre-emit entry
  pub pre_emit_stays : pre_emit (Some asked) ≡ true → PreEmit (t.entries ++ added) answer
  -- what is added is well formed, and has the operands and the span of what was asked
  pub stand : (i : ℕ) (e : Node) → slice_get added i ≡ Some e → Stands t.constants (length t.entries + i) e
  pub operands : (i : ℕ) (e : Node) → slice_get added i ≡ Some e → All (From (t.entries ++ added) asked) e.operands
  pub span : (i : ℕ) (e : Node) → slice_get added i ≡ Some e → e.span ≡ asked.span

-- what a verdict owes
abbrev pub Keeps : Tables → Node → Verdict → Type 0
Keeps t e (folds added answer) = Lawful t e added answer
Keeps t e declines = Unit {0}
Keeps t e (faults layer code) = 0 < code

-- A folder keeps the clauses over well-formed tables, for an entry that may stand next.
abbrev pub Clauses : Meaning → Type 0
Clauses m = (t : Tables) (e : Node) → WellFormed t → Stands t.constants (length t.entries) e → Keeps t e (m t e)
