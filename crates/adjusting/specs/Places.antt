-- The records from a place on: what the rules make of them, and where a block, or a record with its blocks, ends.
use Rattle.std.specs.Prelude.{◌≡◌, ◌<◌, ℕ, List, ◌∷◌, ◌++◌, drop, Ok, Err, Result, OnOk}
use Rattle.arena.specs.Nodes.{Node}
use Rattle.blocks.specs.Blocks.{Block, Stmt, flat, flat_stmt, Shaped, ShapedStmt}
use Rattle.refusals.specs.declared.Refusal.{Refusal}
use Rattle.adjusting.specs.declared.work.Work.{Work}
use Rattle.adjusting.specs.Rules.{Outcome, adjust_records}
use Rattle.adjusting.specs.Works.{Lenders, Went, records_of, entries_of, room_of, state_of}

-- ---- what is left

-- the records that are left
abbrev pub left_of : Work → List Node
left_of w = drop w.next (records_of w.inputs)

-- what the rules make of them
abbrev pub whole : Work → Outcome
whole w = adjust_records (room_of w) w.inputs.images.now (entries_of w.inputs) (left_of w) (state_of w)

-- what is left gives the whole; or the whole stops here
abbrev pub Onward : Work → Work → Result (Unit {0}) Refusal → Type 0
Onward a b (Ok _) = whole b ≡ whole a
Onward a b (Err e) = Went {A = Unit {0}} (whole a) (state_of b) (Err e)

-- From a to b, To being said of the records that were left and of those that are.
pub record Adjusted (To : List Node → List Node → Type 0) (a b : Work) (r : Result (Unit {0}) Refusal) : Type 0 where
  pub onward : Onward a b r
  pub to : OnOk r (To (left_of a) (left_of b))
  pub further : OnOk r (a.next < b.next)
  pub room : room_of b ≡ room_of a
  pub lenders : Lenders a b

-- ---- where something ends

-- one record
pub record Passed (ns rest : List Node) : Type 0 where
  pub node : Node
  pub is : ns ≡ node ∷ rest

-- a block begins these records, at most d deep
pub record BlockFrom (d : ℕ) (ns : List Node) : Type 0 where
  pub tree : Block
  pub rest : List Node
  pub shaped : Shaped tree d
  pub is : ns ≡ flat tree ++ rest

-- of any block that begins the records ns, the rest is what is left
abbrev pub BlockTo : ℕ → List Node → List Node → Type 0
BlockTo d ns left = (tree : Block) (rest : List Node) → Shaped tree d → ns ≡ flat tree ++ rest → left ≡ rest

-- a record with its blocks begins these records
pub record StmtFrom (d : ℕ) (ns : List Node) : Type 0 where
  pub tree : Stmt
  pub rest : List Node
  pub shaped : ShapedStmt tree d
  pub is : ns ≡ flat_stmt tree ++ rest

-- of any record with its blocks that begins the records ns, the rest is what is left
abbrev pub StmtTo : ℕ → List Node → List Node → Type 0
StmtTo d ns left = (tree : Stmt) (rest : List Node) → ShapedStmt tree d → ns ≡ flat_stmt tree ++ rest → left ≡ rest
