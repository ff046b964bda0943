-- A body: a flat list of records that is exactly one block.
use Rattle.std.specs.Prelude.{◌≡◌, ℕ, zero, suc, ◌+◌, ◌≤◌, cond, ◌⊎◌, List, [], ◌∷◌, ◌++◌, length, take, Some, None, Option, ◌==◌, slice_index}
use Rattle.std.specs.List.{slice_get}
use Rattle.places.specs.First.{Least, Holds}
use Rattle.kinds.specs.Kinds.{RecordRow, records, blocks_of}
use Rattle.arena.specs.Nodes.{Node}
use Rattle.blocks.specs.declared.Role.{Role}
use Rattle.blocks.specs.declared.Role.TheVariants.{Opening, Closing, Doing}

-- ---- what a record asks for

abbrev pub asked : Option RecordRow → ℕ → ℕ
asked None word = 0
asked (Some row) word = blocks_of row.after word

-- the blocks after a record, by its kind and its word 0; an unknown kind asks for none
unfoldable pub blocks_after_of : ℕ → ℕ → ℕ
blocks_after_of kind word = asked (slice_get records kind) word

-- 23 is Open, 24 is Close
abbrev pub role_by : ℕ → ℕ → Role
role_by kind word = cond (kind == 23) Opening (cond (kind == 24) Closing (Doing (blocks_after_of kind word)))

abbrev pub role_given_to : Node → Role
role_given_to n = role_by n.kind (slice_index n.words 0)

-- ---- blocks as trees

mutual
  -- an Open, its statements, a Close
  pub data Block : Type 0 where
    block : Node → Stmts → Node → Block

  pub data Stmts : Type 0 where
    end : Stmts
    also : Stmt → Stmts → Stmts

  -- a record and the blocks after it
  pub data Stmt : Type 0 where
    stmt : Node → Blocks → Stmt

  pub data Blocks : Type 0 where
    none : Blocks
    more : Block → Blocks → Blocks

-- the records of a block, in order
abbrev mutual
  pub flat : Block → List Node
  flat (block o ss c) = o ∷ (flat_stmts ss ++ (c ∷ []))

  pub flat_stmts : Stmts → List Node
  flat_stmts end = []
  flat_stmts (also s ss) = flat_stmt s ++ flat_stmts ss

  pub flat_stmt : Stmt → List Node
  flat_stmt (stmt n bs) = n ∷ flat_blocks bs

  pub flat_blocks : Blocks → List Node
  flat_blocks none = []
  flat_blocks (more b bs) = flat b ++ flat_blocks bs

abbrev pub how_many : Blocks → ℕ
how_many none = 0
how_many (more b bs) = suc (how_many bs)

-- Each block stands between an Open and a Close, and each record has the blocks it asks for; at most d blocks are nested.
abbrev mutual
  pub Shaped : Block → ℕ → Type 0
  Shaped (block o ss c) zero = ⊥
  Shaped (block o ss c) (suc d) = (role_given_to o ≡ Opening) × (role_given_to c ≡ Closing) × ShapedStmts ss d

  pub ShapedStmts : Stmts → ℕ → Type 0
  ShapedStmts end d = Unit {0}
  ShapedStmts (also s ss) d = ShapedStmt s d × ShapedStmts ss d

  pub ShapedStmt : Stmt → ℕ → Type 0
  ShapedStmt (stmt n bs) d = (role_given_to n ≡ Doing (how_many bs)) × ShapedBlocks bs d

  pub ShapedBlocks : Blocks → ℕ → Type 0
  ShapedBlocks none d = Unit {0}
  ShapedBlocks (more b bs) d = Shaped b d × ShapedBlocks bs d

-- the records are one block, at most d deep
pub record OneBlock (rs : List Node) (d : ℕ) : Type 0 where
  pub tree : Block
  pub shaped : Shaped tree d
  pub is : flat tree ≡ rs

-- ---- the first record at fault

-- some continuation makes the records one block, however deep
pub record Viable (rs : List Node) : Type 0 where
  pub rest : List Node
  pub depth : ℕ
  pub whole : OneBlock (rs ++ rest) depth

abbrev pub opens : Role → ℕ
opens Opening = 1
opens Closing = 0
opens (Doing n) = 0

abbrev pub closes : Role → ℕ
closes Opening = 0
closes Closing = 1
closes (Doing n) = 0

abbrev pub opened : List Node → ℕ
opened [] = 0
opened (n ∷ ns) = opens (role_given_to n) + opened ns

abbrev pub closed : List Node → ℕ
closed [] = 0
closed (n ∷ ns) = closes (role_given_to n) + closed ns

-- the record opens a block inside 64 that are open
abbrev pub TooDeep : List Node → ℕ → Node → Type 0
TooDeep rs k n = (role_given_to n ≡ Opening) × (64 + closed (take k rs) ≤ opened (take k rs))

-- after the record at k no continuation makes the records one block, or it opens a 65th block
abbrev pub Breaks : List Node → ℕ → Type 0
Breaks rs = Holds (λ k n. (Viable (take k rs ++ (n ∷ [])) → ⊥) ⊎ TooDeep rs k n) rs

-- the record at k is at fault; of records that end too soon, their count is
abbrev pub Fault : List Node → ℕ → Type 0
Fault rs k = Breaks rs k ⊎ ((k ≡ length rs) × ((d : ℕ) → OneBlock rs d → ⊥))

-- None exactly if the records are one block at most 64 deep, and then none is at fault; otherwise the first that is.
pub record Blocked (rs : List Node) (r : Option ℕ) : Type 0 where
  pub first : Least (Fault rs) r
  pub accepts : r ≡ None → OneBlock rs 64
  pub only : OneBlock rs 64 → r ≡ None
