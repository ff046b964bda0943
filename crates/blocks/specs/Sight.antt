-- Which handles a place in a body sees: pre-emit entries, and what was emitted or named as a result earlier in the same or an
-- enclosing block.
use Rattle.std.specs.Prelude.{◌≡◌, ℕ, Bool, true, false, cond, not, ◌⊎◌, List, [], ◌∷◌, ◌++◌, length, replicate, Some, None, filter, Option, ◌==◌}
use Rattle.std.specs.List.{slice_get, ContainsAt as Has, AllByRecursion}
use Rattle.kinds.specs.declared.Slot.{Slot}
use Rattle.kinds.specs.declared.Slot.TheVariants.{Needed}
use Rattle.kinds.specs.Kinds.{RecordRow, records, front_length_of, result_slot}
use Rattle.arena.specs.Nodes.{Node}
use Rattle.blocks.specs.Blocks.{Block, Stmts, Stmt, Blocks, block, end, also, stmt, none, more}
use Rattle.blocks.specs.Weave.{is_emit, emits}

-- ---- what a record uses, and what it names

-- the operands that are there: 4294967295 stands for no handle
abbrev pub present : List ℕ → List ℕ
present hs = filter (λ h. not (h == 4294967295)) hs

-- the slot of each of so many operands; those in front of the slots are needed, as a Call's arguments
abbrev pub slots_for : Option RecordRow → ℕ → List Slot
slots_for None n = []
slots_for (Some row) n = replicate (front_length_of row.slots n) Needed ++ row.slots.slots

-- the operands whose slot passes
abbrev pub picked : (Slot → Bool) → List Slot → List ℕ → List ℕ
picked test [] hs = []
picked test (s ∷ ss) [] = []
picked test (s ∷ ss) (h ∷ hs) = cond (test s) (h ∷ picked test ss hs) (picked test ss hs)

abbrev pub operands_that : (Slot → Bool) → Node → List ℕ
operands_that test n = present (picked test (slots_for (slice_get records n.kind) (length n.operands)) n.operands)

-- the operands that a record uses
unfoldable pub uses : Node → List ℕ
uses n = operands_that (λ s. not (result_slot s)) n

-- the handle that it names as its result, if it does
unfoldable pub results : Node → List ℕ
results n = operands_that result_slot n

-- ---- what is in sight

abbrev pub one_of : List ℕ → ℕ → Bool
one_of [] k = false
one_of (x ∷ xs) k = cond (k == x) true (one_of xs k)

-- what is in effect without being emitted: Literal, FunctionArgument, GlobalVariable, LocalVariable, Constant, Override, ZeroValue
abbrev pub is_pre_emit : ℕ → Bool
is_pre_emit = one_of (18 ∷ 19 ∷ 20 ∷ 21 ∷ 24 ∷ 25 ∷ 26 ∷ [])

abbrev pub pre_emit : Option Node → Bool
pre_emit None = false
pre_emit (Some e) = is_pre_emit e.kind

-- over the entries es, the handle h is in sight where the handles s were emitted or named
abbrev pub Sees : List Node → List ℕ → ℕ → Type 0
Sees es s h = (pre_emit (slice_get es h) ≡ true) ⊎ Has s h

abbrev pub operands_of : Option Node → List ℕ
operands_of None = []
operands_of (Some e) = present e.operands

-- each entry that an Emit names sees its operands, those emitted before it among them
abbrev pub EmitSees : List Node → List ℕ → List ℕ → Type 0
EmitSees es s [] = Unit {0}
EmitSees es s (h ∷ hs) = AllByRecursion (Sees es s) (operands_of (slice_get es h)) × EmitSees es (s ++ (h ∷ [])) hs

-- what a statement puts in sight for those after it in its block: nothing of the blocks inside it
abbrev pub brings : Stmt → List ℕ
brings (stmt n bs) = cond (is_emit n) (emits n) (results n)

abbrev pub brings_all : Stmts → List ℕ
brings_all end = []
brings_all (also st ss) = brings st ++ brings_all ss

abbrev pub brought : Block → List ℕ
brought (block o ss c) = brings_all ss

-- 4 is Loop
abbrev pub is_loop : Node → Bool
is_loop n = n.kind == 4

-- Every operand is in sight: each that a record uses, and each of an emitted entry. A block sees what stands before its record; a
-- Loop's second block also sees its first, and its break_if sees both.
abbrev mutual
  pub InSight : List Node → List ℕ → Block → Type 0
  InSight es s (block o ss c) = InSightStmts es s ss

  pub InSightStmts : List Node → List ℕ → Stmts → Type 0
  InSightStmts es s end = Unit {0}
  InSightStmts es s (also st ss) = InSightStmt es s st × InSightStmts es (s ++ brings st) ss

  pub InSightStmt : List Node → List ℕ → Stmt → Type 0
  InSightStmt es s (stmt n bs) =
      cond (is_emit n) (EmitSees es s (emits n)) (cond (is_loop n) (LoopSees es s (uses n) bs) (AllByRecursion (Sees es s) (uses n) × BlocksSee es s bs))

  pub BlocksSee : List Node → List ℕ → Blocks → Type 0
  BlocksSee es s none = Unit {0}
  BlocksSee es s (more b bs) = InSight es s b × BlocksSee es s bs

  pub LoopSees : List Node → List ℕ → List ℕ → Blocks → Type 0
  LoopSees es s break_if none = AllByRecursion (Sees es s) break_if
  LoopSees es s break_if (more b bs) = InSight es s b × LoopSees es (s ++ brought b) break_if bs
