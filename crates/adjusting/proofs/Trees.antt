-- The finished records of one block are one block.
use Rattle.std.proofs.Common.{◌≡◌, ◌==◌, ℕ, zero, suc, slice_index, Bool, true, false, cond, List, [], ◌∷◌, ◌++◌, map, sym, refl, ap, ◌∙◌, append-nil, arith}
use Rattle.std.specs.List.{flat_map}
use Rattle.std.proofs.lemmas.Bool.{eqb-true}
use Rattle.arena.specs.declared.range.Range.{Range}
use Rattle.arena.specs.Nodes.{Node}
use Rattle.blocks.specs.declared.Role.{Role}
use Rattle.blocks.specs.declared.Role.TheVariants.{Opening, Closing, Doing}
use Rattle.blocks.specs.Blocks.{blocks_after_of, role_given_to, Block, Stmts, Stmt, Blocks, block, end, also, stmt, none, more, flat, flat_stmts, flat_stmt, flat_blocks, how_many, Shaped, ShapedStmts, ShapedStmt, ShapedBlocks, OneBlock}
use Rattle.blocks.specs.Weave.{is_emit, emits}
use Rattle.adjusting.specs.Emits.{kept, stretches, emit_of, emits_of}
use Rattle.adjusting.specs.Rules.{adjusted, finished}
use Rattle.adjusting.proofs.Order.{flat_map_append}

-- records that no block follows, before others
abbrev pub before : List Node → Stmts → Stmts
before [] ss = ss
before (n ∷ ns) ss = also (stmt n none) (before ns ss)

-- the finished tree
abbrev mutual
  pub new_block : Block → List ℕ → List Node → Block
  new_block (block o ss c) images fs = block (adjusted images o) (new_stmts ss images fs) (adjusted images c)

  pub new_stmts : Stmts → List ℕ → List Node → Stmts
  new_stmts end images fs = end
  new_stmts (also s ss) images fs = new_stmt s images fs (new_stmts ss images fs)

  pub new_stmt : Stmt → List ℕ → List Node → Stmts → Stmts
  new_stmt (stmt n bs) images fs rest =
      cond (is_emit n) (before (emits_of images fs n) rest) (also (stmt (adjusted images n) (new_blocks bs images fs)) rest)

  pub new_blocks : Blocks → List ℕ → List Node → Blocks
  new_blocks none images fs = none
  new_blocks (more b bs) images fs = more (new_block b images fs) (new_blocks bs images fs)

-- ---- it is a tree of blocks

flat_before : (ns : List Node) (ss : Stmts) → flat_stmts (before ns ss) ≡ ns ++ flat_stmts ss
flat_before [] ss = refl
flat_before (n ∷ ns) ss = ap (λ (l : List Node). n ∷ l) (flat_before ns ss)

-- no block stands after an Emit
after_emit : (word : ℕ) → blocks_after_of 0 word ≡ 0
unfolding blocks_after_of
after_emit word = refl

emit_role : (n : Node) (r : Range) → role_given_to (emit_of n r) ≡ Doing 0
emit_role n r = ap Doing (after_emit r.first)

shaped_before : (n : Node) (rs : List Range) (ss : Stmts) (d : ℕ) → ShapedStmts ss d → ShapedStmts (before (map (emit_of n) rs) ss) d
shaped_before n [] ss d h = h
shaped_before n (r ∷ rs) ss d h = ((emit_role n r, tt), shaped_before n rs ss d h)

how_many_new : (bs : Blocks) (images : List ℕ) (fs : List Node) → how_many (new_blocks bs images fs) ≡ how_many bs
how_many_new none images fs = refl
how_many_new (more b bs) images fs = ap suc (how_many_new bs images fs)

shaped_either : (b : Bool) (n : Node) (bs : Blocks) (images : List ℕ) (fs : List Node) (d : ℕ) (rest : Stmts) → ShapedStmts rest d → ShapedStmt (stmt (adjusted images n) bs) d →
    ShapedStmts (cond b (before (emits_of images fs n) rest) (also (stmt (adjusted images n) bs) rest)) d
shaped_either true n bs images fs d rest r h = shaped_before n (stretches (kept images fs (emits n))) rest d r
shaped_either false n bs images fs d rest r h = (h, r)

mutual
  pub shaped_new : (b : Block) (images : List ℕ) (fs : List Node) (d : ℕ) → Shaped b d → Shaped (new_block b images fs) d
  shaped_new (block o ss c) images fs zero h = absurd h
  shaped_new (block o ss c) images fs (suc d) h = (h.0, h.1, shaped_new_stmts ss images fs d h.2)

  shaped_new_stmts : (ss : Stmts) (images : List ℕ) (fs : List Node) (d : ℕ) → ShapedStmts ss d → ShapedStmts (new_stmts ss images fs) d
  shaped_new_stmts end images fs d h = tt
  shaped_new_stmts (also s ss) images fs d h = shaped_new_stmt s images fs d h.0 (new_stmts ss images fs) (shaped_new_stmts ss images fs d h.1)

  shaped_new_stmt : (s : Stmt) (images : List ℕ) (fs : List Node) (d : ℕ) → ShapedStmt s d → (rest : Stmts) → ShapedStmts rest d → ShapedStmts (new_stmt s images fs rest) d
  shaped_new_stmt (stmt n bs) images fs d h rest r =
      shaped_either (is_emit n) n (new_blocks bs images fs) images fs d rest r
      (h.0 ∙ ap Doing (sym (how_many_new bs images fs)), shaped_new_blocks bs images fs d h.1)

  shaped_new_blocks : (bs : Blocks) (images : List ℕ) (fs : List Node) (d : ℕ) → ShapedBlocks bs d → ShapedBlocks (new_blocks bs images fs) d
  shaped_new_blocks none images fs d h = tt
  shaped_new_blocks (more b bs) images fs d h = (shaped_new b images fs d h.0, shaped_new_blocks bs images fs d h.1)

-- ---- and flat it is the finished list

no_blocks : (bs : Blocks) → how_many bs ≡ 0 → flat_blocks bs ≡ []
no_blocks none e = refl
no_blocks (more b bs) e = absurd (omega arith)

-- an Emit's role
emit_doing : (n : Node) → is_emit n ≡ true → role_given_to n ≡ Doing 0
emit_doing n e = go n.kind (eqb-true n.kind 0 e)
  where
    go : (k : ℕ) → k ≡ 0 → cond (k == 23) Opening (cond (k == 24) Closing (Doing (blocks_after_of k (slice_index n.words 0)))) ≡ Doing 0
    go k z = ap (λ (x : ℕ). cond (x == 23) Opening (cond (x == 24) Closing (Doing (blocks_after_of x (slice_index n.words 0))))) z ∙ ap Doing (after_emit (slice_index n.words 0))

doing_same : {k j : ℕ} → ◌≡◌ {A = Role} (Doing k) (Doing j) → k ≡ j
doing_same e = cc

-- what opens or closes is no Emit
not_emit : (n : Node) (r : Role) → role_given_to n ≡ r → (r ≡ Doing 0 → ⊥) → is_emit n ≡ false
not_emit n r e k = go (is_emit n) refl
  where
    go : (b : Bool) → is_emit n ≡ b → b ≡ false
    go true q = absurd (k (sym e ∙ emit_doing n q))
    go false q = refl

opening_is : (Opening ≡ Doing 0) → ⊥
opening_is e = let z : ◌≡◌ {A = ℕ} 0 1 = cc in omega arith

closing_is : (Closing ≡ Doing 0) → ⊥
closing_is e = let z : ◌≡◌ {A = ℕ} 0 1 = cc in omega arith

finished_other : (images : List ℕ) (fs : List Node) (n : Node) → is_emit n ≡ false → finished images fs n ≡ adjusted images n ∷ []
finished_other images fs n e = ap (λ (b : Bool). cond b (emits_of images fs n) (adjusted images n ∷ [])) e

flat_either : (b : Bool) (n : Node) (bs new : Blocks) (images : List ℕ) (fs : List Node) (rest : Stmts) → (b ≡ true → flat_blocks bs ≡ []) →
    flat_blocks new ≡ flat_map (finished images fs) (flat_blocks bs) →
    flat_stmts (cond b (before (emits_of images fs n) rest) (also (stmt (adjusted images n) new) rest))
    ≡ (cond b (emits_of images fs n) (adjusted images n ∷ []) ++ flat_map (finished images fs) (flat_blocks bs)) ++ flat_stmts rest
flat_either true n bs new images fs rest no_bs h =
    flat_before (emits_of images fs n) rest
    ∙ ap (λ (l : List Node). l ++ flat_stmts rest) (sym (append-nil (emits_of images fs n)) ∙ ap (λ (l : List Node). emits_of images fs n ++ flat_map (finished images fs) l) (sym (no_bs refl)))
flat_either false n bs new images fs rest no_bs h = ap (λ (l : List Node). adjusted images n ∷ (l ++ flat_stmts rest)) h

mutual
  pub flat_new : (b : Block) (images : List ℕ) (fs : List Node) (d : ℕ) → Shaped b d → flat (new_block b images fs) ≡ flat_map (finished images fs) (flat b)
  flat_new (block o ss c) images fs zero h = absurd h
  flat_new (block o ss c) images fs (suc d) h =
      let first = finished_other images fs o (not_emit o Opening h.0 opening_is) in
      let last = finished_other images fs c (not_emit c Closing h.1 closing_is) in
      let mid = flat_new_stmts ss images fs d h.2 in
      ap (λ (l : List Node). adjusted images o ∷ (l ++ adjusted images c ∷ [])) mid
      ∙ ap (λ (l : List Node). adjusted images o ∷ (flat_map (finished images fs) (flat_stmts ss) ++ l)) (sym (append-nil (adjusted images c ∷ [])))
      ∙ ap (λ (l : List Node). adjusted images o ∷ (flat_map (finished images fs) (flat_stmts ss) ++ (l ++ []))) (sym last)
      ∙ ap (λ (l : List Node). adjusted images o ∷ l) (sym (flat_map_append (finished images fs) (flat_stmts ss) (c ∷ [])))
      ∙ ap (λ (l : List Node). l ++ flat_map (finished images fs) (flat_stmts ss ++ c ∷ [])) (sym first)

  flat_new_stmts : (ss : Stmts) (images : List ℕ) (fs : List Node) (d : ℕ) → ShapedStmts ss d → flat_stmts (new_stmts ss images fs) ≡ flat_map (finished images fs) (flat_stmts ss)
  flat_new_stmts end images fs d h = refl
  flat_new_stmts (also s ss) images fs d h =
      flat_new_stmt s images fs d h.0 (new_stmts ss images fs)
      ∙ ap (λ (l : List Node). flat_map (finished images fs) (flat_stmt s) ++ l) (flat_new_stmts ss images fs d h.1)
      ∙ sym (flat_map_append (finished images fs) (flat_stmt s) (flat_stmts ss))

  flat_new_stmt : (s : Stmt) (images : List ℕ) (fs : List Node) (d : ℕ) → ShapedStmt s d → (rest : Stmts) →
      flat_stmts (new_stmt s images fs rest) ≡ flat_map (finished images fs) (flat_stmt s) ++ flat_stmts rest
  flat_new_stmt (stmt n bs) images fs d h rest =
      flat_either (is_emit n) n bs (new_blocks bs images fs) images fs rest
      (λ e. no_blocks bs (doing_same (sym h.0 ∙ emit_doing n e))) (flat_new_blocks bs images fs d h.1)

  flat_new_blocks : (bs : Blocks) (images : List ℕ) (fs : List Node) (d : ℕ) → ShapedBlocks bs d → flat_blocks (new_blocks bs images fs) ≡ flat_map (finished images fs) (flat_blocks bs)
  flat_new_blocks none images fs d h = refl
  flat_new_blocks (more b bs) images fs d h =
      ap (λ (l : List Node). l ++ flat_blocks (new_blocks bs images fs)) (flat_new b images fs d h.0)
      ∙ ap (λ (l : List Node). flat_map (finished images fs) (flat b) ++ l) (flat_new_blocks bs images fs d h.1)
      ∙ sym (flat_map_append (finished images fs) (flat b) (flat_blocks bs))

abbrev pub new_body : (images : List ℕ) (fs rs : List Node) (d : ℕ) → OneBlock rs d → OneBlock (flat_map (finished images fs) rs) d
new_body images fs rs d w =
    record {
      tree = new_block w.tree images fs;
      shaped = shaped_new w.tree images fs d w.shaped;
      is = flat_new w.tree images fs d w.shaped ∙ ap (flat_map (finished images fs)) w.is;
    }
