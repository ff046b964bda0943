-- Where blocks end, and how far the walk over them has come.
use Rattle.std.proofs.Common.{◌≡◌, ℕ, zero, suc, ◌-◌, ◌<◌, true, false, Decides, List, [], ◌∷◌, ◌++◌, length, OnOk, Ok, Err, Result, sym, refl, ap, ◌∙◌, subst, append_assoc, arith}
use Rattle.std.proofs.lemmas.Bool.{false≢true}
use Rattle.std.proofs.lemmas.List.{length-drop}
use Rattle.arena.specs.Nodes.{Node}
use Rattle.blocks.specs.declared.Role.{Role}
use Rattle.blocks.specs.declared.Role.TheVariants.{Closing, Doing}
use Rattle.blocks.specs.Blocks.{role_given_to, Block, Stmts, Stmt, Blocks, block, end, also, stmt, none, more, flat, flat_stmts, flat_stmt, flat_blocks, how_many, Shaped, ShapedStmts, ShapedStmt, ShapedBlocks}
use Rattle.refusals.specs.declared.Refusal.{Refusal}
use Rattle.adjusting.specs.declared.work.Inputs.{Inputs}
use Rattle.adjusting.specs.declared.work.Work.{Work}
use Rattle.adjusting.specs.Rules.{Outcome}
use Rattle.adjusting.specs.Works.{Lenders, Went, records_of, state_of}
use Rattle.adjusting.specs.Places.{left_of, Onward, Adjusted, Passed, BlockFrom, BlockTo, StmtFrom, StmtTo}
use Rattle.adjusting.proofs.Adding.{length_nodes}
use Rattle.adjusting.proofs.Turning.{lenders_on}

-- ---- lists

head_of : {x y : Node} {xs ys : List Node} → ◌≡◌ {A = List Node} (x ∷ xs) (y ∷ ys) → x ≡ y
head_of e = cc

tail_of : {x y : Node} {xs ys : List Node} → ◌≡◌ {A = List Node} (x ∷ xs) (y ∷ ys) → xs ≡ ys
tail_of e = cc

-- records, the first of them in hand
pub record Starts (xs : List Node) : Type 0 where
  pub node : Node
  pub rest : List Node
  pub is : xs ≡ node ∷ rest

-- where records are left, there is a next one
pub there : (w : Work) → Starts (left_of w) → w.next < length w.inputs.records.now
there w s =
    omega (arith, length-drop w.next (records_of w.inputs), ap length s.is, length_nodes w.inputs.records.now w.inputs.operands.now)

-- ---- what is left of a block: statements and a Close

pub record StmtsLeft (d : ℕ) (xs rest : List Node) : Type 0 where
  pub stmts : Stmts
  pub close : Node
  pub shaped : ShapedStmts stmts d
  pub closing : role_given_to close ≡ Closing
  pub is : xs ≡ flat_stmts stmts ++ close ∷ rest

pub block_starts : (d : ℕ) (xs : List Node) → BlockFrom d xs → Starts xs
block_starts d xs b = go b.tree b.is
  where
    go : (t : Block) → xs ≡ flat t ++ b.rest → Starts xs
    go (block o ss c) e = record { node = o; rest = (flat_stmts ss ++ c ∷ []) ++ b.rest; is = e }

pub block_deep : (d : ℕ) (xs : List Node) → BlockFrom d xs → d ≡ suc (d - 1)
block_deep d xs b = go d b.tree b.shaped
  where
    go : (d : ℕ) (t : Block) → Shaped t d → d ≡ suc (d - 1)
    go zero (block o ss c) s = absurd s
    go (suc d) (block o ss c) s = omega arith

pub block_opened : (d e : ℕ) (xs ys : List Node) → d ≡ suc e → Passed xs ys → (tree : Block) (rest : List Node) → Shaped tree d → xs ≡ flat tree ++ rest → StmtsLeft e ys rest
block_opened d e xs ys q p (block o ss c) rest s i =
    let shaped = subst (Shaped (block o ss c)) q s in
    record {
      stmts = ss;
      close = c;
      shaped = shaped.2;
      closing = shaped.1;
      is = tail_of (sym p.is ∙ i) ∙ append_assoc (flat_stmts ss) (c ∷ []) rest;
    }

pub left_starts : (d : ℕ) (xs rest : List Node) → StmtsLeft d xs rest → Starts xs
left_starts d xs rest w = go w.stmts w.is
  where
    go : (ss : Stmts) → xs ≡ flat_stmts ss ++ w.close ∷ rest → Starts xs
    go end e = record { node = w.close; rest = rest; is = e }
    go (also (stmt n bs) ss) e = record { node = n; rest = (flat_blocks bs ++ flat_stmts ss) ++ w.close ∷ rest; is = e }

module _ (d : ℕ) (xs rest : List Node) (w : StmtsLeft d xs rest) (n : Node) (ns : List Node) (here : xs ≡ n ∷ ns) where
  pub left_stmt : (role_given_to n ≡ Closing → ⊥) → StmtFrom d xs
  left_stmt k = go w.stmts w.shaped w.is
    where
      go : (ss : Stmts) → ShapedStmts ss d → xs ≡ flat_stmts ss ++ w.close ∷ rest → StmtFrom d xs
      go end s e = absurd (k (ap role_given_to (head_of (sym here ∙ e)) ∙ w.closing))
      go (also st ss) s e =
          record { tree = st; rest = flat_stmts ss ++ w.close ∷ rest; shaped = s.0; is = e ∙ append_assoc (flat_stmt st) (flat_stmts ss) (w.close ∷ rest) }

  pub left_next : (role_given_to n ≡ Closing → ⊥) → (ys : List Node) → StmtTo d xs ys → StmtsLeft d ys rest
  left_next k ys to = go w.stmts w.shaped w.is
    where
      go : (ss : Stmts) → ShapedStmts ss d → xs ≡ flat_stmts ss ++ w.close ∷ rest → StmtsLeft d ys rest
      go end s e = absurd (k (ap role_given_to (head_of (sym here ∙ e)) ∙ w.closing))
      go (also st ss) s e =
          record {
            stmts = ss;
            close = w.close;
            shaped = s.1;
            closing = w.closing;
            is = to st (flat_stmts ss ++ w.close ∷ rest) s.0 (e ∙ append_assoc (flat_stmt st) (flat_stmts ss) (w.close ∷ rest));
          }

  pub left_closes : role_given_to n ≡ Closing → (ys : List Node) → Passed xs ys → ys ≡ rest
  left_closes k ys p = go w.stmts w.shaped w.is
    where
      go : (ss : Stmts) → ShapedStmts ss d → xs ≡ flat_stmts ss ++ w.close ∷ rest → ys ≡ rest
      go end s e = tail_of (sym p.is ∙ e)
      go (also (stmt m bs) ss) s e =
          let no : ◌≡◌ {A = Role} Closing (Doing (how_many bs)) = sym k ∙ ap role_given_to (head_of (sym here ∙ e)) ∙ s.0.0 in
          let z : ◌≡◌ {A = ℕ} 0 1 = cc in absurd (omega arith)

-- ---- what is left of a record's blocks: k of them

pub record BlocksLeft (d k : ℕ) (xs rest : List Node) : Type 0 where
  pub blocks : Blocks
  pub shaped : ShapedBlocks blocks d
  pub many : how_many blocks ≡ k
  pub is : xs ≡ flat_blocks blocks ++ rest

pub stmt_starts : (d : ℕ) (xs : List Node) → StmtFrom d xs → Starts xs
stmt_starts d xs b = go b.tree b.is
  where
    go : (t : Stmt) → xs ≡ flat_stmt t ++ b.rest → Starts xs
    go (stmt n bs) e = record { node = n; rest = flat_blocks bs ++ b.rest; is = e }

-- how many blocks are due, where records are left
abbrev pub Due : List Node → ℕ → Type 0
Due xs k = (n : Node) (ns : List Node) (count : ℕ) → xs ≡ n ∷ ns → role_given_to n ≡ Doing count → k ≡ count

pub stmt_opened : (d k j : ℕ) (xs ys : List Node) → k ≡ j → Due xs k → Passed xs ys → (tree : Stmt) (rest : List Node) → ShapedStmt tree d → xs ≡ flat_stmt tree ++ rest → BlocksLeft d j ys rest
stmt_opened d k j xs ys e due p (stmt n bs) rest s i =
    record {
      blocks = bs;
      shaped = s.1;
      many = sym (due n (flat_blocks bs ++ rest) (how_many bs) i s.0) ∙ e;
      is = tail_of (sym p.is ∙ i);
    }

pub blocks_next : (d k : ℕ) (xs rest : List Node) → 0 < k → BlocksLeft d k xs rest → BlockFrom d xs
blocks_next d k xs rest l w = go w.blocks w.shaped w.many w.is
  where
    go : (bs : Blocks) → ShapedBlocks bs d → how_many bs ≡ k → xs ≡ flat_blocks bs ++ rest → BlockFrom d xs
    go none s m e = absurd (omega (arith, m, l))
    go (more b bs) s m e = record { tree = b; rest = flat_blocks bs ++ rest; shaped = s.0; is = e ∙ append_assoc (flat b) (flat_blocks bs) rest }

pub blocks_after : (d k j : ℕ) (xs ys rest : List Node) → k ≡ suc j → BlocksLeft d k xs rest → BlockTo d xs ys → BlocksLeft d j ys rest
blocks_after d k j xs ys rest l w to = go w.blocks w.shaped w.many w.is
  where
    go : (bs : Blocks) → ShapedBlocks bs d → how_many bs ≡ k → xs ≡ flat_blocks bs ++ rest → BlocksLeft d j ys rest
    go none s m e = absurd (omega (arith, m, l))
    go (more b bs) s m e =
        record { blocks = bs; shaped = s.1; many = omega (arith, m, l); is = to b (flat_blocks bs ++ rest) s.0 (e ∙ append_assoc (flat b) (flat_blocks bs) rest) }

pub blocks_end : (d k : ℕ) (xs rest : List Node) → k ≡ 0 → BlocksLeft d k xs rest → xs ≡ rest
blocks_end d k xs rest l w = go w.blocks w.many w.is
  where
    go : (bs : Blocks) → how_many bs ≡ k → xs ≡ flat_blocks bs ++ rest → xs ≡ rest
    go none m e = e
    go (more b bs) m e = absurd (omega (arith, m, l))

-- ---- two stretches of the way, one after the other

onward_on : (a m b : Work) (u : Unit {0}) (r : Result (Unit {0}) Refusal) → Onward a m (Ok u) → Onward m b r → Onward a b r
onward_on a m b u (Ok x) p q = q ∙ p
onward_on a m b u (Err e) p q = subst (λ (o : Outcome). Went {A = Unit {0}} o (state_of b) (Err e)) p q

further_on : (a m b : Work) (r : Result (Unit {0}) Refusal) → a.next < m.next → OnOk r (m.next < b.next) → OnOk r (a.next < b.next)
further_on a m b (Ok x) l k = omega (arith, l, k)
further_on a m b (Err e) l k = tt

pub adjusted_on : (T U V : List Node → List Node → Type 0) (a m b : Work) (u : Unit {0}) (r : Result (Unit {0}) Refusal) →
    Adjusted T a m (Ok u) → Adjusted U m b r → OnOk r (V (left_of a) (left_of b)) → Adjusted V a b r
adjusted_on T U V a m b u r p q to =
    record {
      onward = onward_on a m b u r p.onward q.onward;
      to = to;
      further = further_on a m b r p.further q.further;
      room = q.room ∙ p.room;
      lenders = lenders_on a m b p.lenders q.lenders;
    }

-- ---- inside a block, and among the blocks of a record

-- nothing is said of where
abbrev pub Somewhere : List Node → List Node → Type 0
Somewhere xs ys = Unit {0}

-- the block that begins where a is has come to b, among its statements
pub record InBlock (depth : ℕ) (a b : Work) : Type 0 where
  pub adjusted : Adjusted Somewhere a b (Ok tt)
  pub left : (tree : Block) (rest : List Node) → Shaped tree depth → left_of a ≡ flat tree ++ rest → StmtsLeft (depth - 1) (left_of b) rest

-- the record with its blocks that begins where a is has come to b, with k blocks to come
pub record InStmt (depth k : ℕ) (a b : Work) : Type 0 where
  pub adjusted : Adjusted Somewhere a b (Ok tt)
  pub left : (tree : Stmt) (rest : List Node) → ShapedStmt tree depth → left_of a ≡ flat_stmt tree ++ rest → BlocksLeft depth k (left_of b) rest

-- the place is forgotten
pub somewhere : (T : List Node → List Node → Type 0) (a b : Work) (u : Unit {0}) → Adjusted T a b (Ok u) → Adjusted Somewhere a b (Ok tt)
somewhere T a b u p = record { onward = p.onward; to = tt; further = p.further; room = p.room; lenders = p.lenders }

-- the rest of the records grows less
pub fewer_left : (a b : Work) → Starts (left_of a) → Lenders a b → a.next < b.next → length b.inputs.records.now - b.next < length a.inputs.records.now - a.next
fewer_left a b s k l = omega (arith, there a s, l, ap (λ (i : Inputs). length i.records.now) k.inputs)

-- an answer that decides
pub so : (P : Type 0) → Decides true P → P
so P d = d.0 refl

pub not_so : (P : Type 0) → Decides false P → P → ⊥
not_so P d p = false≢true (d.1 p)

on_ok : (r : Result (Unit {0}) Refusal) (P Q : Type 0) → (P → Q) → OnOk r P → OnOk r Q
on_ok (Ok x) P Q f p = f p
on_ok (Err e) P Q f p = tt

-- one statement on
pub in_block_on : (depth : ℕ) (f a b : Work) → InBlock depth f a → (s : Starts (left_of a)) → (role_given_to s.node ≡ Closing → ⊥) → (u : Unit {0}) →
    Adjusted (StmtTo (depth - 1)) a b (Ok u) → InBlock depth f b
in_block_on depth f a b k s other u q =
    record {
      adjusted = adjusted_on Somewhere (StmtTo (depth - 1)) Somewhere f a b tt (Ok u) k.adjusted q tt;
      left = λ tree rest shaped is. left_next (depth - 1) (left_of a) rest (k.left tree rest shaped is) s.node s.rest s.is other (left_of b) q.to;
    }

-- and the Close
pub block_done : (depth : ℕ) (f a b : Work) → InBlock depth f a → (s : Starts (left_of a)) → role_given_to s.node ≡ Closing → (r : Result (Unit {0}) Refusal) →
    Adjusted Passed a b r → Adjusted (BlockTo depth) f b r
block_done depth f a b k s closing r q =
    adjusted_on Somewhere Passed (BlockTo depth) f a b tt r k.adjusted q
    (on_ok r (Passed (left_of a) (left_of b)) (BlockTo depth (left_of f) (left_of b))
    (λ p tree rest shaped is. left_closes (depth - 1) (left_of a) rest (k.left tree rest shaped is) s.node s.rest s.is closing (left_of b) p) q.to)

-- one block on
pub in_stmt_on : (depth j k : ℕ) (f a b : Work) → k ≡ suc j → InStmt depth k f a → (u : Unit {0}) → Adjusted (BlockTo depth) a b (Ok u) → InStmt depth j f b
in_stmt_on depth j k f a b e i u q =
    record {
      adjusted = adjusted_on Somewhere (BlockTo depth) Somewhere f a b tt (Ok u) i.adjusted q tt;
      left = λ tree rest shaped is. blocks_after depth k j (left_of a) (left_of b) rest e (i.left tree rest shaped is) q.to;
    }

pub stmt_done : (depth k : ℕ) (f a : Work) → k ≡ 0 → InStmt depth k f a → Adjusted (StmtTo depth) f a (Ok tt)
stmt_done depth k f a e i =
    record {
      onward = i.adjusted.onward;
      to = λ tree rest shaped is. blocks_end depth k (left_of a) rest e (i.left tree rest shaped is);
      further = i.adjusted.further;
      room = i.adjusted.room;
      lenders = i.adjusted.lenders;
    }
