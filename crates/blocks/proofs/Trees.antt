-- The stack accepts just the records that are one block.
use Rattle.std.proofs.Common.{◌≡◌, ℕ, zero, suc, ◌+◌, ◌<◌, ◌≤◌, true, false, cond, ltb, List, [], ◌∷◌, ◌++◌, length, Some, None, Option, sym, refl, ap, ◌∙◌, subst, ⊎_elim, append_assoc, append-nil, arith}
use Rattle.std.proofs.lemmas.List.{length-append}
use Rattle.std.proofs.lemmas.Bool.{lt-ltb, ltb-true, cases_Bool}
use Rattle.arena.specs.Nodes.{Node}
use Rattle.blocks.specs.declared.Role.{Role}
use Rattle.blocks.specs.declared.Role.TheVariants.{Opening, Closing, Doing}
use Rattle.blocks.specs.Blocks.{role_given_to, Block, Stmts, Stmt, Blocks, block, end, also, stmt, none, more, flat, flat_stmts, flat_stmt, flat_blocks, how_many, Shaped, ShapedStmts, ShapedStmt, ShapedBlocks, OneBlock}
use Rattle.blocks.specs.Stack.{step, stepped, run}

-- ---- a tree runs through

pub opens_up : (limit p : ℕ) (s : List ℕ) → length s < limit → step limit Opening (suc p ∷ s) ≡ Some (0 ∷ p ∷ s)
opens_up limit p s l = ap (λ b. cond b (Some (0 ∷ p ∷ s)) None) (lt-ltb (length s) limit l)

mutual
  pub run_block : (limit p : ℕ) (s : List ℕ) (b : Block) (d : ℕ) (rest : List Node) → Shaped b d → length s + d ≤ limit →
      run limit (Some (suc p ∷ s)) (flat b ++ rest) ≡ run limit (Some (p ∷ s)) rest
  run_block limit p s (block o ss c) zero rest h l = absurd h
  run_block limit p s (block o ss c) (suc d) rest h l =
      let up : step limit (role_given_to o) (suc p ∷ s) ≡ Some (0 ∷ p ∷ s) = ap (λ r. step limit r (suc p ∷ s)) h.0 ∙ opens_up limit p s (omega arith) in
      let down : step limit (role_given_to c) (0 ∷ p ∷ s) ≡ Some (p ∷ s) = ap (λ r. step limit r (0 ∷ p ∷ s)) h.1 in
      ap (λ t. run limit t ((flat_stmts ss ++ (c ∷ [])) ++ rest)) up
      ∙ ap (run limit (Some (0 ∷ p ∷ s))) (append_assoc (flat_stmts ss) (c ∷ []) rest)
      ∙ run_stmts limit p s ss d (c ∷ rest) h.2 (omega arith)
      ∙ ap (λ t. run limit t rest) down

  run_stmts : (limit p : ℕ) (s : List ℕ) (ss : Stmts) (d : ℕ) (rest : List Node) → ShapedStmts ss d → suc (length s) + d ≤ limit →
      run limit (Some (0 ∷ p ∷ s)) (flat_stmts ss ++ rest) ≡ run limit (Some (0 ∷ p ∷ s)) rest
  run_stmts limit p s end d rest h l = refl
  run_stmts limit p s (also st ss) d rest h l =
      ap (run limit (Some (0 ∷ p ∷ s))) (append_assoc (flat_stmt st) (flat_stmts ss) rest)
      ∙ run_stmt limit p s st d (flat_stmts ss ++ rest) h.0 l
      ∙ run_stmts limit p s ss d rest h.1 l

  run_stmt : (limit p : ℕ) (s : List ℕ) (st : Stmt) (d : ℕ) (rest : List Node) → ShapedStmt st d → suc (length s) + d ≤ limit →
      run limit (Some (0 ∷ p ∷ s)) (flat_stmt st ++ rest) ≡ run limit (Some (0 ∷ p ∷ s)) rest
  run_stmt limit p s (stmt n bs) d rest h l =
      let asks : step limit (role_given_to n) (0 ∷ p ∷ s) ≡ Some (how_many bs ∷ p ∷ s) = ap (λ r. step limit r (0 ∷ p ∷ s)) h.0 in
      ap (λ t. run limit t (flat_blocks bs ++ rest)) asks ∙ run_blocks limit (p ∷ s) bs d rest h.1 l

  run_blocks : (limit : ℕ) (s : List ℕ) (bs : Blocks) (d : ℕ) (rest : List Node) → ShapedBlocks bs d → length s + d ≤ limit →
      run limit (Some (how_many bs ∷ s)) (flat_blocks bs ++ rest) ≡ run limit (Some (0 ∷ s)) rest
  run_blocks limit s none d rest h l = refl
  run_blocks limit s (more b bs) d rest h l =
      ap (run limit (Some (suc (how_many bs) ∷ s))) (append_assoc (flat b) (flat_blocks bs) rest)
      ∙ run_block limit (how_many bs) s b d (flat_blocks bs ++ rest) h.0 l
      ∙ run_blocks limit s bs d rest h.1 l

-- ---- what runs through is a tree

pub run_none : (limit : ℕ) (es : List Node) → run limit None es ≡ None
run_none limit [] = refl
run_none limit (e ∷ es) = run_none limit es

pub run_append : (limit : ℕ) (o : Option (List ℕ)) (xs ys : List Node) → run limit o (xs ++ ys) ≡ run limit (run limit o xs) ys
run_append limit o [] ys = refl
run_append limit o (x ∷ xs) ys = run_append limit (stepped limit x o) xs ys

pub fails : {X : Type 0} (limit : ℕ) (es : List Node) (t : List ℕ) → run limit None es ≡ Some t → X
fails limit es t e = let n = run_none limit es in let z : ◌≡◌ {A = ℕ} 0 1 = cc in absurd (omega arith)

no_blocks : (bs : Blocks) → how_many bs ≡ 0 → flat_blocks bs ≡ []
no_blocks none e = refl
no_blocks (more b bs) e = absurd (omega arith)

-- The innermost open block: the blocks that are due, more statements, its Close. Below it d blocks may be nested.
record Closes (limit d p q : ℕ) (s : List ℕ) (rs : List Node) : Type 0 where
  due : Blocks
  counts : how_many due ≡ p
  due_shaped : ShapedBlocks due d
  then : Stmts
  then_shaped : ShapedStmts then d
  close : Node
  closes_it : role_given_to close ≡ Closing
  rest : List Node
  is : rs ≡ flat_blocks due ++ (flat_stmts then ++ (close ∷ rest))
  goes : run limit (Some (q ∷ s)) rest ≡ Some (0 ∷ [])

shorter : (xs ys rest : List Node) (c : Node) (rs : List Node) → rs ≡ xs ++ (ys ++ (c ∷ rest)) → length rest < length rs
shorter xs ys rest c rs e = omega (arith, ap length e ∙ length-append xs (ys ++ (c ∷ rest)), length-append ys (c ∷ rest))

joins : {es before rest : List Node} (inside : List Node) (c : Node) (due then : List Node) → before ≡ [] → es ≡ before ++ (inside ++ (c ∷ rest)) → rest ≡ due ++ then →
    es ≡ ((inside ++ (c ∷ [])) ++ due) ++ then
joins {es} {before} {rest} inside c due then a e r =
    let regroup : ((inside ++ (c ∷ [])) ++ due) ++ then ≡ inside ++ (c ∷ (due ++ then)) = simp append_assoc in
    e ∙ ap (λ t. t ++ (inside ++ (c ∷ rest))) a ∙ ap (λ t. inside ++ (c ∷ t)) r ∙ sym regroup

ends : {es before rest : List Node} (inside : List Node) (c : Node) → before ≡ [] → es ≡ before ++ (inside ++ (c ∷ rest)) → rest ≡ [] → es ≡ inside ++ (c ∷ [])
ends {es} {before} {rest} inside c a e r = e ∙ ap (λ t. t ++ (inside ++ (c ∷ rest))) a ∙ ap (λ t. inside ++ (c ∷ t)) r

abbrev Ih : ℕ → ℕ → Type 0
Ih limit n =
    (rs : List Node) → length rs ≤ n → (d p q : ℕ) (s : List ℕ) → d + suc (length s) ≡ limit →
    run limit (Some (p ∷ q ∷ s)) rs ≡ Some (0 ∷ []) → Closes limit d p q s rs

module _ (limit n : ℕ) (ih : Ih limit n) (x : Node) (es : List Node) (l : length es ≤ n) where
  wrapped : role_given_to x ≡ Opening → (d p q : ℕ) (s : List ℕ) (one : Closes limit d 0 p (q ∷ s) es) → Closes limit (suc d) p q s one.rest →
      Closes limit (suc d) (suc p) q s (x ∷ es)
  wrapped is d p q s one two =
      record {
        due = more (block x one.then one.close) two.due;
        counts = ap suc two.counts;
        due_shaped = ((is, one.closes_it, one.then_shaped), two.due_shaped);
        then = two.then;
        then_shaped = two.then_shaped;
        close = two.close;
        closes_it = two.closes_it;
        rest = two.rest;
        is = ap (λ t. x ∷ t) (joins (flat_stmts one.then) one.close (flat_blocks two.due) (flat_stmts two.then ++ (two.close ∷ two.rest)) (no_blocks one.due one.counts) one.is two.is);
        goes = two.goes;
      }

  opened_by : role_given_to x ≡ Opening → (d p q : ℕ) (s : List ℕ) → d + suc (length s) ≡ limit → suc (length s) < limit → run limit (Some (0 ∷ p ∷ q ∷ s)) es ≡ Some (0 ∷ []) →
      Closes limit d (suc p) q s (x ∷ es)
  opened_by is zero p q s r m e = absurd (omega arith)
  opened_by is (suc d) p q s r m e =
      let one = ih es l d 0 p (q ∷ s) (omega arith) e in
      let fewer = shorter (flat_blocks one.due) (flat_stmts one.then) one.rest one.close es one.is in
      wrapped is d p q s one (ih one.rest (omega arith) (suc d) p q s r one.goes)

  by : (role : Role) → role_given_to x ≡ role → (d p q : ℕ) (s : List ℕ) → d + suc (length s) ≡ limit → run limit (step limit (role_given_to x) (p ∷ q ∷ s)) es ≡ Some (0 ∷ []) → Closes limit d p q s (x ∷ es)
  by Opening is d zero q s r e = fails limit es _ (subst (λ r. run limit (step limit r (zero ∷ q ∷ s)) es ≡ Some (0 ∷ [])) is e)
  by Opening is d (suc p) q s r e =
      let f = subst (λ r. run limit (step limit r (suc p ∷ q ∷ s)) es ≡ Some (0 ∷ [])) is e in
      ⊎_elim
      (λ (t : ltb (suc (length s)) limit ≡ true). opened_by is d p q s r (ltb-true _ _ t) (subst (λ b. run limit (cond b (Some (0 ∷ p ∷ q ∷ s)) None) es ≡ Some (0 ∷ [])) t f))
      (λ (t : ltb (suc (length s)) limit ≡ false). fails limit es _ (subst (λ b. run limit (cond b (Some (0 ∷ p ∷ q ∷ s)) None) es ≡ Some (0 ∷ [])) t f))
      (cases_Bool (ltb (suc (length s)) limit))
  by Closing is d zero q s r e =
      let f = subst (λ r. run limit (step limit r (zero ∷ q ∷ s)) es ≡ Some (0 ∷ [])) is e in
      record { due = none; counts = refl; due_shaped = tt; then = end; then_shaped = tt; close = x; closes_it = is; rest = es; is = refl; goes = f }
  by Closing is d (suc p) q s r e = fails limit es _ (subst (λ r. run limit (step limit r (suc p ∷ q ∷ s)) es ≡ Some (0 ∷ [])) is e)
  by (Doing m) is d zero q s r e =
      let f = subst (λ r. run limit (step limit r (zero ∷ q ∷ s)) es ≡ Some (0 ∷ [])) is e in
      let one = ih es l d m q s r f in
      record {
        due = none;
        counts = refl;
        due_shaped = tt;
        then = also (stmt x one.due) one.then;
        then_shaped = ((is ∙ ap Doing (sym one.counts), one.due_shaped), one.then_shaped);
        close = one.close;
        closes_it = one.closes_it;
        rest = one.rest;
        is = ap (λ t. x ∷ t) (one.is ∙ sym (append_assoc (flat_blocks one.due) (flat_stmts one.then) (one.close ∷ one.rest)));
        goes = one.goes;
      }
  by (Doing m) is d (suc p) q s r e = fails limit es _ (subst (λ r. run limit (step limit r (suc p ∷ q ∷ s)) es ≡ Some (0 ∷ [])) is e)

closing_of : (n limit : ℕ) → Ih limit n
closing_of n limit [] l d p q s r e = let z : ◌≡◌ {A = ℕ} 0 1 = cc in absurd (omega arith)
closing_of zero limit (x ∷ es) l d p q s r e = absurd (omega arith)
closing_of (suc n) limit (x ∷ es) l d p q s r e =
    by limit n (λ rs l d p q s r e. closing_of n limit rs l d p q s r e) x es (omega arith) (role_given_to x) refl d p q s r e

-- nothing comes after the body
finished : (limit : ℕ) (rs : List Node) → run limit (Some (0 ∷ [])) rs ≡ Some (0 ∷ []) → rs ≡ []
finished limit [] e = refl
finished limit (x ∷ es) e = by_role (role_given_to x) e
  where
    by_role : (r : Role) → run limit (step limit r (0 ∷ [])) es ≡ Some (0 ∷ []) → (x ∷ es) ≡ []
    by_role Opening f = fails limit es _ f
    by_role Closing f = fails limit es _ f
    by_role (Doing m) f = fails limit es _ f

one_block : (limit : ℕ) (x : Node) (es : List Node) → role_given_to x ≡ Opening → run (suc limit) (Some (0 ∷ 0 ∷ [])) es ≡ Some (0 ∷ []) → OneBlock (x ∷ es) (suc limit)
one_block limit x es is e =
    let one = closing_of (length es) (suc limit) es (omega arith) limit 0 0 [] (omega arith) e in
    let nothing = no_blocks one.due one.counts in
    let over = finished (suc limit) one.rest one.goes in
    record { tree = block x one.then one.close; shaped = (is, one.closes_it, one.then_shaped); is = ap (λ t. x ∷ t) (sym (ends (flat_stmts one.then) one.close nothing one.is over)) }

pub is_one_block : (limit : ℕ) (rs : List Node) → run (suc limit) (Some (1 ∷ [])) rs ≡ Some (0 ∷ []) → OneBlock rs (suc limit)
is_one_block limit [] e = let z : ◌≡◌ {A = ℕ} 0 1 = cc in absurd (omega arith)
is_one_block limit (x ∷ es) e = by_role (role_given_to x) refl e
  where
    by_role : (r : Role) → role_given_to x ≡ r → run (suc limit) (step (suc limit) (role_given_to x) (1 ∷ [])) es ≡ Some (0 ∷ []) → OneBlock (x ∷ es) (suc limit)
    by_role Opening is f =
        one_block limit x es is
        (subst (λ t. run (suc limit) t es ≡ Some (0 ∷ [])) (opens_up (suc limit) 0 [] (omega arith))
        (subst (λ r. run (suc limit) (step (suc limit) r (1 ∷ [])) es ≡ Some (0 ∷ [])) is f))
    by_role Closing is f = fails (suc limit) es _ (subst (λ r. run (suc limit) (step (suc limit) r (1 ∷ [])) es ≡ Some (0 ∷ [])) is f)
    by_role (Doing m) is f = fails (suc limit) es _ (subst (λ r. run (suc limit) (step (suc limit) r (1 ∷ [])) es ≡ Some (0 ∷ [])) is f)

-- and the other way round
pub runs_through : (limit : ℕ) (rs : List Node) → OneBlock rs limit → run limit (Some (1 ∷ [])) rs ≡ Some (0 ∷ [])
runs_through limit rs o =
    ap (run limit (Some (1 ∷ []))) (sym (append-nil rs) ∙ ap (λ t. t ++ []) (sym o.is))
    ∙ run_block limit 0 [] o.tree limit [] o.shaped (omega arith)
