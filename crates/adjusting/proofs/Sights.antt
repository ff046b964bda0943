-- What was in sight stays in sight.
use Rattle.std.proofs.Common.{◌≡◌, ◌==◌, ℕ, ◌<◌, ◌≤◌, Bool, true, false, cond, not, ◌⊎◌, List, [], ◌∷◌, ◌++◌, map, length, get_or, unwrap_or, Some, None, Option, sym, refl, ap, ◌∙◌, subst, inl, inr, ⊎_elim, append_assoc, append-nil, arith}
use Rattle.std.specs.List.{slice_get, flat_map, cons_option, ContainsAt as Has, AllByRecursion}
use Rattle.std.proofs.lemmas.Bool.{eqb-true, eqb-false, ne_eqb}
use Rattle.std.proofs.lemmas.List.Elements.{recursion_from_All}
use Rattle.std.proofs.lemmas.Option.{slice_get_within, slice_get-get_or}
use Rattle.kinds.specs.Kinds.{result_slot}
use Rattle.operands.specs.Faults.{absent}
use Rattle.arena.specs.declared.range.Range.{Range}
use Rattle.arena.specs.Nodes.{Node}
use Rattle.blocks.specs.Blocks.{Block, Stmts, Stmt, Blocks, block, end, also, stmt, none, more}
use Rattle.blocks.specs.Sight.{present, uses, results, pre_emit, Sees, operands_of, EmitSees, brings, brings_all, brought, is_loop, InSight, InSightStmts, InSightStmt, BlocksSee, LoopSees}
use Rattle.blocks.specs.Weave.{is_emit, emits}
use Rattle.walking.specs.Images.{image_of, images_of}
use Rattle.walking.specs.BodyLaws.{Brought}
use Rattle.adjusting.specs.Emits.{sent_to, kept, numbers, stretches, emit_of, emits_of}
use Rattle.adjusting.specs.Rules.{adjusted, finished}
use Rattle.adjusting.specs.Laws.{KeepsEntries, Sighted, StrikesPreEmit}
use Rattle.adjusting.proofs.Members.{has_none, has_here, has_there, has_cons, has_left, has_right, has_cases, each_at, each_both}
use Rattle.adjusting.proofs.Sending.{blank, sent_none, sent_some}
use Rattle.adjusting.proofs.Stretches.{stretched}
use Rattle.adjusting.proofs.Trees.{before, new_block, new_stmts, new_stmt, new_blocks, new_body}
use Rattle.adjusting.proofs.Uses.{passing, uses_images, uses_are, results_images, results_are, image_absent, image_from, each_kept, each_present}

-- ---- sight grows with what is in sight

sees_more : (fs : List Node) (s t : List ℕ) (x : ℕ) → ((y : ℕ) → Has s y → Has t y) → Sees fs s x → Sees fs t x
sees_more fs s t x f (inl p) = inl p
sees_more fs s t x f (inr a) = inr (f x a)

-- ---- the new Emits

emit_split : (fs : List Node) (xs ys s : List ℕ) → EmitSees fs s (xs ++ ys) → EmitSees fs s xs × EmitSees fs (s ++ xs) ys
emit_split fs [] ys s e = (tt, subst (λ (l : List ℕ). EmitSees fs l ys) (sym (append-nil s)) e)
emit_split fs (x ∷ xs) ys s e =
    let r = emit_split fs xs ys (s ++ x ∷ []) e.1 in ((e.0, r.0), subst (λ (l : List ℕ). EmitSees fs l ys) (append_assoc s (x ∷ []) xs) r.1)

brought_before : (n : Node) (rs : List Range) (rest : Stmts) → brings_all (before (map (emit_of n) rs) rest) ≡ flat_map numbers rs ++ brings_all rest
brought_before n [] rest = refl
brought_before n (r ∷ rs) rest = ap (λ (l : List ℕ). numbers r ++ l) (brought_before n rs rest) ∙ sym (append_assoc (numbers r) (flat_map numbers rs) (brings_all rest))

sees_before : (fs : List Node) (n : Node) (rs : List Range) (rest : Stmts) (s : List ℕ) → EmitSees fs s (flat_map numbers rs) →
    InSightStmts fs (s ++ flat_map numbers rs) rest → InSightStmts fs s (before (map (emit_of n) rs) rest)
sees_before fs n [] rest s e r = subst (λ (l : List ℕ). InSightStmts fs l rest) (append-nil s) r
sees_before fs n (t ∷ rs) rest s e r =
    let parts = emit_split fs (numbers t) (flat_map numbers rs) s e in (
      parts.0,
      sees_before fs n rs rest (s ++ numbers t) parts.1
          (subst (λ (l : List ℕ). InSightStmts fs l rest) (sym (append_assoc s (numbers t) (flat_map numbers rs))) r),
    )

-- ---- images

-- an image that is there is one of the table's
image_there : (images : List ℕ) (h : ℕ) → (image_of images h ≡ absent → ⊥) → (i : ℕ) × (slice_get images h ≡ Some i) × (image_of images h ≡ i)
image_there images h n = go (h == absent) (slice_get images h) refl n
  where
    go : (b : Bool) (o : Option ℕ) → slice_get images h ≡ o → (cond b absent (unwrap_or o absent) ≡ absent → ⊥) →
        (i : ℕ) × (slice_get images h ≡ Some i) × (cond b absent (unwrap_or o absent) ≡ i)
    go true o e n = absurd (n refl)
    go false None e n = absurd (n refl)
    go false (Some i) e n = (i, e, refl)

-- What is in sight before is in sight after, by its image.
abbrev pub Carried : List ℕ → List Node → List ℕ → List ℕ → Type 0
Carried images fs s t = (h : ℕ) → (image_of images h ≡ absent → ⊥) → Has s h → Sees fs t (image_of images h)

module _ (es fs : List Node) (images : List ℕ) (k : KeepsEntries es fs images) (small : length fs ≤ absent) where
  image_within : (h : ℕ) → (image_of images h ≡ absent → ⊥) → image_of images h < length fs
  image_within h n = let i = image_there images h n in subst (λ (x : ℕ). x < length fs) (sym i.2) (k.within h i.0 i.1)

  pub strikes_pre_emit : StrikesPreEmit es fs images
  strikes_pre_emit h e s l = go (sent_to images fs h) refl
    where
      in_table : image_of images h < length fs
      in_table =
          let i = slice_get-get_or images h absent (omega (arith, slice_get_within es h e s, k.every_handle)) in
          let is : image_of images h ≡ get_or images h absent = ap (λ (b : Bool). cond b absent (unwrap_or (slice_get images h) absent)) (ne_eqb h absent (λ z. omega (arith, z, l))) ∙ ap (λ (o : Option ℕ). unwrap_or o absent) i in
          subst (λ (x : ℕ). x < length fs) (sym is) (k.within h (get_or images h absent) i)

      go : (o : Option ℕ) → sent_to images fs h ≡ o → o ≡ cond (pre_emit (slice_get fs (image_of images h))) None (Some (image_of images h))
      go None q = sym (ap (λ (b : Bool). cond b None (Some (image_of images h))) (sent_none images fs h q in_table))
      go (Some i) q =
          let x = sent_some images fs h i q in
          let f : pre_emit (slice_get fs (image_of images h)) ≡ false = ap (λ (y : ℕ). pre_emit (slice_get fs y)) (sym x.image) ∙ x.emits in
          ap Some x.image ∙ sym (ap (λ (b : Bool). cond b None (Some (image_of images h))) f)

  carried_append : (s t u v : List ℕ) → Carried images fs s t → Carried images fs u v → Carried images fs (s ++ u) (t ++ v)
  carried_append s t u v c d h p a =
      ⊎_elim (λ l. sees_more fs t (t ++ v) (image_of images h) (λ y b. has_left y t v b) (c h p l))
      (λ r. sees_more fs v (t ++ v) (image_of images h) (λ y b. has_right y t v b) (d h p r)) (has_cases h s u a)

  sees_image : (s t : List ℕ) → Carried images fs s t → (h : ℕ) → (image_of images h ≡ absent → ⊥) → Sees es s h → Sees fs t (image_of images h)
  sees_image s t c h p (inl q) = let i = image_there images h p in inl (ap (λ (x : ℕ). pre_emit (slice_get fs x)) i.2 ∙ k.sends.pre_emit_stays h i.0 i.1 q)
  sees_image s t c h p (inr a) = c h p a

  each_image : (s t os : List ℕ) → Carried images fs s t → AllByRecursion (Sees es s) (present os) → AllByRecursion (Sees fs t) (present (images_of images os))
  each_image s t [] c e = tt
  each_image s t (h ∷ hs) c e = go (h == absent) (image_of images h == absent) refl refl (each_image s t hs c) e
    where
      go : (b d : Bool) → (h == absent) ≡ b → (image_of images h == absent) ≡ d → (AllByRecursion (Sees es s) (present hs) → AllByRecursion (Sees fs t) (present (images_of images hs))) →
          AllByRecursion (Sees es s) (cond (not b) (h ∷ present hs) (present hs)) →
          AllByRecursion (Sees fs t) (cond (not d) (image_of images h ∷ present (images_of images hs)) (present (images_of images hs)))
      go true true p q r e = r e
      go false true p q r e = r e.1
      go true false p q r e = absurd (eqb-false (image_of images h) absent q (image_absent images h p))
      go false false p q r e = (sees_image s t c h (eqb-false (image_of images h) absent q) e.0, r e.1)

  carried_present : (os : List ℕ) → Carried images fs (present os) (present (images_of images os))
  carried_present [] h p a = absurd (has_none h a)
  carried_present (o ∷ os) h p a = go (o == absent) (image_of images o == absent) refl (λ q. carried_present os h p q) a
    where
      wider : (d : Bool) → Sees fs (present (images_of images os)) (image_of images h) →
          Sees fs (cond (not d) (image_of images o ∷ present (images_of images os)) (present (images_of images os))) (image_of images h)
      wider true x = x
      wider false x = sees_more fs (present (images_of images os)) (image_of images o ∷ present (images_of images os)) (image_of images h) (λ y b. has_there y (image_of images o) (present (images_of images os)) b) x

      this : (d : Bool) → (image_of images o == absent) ≡ d → o ≡ h → Sees fs (cond (not d) (image_of images o ∷ present (images_of images os)) (present (images_of images os))) (image_of images h)
      this true q z = absurd (p (ap (image_of images) (sym z) ∙ eqb-true (image_of images o) absent q))
      this false q z =
          subst (λ (x : ℕ). Sees fs (image_of images o ∷ present (images_of images os)) (image_of images x)) z (inr (has_here (image_of images o) (present (images_of images os))))

      go : (b d : Bool) → (image_of images o == absent) ≡ d → (Has (present os) h → Sees fs (present (images_of images os)) (image_of images h)) → Has (cond (not b) (o ∷ present os) (present os)) h →
          Sees fs (cond (not d) (image_of images o ∷ present (images_of images os)) (present (images_of images os))) (image_of images h)
      go true d q r a = wider d (r a)
      go false d q r a = ⊎_elim (λ z. this d q z) (λ y. wider d (r y)) (has_cons h o (present os) a)

  each_uses : (n : Node) (s t : List ℕ) → Carried images fs s t → AllByRecursion (Sees es s) (uses n) → AllByRecursion (Sees fs t) (uses (adjusted images n))
  each_uses n s t c e =
      subst (AllByRecursion (Sees fs t)) (sym (uses_images images n))
      (each_image s t (passing (λ x. not (result_slot x)) n) c (subst (AllByRecursion (Sees es s)) (uses_are n) e))

  carried_results : (n : Node) → Carried images fs (results n) (results (adjusted images n))
  carried_results n =
      subst (λ (l : List ℕ). Carried images fs l (results (adjusted images n))) (sym (results_are n))
      (subst (λ (l : List ℕ). Carried images fs (present (passing result_slot n)) l) (sym (results_images images n)) (carried_present (passing result_slot n)))

  carried_kept : (hs : List ℕ) → Carried images fs hs (kept images fs hs)
  carried_kept [] h p a = absurd (has_none h a)
  carried_kept (o ∷ hs) h p a = go (sent_to images fs o) refl (λ q. carried_kept hs h p q) (has_cons h o hs a)
    where
      go : (x : Option ℕ) → sent_to images fs o ≡ x → (Has hs h → Sees fs (kept images fs hs) (image_of images h)) → (o ≡ h) ⊎ Has hs h → Sees fs (cons_option x (kept images fs hs)) (image_of images h)
      go None e r (inl q) = inl (sent_none images fs h (ap (sent_to images fs) (sym q) ∙ e) (image_within h p))
      go None e r (inr b) = r b
      go (Some i) e r (inl q) = inr (subst (λ (y : ℕ). Has (i ∷ kept images fs hs) y) ((sent_some images fs o i e).image ∙ ap (image_of images) q) (has_here i (kept images fs hs)))
      go (Some i) e r (inr b) = sees_more fs (kept images fs hs) (i ∷ kept images fs hs) (image_of images h) (λ y c. has_there y i (kept images fs hs) c) (r b)

  -- the operands of an image that is emitted
  operands_seen : (h i : ℕ) (s t : List ℕ) → Carried images fs s t → sent_to images fs h ≡ Some i → AllByRecursion (Sees es s) (operands_of (slice_get es h)) →
      AllByRecursion (Sees fs t) (operands_of (slice_get fs i))
  operands_seen h i s t c e see =
      let x = sent_some images fs h i e in
      let j = image_there images h (λ z. omega (arith, x.within, small, x.image, z)) in
      let same : slice_get images h ≡ Some i = j.1 ∙ ap Some (sym j.2 ∙ sym x.image) in
      let old = slice_get-get_or es h blank (omega (arith, slice_get_within images h i same, k.every_handle)) in
      let new = slice_get-get_or fs i blank x.within in
      let all = recursion_from_All _ _ (k.sends.operands h i (get_or es h blank) (get_or fs i blank) same old new (sym (ap pre_emit new) ∙ x.emits)) in
      subst (λ (o : Option Node). AllByRecursion (Sees fs t) (operands_of o)) (sym new)
      (each_both (Brought fs images (get_or es h blank)) (λ y. y ≡ absent → ⊥) (Sees fs t) (present (get_or fs i blank).operands)
      (one (get_or es h blank) (subst (λ (o : Option Node). AllByRecursion (Sees es s) (operands_of o)) old see))
      (each_kept (Brought fs images (get_or es h blank)) (get_or fs i blank).operands all) (each_present (get_or fs i blank).operands))
    where
      one : (n : Node) → AllByRecursion (Sees es s) (present n.operands) → (y : ℕ) → Brought fs images n y → (y ≡ absent → ⊥) → Sees fs t y
      one n see y (inr p) q = inl p
      one n see y (inl p) q =
          let o = image_from images n.operands y p q in
          subst (Sees fs t) (sym o.2) (sees_image s t c o.0 (λ z. q (o.2 ∙ z)) (each_at (Sees es s) (present n.operands) o.0 see o.1))

  emit_sees : (hs s t : List ℕ) → Carried images fs s t → EmitSees es s hs → EmitSees fs t (kept images fs hs)
  emit_sees [] s t c e = tt
  emit_sees (h ∷ hs) s t c e = go (sent_to images fs h) refl (λ u d. emit_sees hs (s ++ h ∷ []) u d e.1)
    where
      gone : sent_to images fs h ≡ None → (x : ℕ) → (image_of images x ≡ absent → ⊥) → (h ≡ x) ⊎ Has [] x → Sees fs t (image_of images x)
      gone p x q (inl z) = inl (sent_none images fs x (ap (sent_to images fs) (sym z) ∙ p) (image_within x q))
      gone p x q (inr z) = absurd (has_none x z)

      here : (i : ℕ) → sent_to images fs h ≡ Some i → (x : ℕ) → (h ≡ x) ⊎ Has [] x → Sees fs (i ∷ []) (image_of images x)
      here i p x (inl z) = inr (subst (λ (y : ℕ). Has (i ∷ []) y) ((sent_some images fs h i p).image ∙ ap (image_of images) z) (has_here i []))
      here i p x (inr z) = absurd (has_none x z)

      go : (o : Option ℕ) → sent_to images fs h ≡ o → ((u : List ℕ) → Carried images fs (s ++ h ∷ []) u → EmitSees fs u (kept images fs hs)) → EmitSees fs t (cons_option o (kept images fs hs))
      go None p r = r t (λ x q a. ⊎_elim (λ z. c x q z) (λ z. gone p x q (has_cons x h [] z)) (has_cases x s (h ∷ []) a))
      go (Some i) p r = (
        operands_seen h i s t c p e.0,
        r (t ++ i ∷ []) (carried_append s t (h ∷ []) (i ∷ []) c (λ x q a. here i p x (has_cons x h [] a))),
      )

  carried_ranges : (n : Node) → Carried images fs (emits n) (flat_map numbers (stretches (kept images fs (emits n))))
  carried_ranges n = subst (λ (l : List ℕ). Carried images fs (emits n) l) (sym (stretched (kept images fs (emits n))).joins) (carried_kept (emits n))

  -- ---- block by block

  -- what a block brings in sight
  stmts_brought : (ss : Stmts) → Carried images fs (brings_all ss) (brings_all (new_stmts ss images fs))
  stmts_brought end = λ h p a. absurd (has_none h a)
  stmts_brought (also (stmt n bs) ss) = go (is_emit n) refl (stmts_brought ss)
    where
      go : (b : Bool) → is_emit n ≡ b → Carried images fs (brings_all ss) (brings_all (new_stmts ss images fs)) →
          Carried images fs (cond b (emits n) (results n) ++ brings_all ss)
          (brings_all (cond b (before (emits_of images fs n) (new_stmts ss images fs)) (also (stmt (adjusted images n) (new_blocks bs images fs)) (new_stmts ss images fs))))
      go true e r =
          let rs = stretches (kept images fs (emits n)) in
          subst (λ (l : List ℕ). Carried images fs (emits n ++ brings_all ss) l) (sym (brought_before n rs (new_stmts ss images fs)))
          (carried_append (emits n) (flat_map numbers rs) (brings_all ss) (brings_all (new_stmts ss images fs)) (carried_ranges n) r)
      go false e r =
          let same : cond (is_emit n) (emits (adjusted images n)) (results (adjusted images n)) ≡ results (adjusted images n) = ap (λ (b : Bool). cond b (emits (adjusted images n)) (results (adjusted images n))) e in
          subst (λ (l : List ℕ). Carried images fs (results n ++ brings_all ss) (l ++ brings_all (new_stmts ss images fs))) (sym same)
          (carried_append (results n) (results (adjusted images n)) (brings_all ss) (brings_all (new_stmts ss images fs)) (carried_results n) r)

  block_brought : (b : Block) → Carried images fs (brought b) (brought (new_block b images fs))
  block_brought (block o ss c) = stmts_brought ss

  -- one record, over what is known of the blocks after it
  stmt_sight : (n : Node) (bs : Blocks) (s t : List ℕ) (rest : Stmts) → Carried images fs s t →
      ((u v : List ℕ) → Carried images fs u v → BlocksSee es u bs → BlocksSee fs v (new_blocks bs images fs)) →
      ((u v : List ℕ) → Carried images fs u v → LoopSees es u (uses n) bs → LoopSees fs v (uses (adjusted images n)) (new_blocks bs images fs)) →
      (b d : Bool) → is_emit n ≡ b → is_loop n ≡ d →
      cond b (EmitSees es s (emits n)) (cond d (LoopSees es s (uses n) bs) (AllByRecursion (Sees es s) (uses n) × BlocksSee es s bs)) →
      ((u : List ℕ) → Carried images fs (s ++ cond b (emits n) (results n)) u → InSightStmts fs u rest) →
      InSightStmts fs t (cond b (before (emits_of images fs n) rest) (also (stmt (adjusted images n) (new_blocks bs images fs)) rest))
  stmt_sight n bs s t rest c blocks loops true d e f see go_on =
      let rs = stretches (kept images fs (emits n)) in
      sees_before fs n rs rest t
      (subst (EmitSees fs t) (sym (stretched (kept images fs (emits n))).joins) (emit_sees (emits n) s t c see))
      (go_on (t ++ flat_map numbers rs) (carried_append s t (emits n) (flat_map numbers rs) c (carried_ranges n)))
  stmt_sight n bs s t rest c blocks loops false true e f see go_on =
      rw (e, f) (loops s t c see, go_on (t ++ results (adjusted images n)) (carried_append s t (results n) (results (adjusted images n)) c (carried_results n)))
  stmt_sight n bs s t rest c blocks loops false false e f see go_on =
      rw (e, f) ((each_uses n s t c see.0, blocks s t c see.1), go_on (t ++ results (adjusted images n)) (carried_append s t (results n) (results (adjusted images n)) c (carried_results n)))

  mutual
    sight_block : (b : Block) (s t : List ℕ) → Carried images fs s t → InSight es s b → InSight fs t (new_block b images fs)
    sight_block (block o ss c) s t k see = sight_stmts ss s t k see

    sight_stmts : (ss : Stmts) (s t : List ℕ) → Carried images fs s t → InSightStmts es s ss → InSightStmts fs t (new_stmts ss images fs)
    sight_stmts end s t k see = tt
    sight_stmts (also st ss) s t k see = sight_stmt st s t k see.0 (new_stmts ss images fs) (λ u d. sight_stmts ss (s ++ brings st) u d see.1)

    sight_stmt : (st : Stmt) (s t : List ℕ) → Carried images fs s t → InSightStmt es s st → (rest : Stmts) →
        ((u : List ℕ) → Carried images fs (s ++ brings st) u → InSightStmts fs u rest) → InSightStmts fs t (new_stmt st images fs rest)
    sight_stmt (stmt n bs) s t k see rest go_on =
        stmt_sight n bs s t rest k (sight_blocks bs) (λ u v c. sight_loop bs u v (uses n) (uses (adjusted images n)) (each_uses n) c)
        (is_emit n) (is_loop n) refl refl see go_on

    sight_blocks : (bs : Blocks) (s t : List ℕ) → Carried images fs s t → BlocksSee es s bs → BlocksSee fs t (new_blocks bs images fs)
    sight_blocks none s t k see = tt
    sight_blocks (more b bs) s t k see = (sight_block b s t k see.0, sight_blocks bs s t k see.1)

    sight_loop : (bs : Blocks) (s t us vs : List ℕ) → ((u v : List ℕ) → Carried images fs u v → AllByRecursion (Sees es u) us → AllByRecursion (Sees fs v) vs) →
        Carried images fs s t → LoopSees es s us bs → LoopSees fs t vs (new_blocks bs images fs)
    sight_loop none s t us vs f k see = f s t k see
    sight_loop (more b bs) s t us vs f k see = (
      sight_block b s t k see.0,
      sight_loop bs (s ++ brought b) (t ++ brought (new_block b images fs)) us vs f (carried_append s t (brought b) (brought (new_block b images fs)) k (block_brought b)) see.1,
    )

  pub sight : (rs : List Node) → Sighted es rs → Sighted fs (flat_map (finished images fs) rs)
  sight rs h =
      record { body = new_body images fs rs 64 h.body; in_sight = sight_block h.body.tree [] [] (λ x p a. absurd (has_none x a)) h.in_sight }
