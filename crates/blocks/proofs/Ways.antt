-- What a record does to the stack, and where the records break.
use Rattle.std.proofs.Common.{◌≡◌, ℕ, zero, suc, ◌+◌, ◌<◌, ◌≤◌, true, false, cond, ltb, ◌⊎◌, List, [], ◌∷◌, ◌++◌, length, Some, None, Option, sym, refl, ap, ◌∙◌, subst, inl, inr, ⊎_elim, append-nil, arith}
use Rattle.std.proofs.lemmas.Bool.{ltb-true, ltb-false, cases_Bool}
use Rattle.arena.specs.Nodes.{Node}
use Rattle.blocks.specs.declared.Role.{Role}
use Rattle.blocks.specs.declared.Role.TheVariants.{Opening, Closing, Doing}
use Rattle.blocks.specs.Blocks.{role_given_to, Viable, opens, closes, opened, closed}
use Rattle.blocks.specs.Stack.{step, run}
use Rattle.blocks.proofs.Parts.{nothing}
use Rattle.blocks.proofs.Trees.{opens_up, fails, run_append, is_one_block}

-- an Open that is taken: the block was due, and there was room
pub taken : (limit p : ℕ) (s t : List ℕ) → step limit Opening (suc p ∷ s) ≡ Some t → (length s < limit) × (Some t ≡ Some (0 ∷ p ∷ s))
taken limit p s t e =
    ⊎_elim
    (λ (b : ltb (length s) limit ≡ true). (ltb-true _ _ b, sym (subst (λ c. cond c (Some (0 ∷ p ∷ s)) None ≡ Some t) b e)))
    (λ (b : ltb (length s) limit ≡ false). nothing (subst (λ c. cond c (Some (0 ∷ p ∷ s)) None ≡ Some t) b e))
    (cases_Bool (ltb (length s) limit))

-- a higher limit takes the same records
step_more : (limit more : ℕ) → limit ≤ more → (r : Role) (s t : List ℕ) → step limit r s ≡ Some t → step more r s ≡ Some t
step_more limit more l Opening [] t e = e
step_more limit more l Opening (zero ∷ s) t e = e
step_more limit more l Opening (suc p ∷ s) t e =
    let k = taken limit p s t e in opens_up more p s (omega (arith, k.0)) ∙ sym k.1
step_more limit more l Closing [] t e = e
step_more limit more l Closing (p ∷ []) t e = e
step_more limit more l Closing (zero ∷ (q ∷ s)) t e = e
step_more limit more l Closing (suc p ∷ (q ∷ s)) t e = e
step_more limit more l (Doing n) [] t e = e
step_more limit more l (Doing n) (p ∷ []) t e = e
step_more limit more l (Doing n) (zero ∷ (q ∷ s)) t e = e
step_more limit more l (Doing n) (suc p ∷ (q ∷ s)) t e = e

-- the stack's height goes with the blocks opened and closed, and it is nothing empty
pub record Grows (r : Role) (s t : List ℕ) : Type 0 where
  pub height : length s + opens r ≡ length t + closes r
  pub top : ℕ
  pub below : List ℕ
  pub is : t ≡ top ∷ below

pub step_grows : (limit : ℕ) (r : Role) (s t : List ℕ) → step limit r s ≡ Some t → Grows r s t
step_grows limit Opening [] t e = nothing e
step_grows limit Opening (zero ∷ s) t e = nothing e
step_grows limit Opening (suc p ∷ s) t e =
    let k = (taken limit p s t e).1 in let q : t ≡ 0 ∷ p ∷ s = cc in
    record { height = omega (arith, ap length q); top = 0; below = p ∷ s; is = q }
step_grows limit Closing [] t e = nothing e
step_grows limit Closing (p ∷ []) t e = nothing e
step_grows limit Closing (zero ∷ (q ∷ s)) t e = let k : t ≡ q ∷ s = cc in record { height = omega (arith, ap length k); top = q; below = s; is = k }
step_grows limit Closing (suc p ∷ (q ∷ s)) t e = nothing e
step_grows limit (Doing n) [] t e = nothing e
step_grows limit (Doing n) (p ∷ []) t e = nothing e
step_grows limit (Doing n) (zero ∷ (q ∷ s)) t e = let k : t ≡ n ∷ q ∷ s = cc in record { height = omega (arith, ap length k); top = n; below = q ∷ s; is = k }
step_grows limit (Doing n) (suc p ∷ (q ∷ s)) t e = nothing e

-- a record that is not taken is nothing taken, or opens one block too many
pub refused : (limit : ℕ) (r : Role) (s : List ℕ) → step limit r s ≡ None →
    ((more : ℕ) → step more r s ≡ None) ⊎ ((r ≡ Opening) × (limit < length s))
refused limit Opening [] e = inl (λ m. refl)
refused limit Opening (zero ∷ s) e = inl (λ m. refl)
refused limit Opening (suc p ∷ s) e =
    ⊎_elim
    (λ (b : ltb (length s) limit ≡ true). nothing (sym (subst (λ c. cond c (Some (0 ∷ p ∷ s)) None ≡ None) b e)))
    (λ (b : ltb (length s) limit ≡ false). inr (refl, omega (arith, ltb-false _ _ b)))
    (cases_Bool (ltb (length s) limit))
refused limit Closing [] e = inl (λ m. refl)
refused limit Closing (p ∷ []) e = inl (λ m. refl)
refused limit Closing (zero ∷ (q ∷ s)) e = nothing (sym e)
refused limit Closing (suc p ∷ (q ∷ s)) e = inl (λ m. refl)
refused limit (Doing n) [] e = inl (λ m. refl)
refused limit (Doing n) (p ∷ []) e = inl (λ m. refl)
refused limit (Doing n) (zero ∷ (q ∷ s)) e = nothing (sym e)
refused limit (Doing n) (suc p ∷ (q ∷ s)) e = inl (λ m. refl)

-- ---- runs

-- a run that comes through took its first part
pub first_part : (limit : ℕ) (o : Option (List ℕ)) (xs ys : List Node) (t : List ℕ) → run limit o (xs ++ ys) ≡ Some t →
    (s : List ℕ) × (run limit o xs ≡ Some s)
first_part limit o xs ys t e = by (run limit o xs) (sym (run_append limit o xs ys) ∙ e)
  where
    by : (m : Option (List ℕ)) → run limit m ys ≡ Some t → (s : List ℕ) × (m ≡ Some s)
    by None f = fails limit ys t f
    by (Some s) f = (s, refl)

run_more : (limit more : ℕ) → limit ≤ more → (o : Option (List ℕ)) (es : List Node) (t : List ℕ) → run limit o es ≡ Some t → run more o es ≡ Some t
run_more limit more l o [] t e = e
run_more limit more l None (x ∷ es) t e = fails limit es t e
run_more limit more l (Some s) (x ∷ es) t e =
    let k = first_part limit (Some s) (x ∷ []) es t e in
    ap (λ m. run more m es) (step_more limit more l (role_given_to x) s k.0 k.1)
    ∙ run_more limit more l (Some k.0) es t (ap (λ m. run limit m es) (sym k.1) ∙ e)

pub agree : (a b : ℕ) (o : Option (List ℕ)) (es : List Node) (s t : List ℕ) → run a o es ≡ Some s → run b o es ≡ Some t → s ≡ t
agree a b o es s t p q =
    let x = run_more a (a + b) (omega arith) o es s p in let y = run_more b (a + b) (omega arith) o es t q in cc

pub height : (limit : ℕ) (s : List ℕ) (es : List Node) (t : List ℕ) → run limit (Some s) es ≡ Some t → length s + opened es ≡ length t + closed es
height limit s [] t e = let k : s ≡ t = cc in omega (arith, ap length k)
height limit s (x ∷ es) t e =
    let k = first_part limit (Some s) (x ∷ []) es t e in
    let g = (step_grows limit (role_given_to x) s k.0 k.1).height in
    let r = height limit k.0 es t (ap (λ m. run limit m es) (sym k.1) ∙ e) in
    omega arith

-- ---- a continuation for any stack

open_e : Node
open_e = record { kind = 23; words = []; operands = []; span = record { start = 0; end = 0 } }

close_e : Node
close_e = record { kind = 24; words = []; operands = []; span = record { start = 0; end = 0 } }

pairs : ℕ → List Node
pairs zero = []
pairs (suc p) = open_e ∷ close_e ∷ pairs p

finish : ℕ → List ℕ → List Node
finish p [] = pairs p
finish p (q ∷ s) = pairs p ++ (close_e ∷ finish q s)

run_pairs : (limit p : ℕ) (s : List ℕ) (rest : List Node) → length s < limit → run limit (Some (p ∷ s)) (pairs p ++ rest) ≡ run limit (Some (0 ∷ s)) rest
unfolding pairs open_e close_e
run_pairs limit zero s rest l = refl
run_pairs limit (suc p) s rest l =
    ap (λ o. run limit o (close_e ∷ (pairs p ++ rest))) (opens_up limit p s l) ∙ run_pairs limit p s rest l

run_finish : (limit p : ℕ) (s : List ℕ) → length s < limit → run limit (Some (p ∷ s)) (finish p s) ≡ Some (0 ∷ [])
unfolding finish close_e
run_finish limit p [] l = ap (run limit (Some (p ∷ []))) (sym (append-nil (pairs p))) ∙ run_pairs limit p [] [] l
run_finish limit p (q ∷ s) l = run_pairs limit p (q ∷ s) (close_e ∷ finish q s) l ∙ run_finish limit q s (omega arith)

pub viable : (limit p : ℕ) (s : List ℕ) (es : List Node) → run limit (Some (1 ∷ [])) es ≡ Some (p ∷ s) → Viable es
viable limit p s es e =
    let big = suc (limit + length s) in
    let f = run_more limit (suc (limit + length s)) (omega arith) (Some (1 ∷ [])) es (p ∷ s) e in
    record {
      rest = finish p s;
      depth = suc (limit + length s);
      whole = is_one_block (limit + length s) (es ++ finish p s)
          (run_append (suc (limit + length s)) (Some (1 ∷ [])) es (finish p s) ∙ ap (λ m. run (suc (limit + length s)) m (finish p s)) f
          ∙ run_finish (suc (limit + length s)) p s (omega arith));
    }
