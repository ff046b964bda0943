-- Where the records break, told by the stack.
use Rattle.std.proofs.Common.{◌≡◌, ℕ, zero, suc, ◌+◌, ◌<◌, ◌≤◌, List, [], ◌∷◌, ◌++◌, length, take, drop, Some, None, Option, sym, refl, ap, ◌∙◌, subst, inl, inr, ⊎_elim, arith}
use Rattle.std.specs.List.{slice_get}
use Rattle.std.proofs.lemmas.List.{take_all}
use Rattle.std.proofs.lemmas.Option.{slice_get_within}
use Rattle.arena.specs.Nodes.{Node}
use Rattle.blocks.specs.declared.Role.TheVariants.{Opening}
use Rattle.blocks.specs.Blocks.{role_given_to, OneBlock, Viable, opened, closed, Fault, Blocked}
use Rattle.blocks.specs.Stack.{step, stepped, run}
use Rattle.blocks.proofs.Parts.{nothing, split, front, one_more}
use Rattle.blocks.proofs.Trees.{run_append, is_one_block, runs_through}
use Rattle.blocks.proofs.Ways.{taken, step_grows, refused, first_part, agree, height, viable}

abbrev pub start : Option (List ℕ)
start = Some (1 ∷ [])

-- the record after a run that is known
next : (limit : ℕ) (es : List Node) (e : Node) (s : List ℕ) → run limit start es ≡ Some s → run limit start (es ++ (e ∷ [])) ≡ step limit (role_given_to e) s
next limit es e s r = run_append limit start es (e ∷ []) ∙ ap (stepped limit e) r

-- the last record of a run that comes through
last : (limit : ℕ) (es : List Node) (e : Node) (rest : List Node) (t : List ℕ) → run limit start ((es ++ (e ∷ [])) ++ rest) ≡ Some t →
    (s : List ℕ) × (u : List ℕ) × (run limit start es ≡ Some s) × (step limit (role_given_to e) s ≡ Some u) × (run limit start (es ++ (e ∷ [])) ≡ Some u)
last limit es e rest t r =
    let a = first_part limit start (es ++ (e ∷ [])) rest t r in
    let b = first_part limit start es (e ∷ []) a.0 a.1 in
    (b.0, a.0, b.1, sym (next limit es e b.0 b.1) ∙ a.1, a.1)

pub broken : (rs : List Node) (k : ℕ) (e : Node) (s : List ℕ) → slice_get rs k ≡ Some e → run 64 start (take k rs) ≡ Some s →
    step 64 (role_given_to e) s ≡ None → Fault rs k × (OneBlock rs 64 → ⊥)
broken rs k e s n r f =
    let cannot : (d : ℕ) → step d (role_given_to e) s ≡ None → (rest : List Node) → OneBlock ((take k rs ++ (e ∷ [])) ++ rest) d → ⊥ =
    λ d g rest o.
    let a = last d (take k rs) e rest _ (runs_through d _ o) in
    let same = agree 64 d start (take k rs) s a.0 r a.2 in
    nothing (sym g ∙ ap (step d (role_given_to e)) same ∙ a.3) in (
      inl (
        e,
        n,
        ⊎_elim
            (λ (all : (more : ℕ) → step more (role_given_to e) s ≡ None). inl (λ (v : Viable (take k rs ++ (e ∷ []))). cannot v.depth (all v.depth) v.rest v.whole))
            (λ (deep : (role_given_to e ≡ Opening) × (64 < length s)). inr (deep.0, omega (arith, deep.1, height 64 (1 ∷ []) (take k rs) s r)))
            (refused 64 (role_given_to e) s f),
      ),
      λ o. cannot 64 f (drop (suc k) rs) (subst (λ t. OneBlock t 64) (sym (split rs k e n)) o),
    )

low : (limit : ℕ) (s u : List ℕ) → step limit Opening s ≡ Some u → length s ≤ limit
low limit [] u e = nothing e
low limit (zero ∷ s) u e = nothing e
low limit (suc p ∷ s) u e = omega (arith, (taken limit p s u e).0)

-- a run that comes through has no fault
pub clean : (rs : List Node) (i : ℕ) (s : List ℕ) → i ≤ length rs → run 64 start (take i rs) ≡ Some s → (j : ℕ) → j < i → Fault rs j → ⊥
clean rs i s l r j m (inr q) = omega (arith, q.0)
clean rs i s l r j m (inl b) =
    let e = b.0 in
    let f = front rs i j b.0 m b.1 in
    let a = last 64 (take j rs) b.0 f.0 s (sym (ap (run 64 start) f.1) ∙ r) in
    let g = step_grows 64 (role_given_to b.0) a.0 a.1 a.3 in
    ⊎_elim
    (λ (v : Viable (take j rs ++ (b.0 ∷ [])) → ⊥). v (viable 64 g.top g.below (take j rs ++ (b.0 ∷ [])) (a.4 ∙ ap Some g.is)))
    (λ (d : (role_given_to b.0 ≡ Opening) × (64 + closed (take j rs) ≤ opened (take j rs))).
    omega (arith, d.1, height 64 (1 ∷ []) (take j rs) a.0 a.2, low 64 a.0 a.1 (subst (λ x. step 64 x a.0 ≡ Some a.1) d.0 a.3)))
    b.2

-- ---- what the check answers

-- records that are one block have no fault
faultless : (rs : List Node) (k : ℕ) (s : List ℕ) → run 64 start (take (length rs) rs) ≡ Some s → OneBlock rs 64 → Fault rs k → ⊥
faultless rs k s r o (inr q) = q.1 64 o
faultless rs k s r o (inl b) = clean rs (length rs) s (omega arith) r k (slice_get_within rs k b.0 b.1) (inl b)

pub stopped : (rs : List Node) (j k : ℕ) (e : Node) (s : List ℕ) → j ≤ length rs → slice_get rs j ≡ Some e → run 64 start (take j rs) ≡ Some s →
    step 64 (role_given_to e) s ≡ None → j ≡ k → Blocked rs (Some k)
stopped rs j k e s l n r f same =
    let b = broken rs j e s n r f in
    let at : Blocked rs (Some j) = record { first = (b.0, clean rs j s l r); accepts = λ q. nothing (sym q); only = λ o. absurd (b.1 o) } in
    subst (λ i. Blocked rs (Some i)) same at

pub ended : (rs : List Node) (k : ℕ) (s : List ℕ) → k ≡ length rs → run 64 start rs ≡ Some s → (s ≡ 0 ∷ [] → ⊥) → Blocked rs (Some k)
ended rs k s l r ne =
    let cannot : (d : ℕ) → OneBlock rs d → ⊥ = λ d o. ne (agree 64 d start rs s (0 ∷ []) r (runs_through d rs o)) in
    let all : run 64 start (take k rs) ≡ Some s = ap (run 64 start) (take_all k rs (omega arith)) ∙ r in
    record { first = (inr (l, cannot), clean rs k s (omega arith) all); accepts = λ q. nothing (sym q); only = λ o. absurd (cannot 64 o) }

pub accepted : (rs : List Node) → run 64 start rs ≡ Some (0 ∷ []) → Blocked rs None
accepted rs r =
    let o = is_one_block 63 rs r in
    let all : run 64 start (take (length rs) rs) ≡ Some (0 ∷ []) = ap (run 64 start) (take_all (length rs) rs (omega arith)) ∙ r in
    record { first = λ k. faultless rs k (0 ∷ []) all o; accepts = λ q. o; only = λ o. refl }

pub goes_on : (rs : List Node) (k : ℕ) (e : Node) (s t : List ℕ) → slice_get rs k ≡ Some e → run 64 start (take k rs) ≡ Some s →
    step 64 (role_given_to e) s ≡ Some t → run 64 start (take (k + 1) rs) ≡ Some t
goes_on rs k e s t n r f = ap (run 64 start) (one_more rs k e n) ∙ next 64 (take k rs) e s r ∙ f
