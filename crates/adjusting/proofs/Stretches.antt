-- The longest stretches of a list of numbers: the rule's function gives them, and nothing else is such.
use Rattle.std.proofs.Common.{◌≡◌, ◌==◌, ℕ, zero, suc, ◌+◌, ◌-◌, ◌<◌, ◌≤◌, Bool, true, false, cond, List, [], ◌∷◌, ◌++◌, sym, refl, ap, ◌∙◌, append_assoc, arith}
use Rattle.std.specs.List.{flat_map, range_with_len}
use Rattle.std.proofs.lemmas.Bool.{eqb-true, eqb-false, eq-eqb, ne_eqb}
use Rattle.arena.specs.declared.range.Range.{Range}
use Rattle.adjusting.specs.Emits.{range, numbers, running, stretches}
use Rattle.adjusting.specs.Laws.{NoneEmpty, NotAt, NoneMeet, Stretched, LongestStretches}

numbers_more : (f n : ℕ) → range_with_len f (n + 1) ≡ range_with_len f n ++ (f + n) ∷ []
numbers_more f zero = let at : f ≡ f + zero = omega arith in ap (λ (x : ℕ). x ∷ []) at
numbers_more f (suc n) =
    let up : suc n + 1 ≡ suc (n + 1) = omega arith in
    let shift : range_with_len f (suc n + 1) ≡ f ∷ range_with_len (f + 1) (n + 1) = ap (range_with_len f) up in
    let more = numbers_more (f + 1) n in
    let at : (f + 1) + n ≡ f + suc n = omega arith in
    cc

-- one more at the end of a stretch
range_more : (f e : ℕ) → f ≤ e → numbers (range f (e + 1)) ≡ numbers (range f e) ++ e ∷ []
range_more f e l =
    let a : (e + 1) - f ≡ (e - f) + 1 = omega arith in
    let b : f + (e - f) ≡ e = omega arith in
    ap (range_with_len f) a ∙ numbers_more f (e - f) ∙ ap (λ (x : ℕ). range_with_len f (e - f) ++ x ∷ []) b

range_one : (h : ℕ) → numbers (range h (h + 1)) ≡ h ∷ []
range_one h = ap (range_with_len h) (let p : (h + 1) - h ≡ suc zero = omega arith in p)

range_cons : (f e : ℕ) → f < e → numbers (range f e) ≡ f ∷ numbers (range (f + 1) e)
range_cons f e l = ap (range_with_len f) (let p : e - f ≡ suc (e - (f + 1)) = omega arith in p)

running_joins : (f e : ℕ) (hs : List ℕ) → f < e → flat_map numbers (running (range f e) hs) ≡ numbers (range f e) ++ hs
running_joins f e [] l = refl
running_joins f e (h ∷ hs) l = go (λ g k m. running_joins g k hs m) (h == e) refl
  where
    go : ((g k : ℕ) → g < k → flat_map numbers (running (range g k) hs) ≡ numbers (range g k) ++ hs) → (b : Bool) → (h == e) ≡ b →
        flat_map numbers (cond b (running (range f (h + 1)) hs) (range f e ∷ running (range h (h + 1)) hs)) ≡ numbers (range f e) ++ (h ∷ hs)
    go joins true t =
        let same : h ≡ e = eqb-true h e t in
        joins f (h + 1) (omega arith) ∙ ap (λ (x : ℕ). numbers (range f (x + 1)) ++ hs) same
        ∙ ap (λ (l : List ℕ). l ++ hs) (range_more f e (omega arith)) ∙ append_assoc (numbers (range f e)) (e ∷ []) hs
        ∙ ap (λ (x : ℕ). numbers (range f e) ++ (x ∷ hs)) (sym same)
    go joins false t = ap (λ (l : List ℕ). numbers (range f e) ++ l) (joins h (h + 1) (omega arith) ∙ ap (λ (l : List ℕ). l ++ hs) (range_one h))

running_full : (f e : ℕ) (hs : List ℕ) → f < e → NoneEmpty (running (range f e) hs)
running_full f e [] l = (l, tt)
running_full f e (h ∷ hs) l = go (λ g k m. running_full g k hs m) (h == e) refl
  where
    go : ((g k : ℕ) → g < k → NoneEmpty (running (range g k) hs)) → (b : Bool) → (h == e) ≡ b →
        NoneEmpty (cond b (running (range f (h + 1)) hs) (range f e ∷ running (range h (h + 1)) hs))
    go full true t = let same : h ≡ e = eqb-true h e t in full f (h + 1) (omega arith)
    go full false t = (l, full h (h + 1) (omega arith))

-- the first of them begins where the open one does
running_first : (f e k : ℕ) (hs : List ℕ) → (f ≡ k → ⊥) → NotAt k (running (range f e) hs)
running_first f e k [] n = n
running_first f e k (h ∷ hs) n = go (h == e) (running_first f (h + 1) k hs n)
  where
    go : (b : Bool) → NotAt k (running (range f (h + 1)) hs) → NotAt k (cond b (running (range f (h + 1)) hs) (range f e ∷ running (range h (h + 1)) hs))
    go true on = on
    go false on = n

running_apart : (f e : ℕ) (hs : List ℕ) → NoneMeet (running (range f e) hs)
running_apart f e [] = (tt, tt)
running_apart f e (h ∷ hs) = go (h == e) refl (running_apart f (h + 1) hs) (running_apart h (h + 1) hs)
  where
    go : (b : Bool) → (h == e) ≡ b → NoneMeet (running (range f (h + 1)) hs) → NoneMeet (running (range h (h + 1)) hs) →
        NoneMeet (cond b (running (range f (h + 1)) hs) (range f e ∷ running (range h (h + 1)) hs))
    go true t on off = on
    go false t on off = (running_first h (h + 1) e hs (eqb-false h e t), off)

pub stretched : (hs : List ℕ) → Stretched hs (stretches hs)
stretched [] = record { joins = refl; none_empty = tt; none_meet = tt }
stretched (h ∷ hs) =
    record {
      joins = running_joins h (h + 1) hs (omega arith) ∙ ap (λ (l : List ℕ). l ++ hs) (range_one h);
      none_empty = running_full h (h + 1) hs (omega arith);
      none_meet = running_apart h (h + 1) hs;
    }

-- ---- one solution

running_on : (f e k : ℕ) (xs : List ℕ) → running (range f e) (range_with_len e k ++ xs) ≡ running (range f (e + k)) xs
running_on f e zero xs = ap (λ (x : ℕ). running (range f x) xs) (let p : e ≡ e + zero = omega arith in p)
running_on f e (suc k) xs =
    ap (λ (b : Bool). cond b (running (range f (e + 1)) (range_with_len (e + 1) k ++ xs)) (range f e ∷ running (range e (e + 1)) (range_with_len (e + 1) k ++ xs))) (eq-eqb e e refl)
    ∙ running_on f (e + 1) k xs ∙ ap (λ (x : ℕ). running (range f x) xs) (let p : (e + 1) + k ≡ e + suc k = omega arith in p)

running_off : (f e : ℕ) (rs : List Range) → NoneEmpty rs → NotAt e rs → running (range f e) (flat_map numbers rs) ≡ range f e ∷ stretches (flat_map numbers rs)
running_off f e [] full off = refl
running_off f e (r ∷ rs) full off =
    let cons : numbers r ≡ r.first ∷ numbers (range (r.first + 1) r.end) = range_cons r.first r.end full.0 in
    let rest = numbers (range (r.first + 1) r.end) ++ flat_map numbers rs in
    let whole : numbers r ++ flat_map numbers rs ≡ r.first ∷ rest = ap (λ (l : List ℕ). l ++ flat_map numbers rs) cons in
    ap (running (range f e)) whole
    ∙ ap (λ (b : Bool). cond b (running (range f (r.first + 1)) rest) (range f e ∷ running (range r.first (r.first + 1)) rest)) (ne_eqb r.first e off)
    ∙ ap (λ (l : List ℕ). range f e ∷ stretches l) (sym whole)

again : (rs : List Range) → NoneEmpty rs → NoneMeet rs → rs ≡ stretches (flat_map numbers rs)
again [] full apart = refl
again (r ∷ rs) full apart =
    let f = r.first in
    let e = r.end in
    let l : f < e = full.0 in
    let cons : numbers r ≡ f ∷ numbers (range (f + 1) e) = range_cons f e l in
    let far : (f + 1) + (e - (f + 1)) ≡ e = omega arith in
    let start : stretches (numbers r ++ flat_map numbers rs) ≡ running (range f (f + 1)) (numbers (range (f + 1) e) ++ flat_map numbers rs) = ap (λ (l : List ℕ). stretches (l ++ flat_map numbers rs)) cons in
    let on : running (range f (f + 1)) (numbers (range (f + 1) e) ++ flat_map numbers rs) ≡ running r (flat_map numbers rs) =
    running_on f (f + 1) (e - (f + 1)) (flat_map numbers rs) ∙ ap (λ (x : ℕ). running (range f x) (flat_map numbers rs)) far in
    ap (λ (l : List Range). r ∷ l) (again rs full.1 apart.1) ∙ sym (start ∙ on ∙ running_off f e rs full.1 apart.0)

pub longest_stretches : LongestStretches
longest_stretches hs = (stretched hs, λ rs w. again rs w.none_empty w.none_meet ∙ ap stretches w.joins)
