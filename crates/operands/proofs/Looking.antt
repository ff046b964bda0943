-- One more place looked at.
use Rattle.std.proofs.Common.{◌≡◌, ℕ, ◌+◌, ◌<◌, ◌≤◌, min, max, Bool, true, false, cond, ◌&&◌, leb, ◌≢◌, ◌⊎◌, List, length, get_or, set, Some, None, Option, sym, refl, ap, ◌∙◌, subst, inl, inr, ⊎_elim, arith, get_or-set_other, get_or-set_same}
use Rattle.std.proofs.lemmas.Bool.{cases_lt, cases_eq, le-leb, and_parts, and_from, false≢true}
use Rattle.std.proofs.lemmas.Option.{none-some}
use Rattle.places.specs.First.{lesser_of}
use Rattle.operands.specs.declared.Demand.{Demand}
use Rattle.operands.specs.Walk.{failing, Fails, Reached, Looked}

-- between two turns of the loop, at the place k
pub record Looking (d : Demand) (i from to : ℕ) (os before after : List ℕ) (k : ℕ) (r : Option ℕ) : Type 0 where
  pub low : from ≤ k
  pub kept : (p : ℕ) → k ≤ p → get_or after p 0 ≡ get_or before p 0
  pub reaches : (q : ℕ) → Reached after q → Reached before q ⊎ ((from ≤ q) × (q < to))
  pub found : (f : ℕ) → r ≡ Some f → (from ≤ f) × (f < to) × (f < k) × Fails d i os f
  pub missed : (q : ℕ) → from ≤ q → q < k → q < to → Fails d i os q → Reached before q ⊎ ((f : ℕ) × (r ≡ Some f) × (f ≤ q))

pub looking_start : (d : Demand) (i from to : ℕ) (os before : List ℕ) → Looking d i from to os before before from None
looking_start d i from to os before =
    record {
      low = omega arith;
      kept = λ p l. refl;
      reaches = λ q h. inl h;
      found = λ f e. absurd (none-some f e);
      missed = λ q l m. absurd (omega arith);
    }

pub looking_end : (d : Demand) (i from to : ℕ) (os before after : List ℕ) (k : ℕ) (r : Option ℕ) → to ≤ k → Looking d i from to os before after k r →
    Looked d i from to os before after r
looking_end d i from to os before after k r l s =
    record {
      reaches = s.reaches;
      found = λ f e. ((s.found f e).0, (s.found f e).1, (s.found f e).3);
      missed = λ q m n. s.missed q m (omega arith) n;
    }

abbrev pub here : Bool → ℕ → Option ℕ
here b k = cond b (Some k) None

-- what was found, or the place itself
joined_found : (r : Option ℕ) (b : Bool) (k f : ℕ) → ((g : ℕ) → r ≡ Some g → g < k) → lesser_of r (here b k) ≡ Some f → (r ≡ Some f) ⊎ ((b ≡ true) × (f ≡ k))
joined_found None true k f l e = let s : f ≡ k = cc in inr (refl, s)
joined_found None false k f l e = absurd (none-some f e)
joined_found (Some g) true k f l e =
    let m = l g refl in let least : min g k ≡ f = cc in let same : g ≡ f = omega arith in inl (ap Some same)
joined_found (Some g) false k f l e = inl e

-- what was found before is still found, no later
joined_before : (r : Option ℕ) (b : Bool) (k f : ℕ) → r ≡ Some f → (g : ℕ) × (lesser_of r (here b k) ≡ Some g) × (g ≤ f)
joined_before None b k f e = absurd (none-some f e)
joined_before (Some x) true k f e = let s : x ≡ f = cc in (min x k, refl, omega arith)
joined_before (Some x) false k f e = let s : x ≡ f = cc in (x, refl, omega arith)

-- the place itself is found, or an earlier one
joined_here : (r : Option ℕ) (b : Bool) (k : ℕ) → b ≡ true → (g : ℕ) × (lesser_of r (here b k) ≡ Some g) × (g ≤ k)
joined_here None true k t = (k, refl, omega arith)
joined_here (Some x) true k t = (min x k, refl, omega arith)
joined_here r false k t = absurd (false≢true t)

module _ (d : Demand) (i from to : ℕ) (os before after : List ℕ) (k : ℕ) (r : Option ℕ) (s : Looking d i from to os before after k r) where
  abbrev reach : ℕ
  reach = get_or after k 0

  abbrev next : Option ℕ
  next = lesser_of r (here (leb reach k && failing d i (get_or os k 0)) k)

  in_reach : k < to → (q : ℕ) → k ≤ q → q < reach → Reached before q
  in_reach l q m n = (k, m, subst (λ t. q < t) (s.kept k (omega arith)) n)

  more_reaches : k < to → k < length after → (q : ℕ) → Reached (set after k (max reach to)) q → Reached before q ⊎ ((from ≤ q) × (q < to))
  more_reaches l b q h =
      ⊎_elim
      (λ (e : h.0 ≡ k).
      let up : q < max reach to = subst (λ t. q < t) (ap (λ p. get_or (set after k (max reach to)) p 0) e ∙ get_or-set_same after k (max reach to) 0 b) h.2 in
      let low = s.low in
      let above : k ≤ q = omega (arith, h.1) in
      ⊎_elim (λ (m : q < reach). inl (in_reach l q above m)) (λ (m : reach ≤ q). inr (omega arith, omega arith)) (cases_lt q reach))
      (λ (ne : h.0 ≢ k). s.reaches q (h.0, h.1, subst (λ t. q < t) (get_or-set_other after k h.0 (max reach to) 0 ne) h.2))
      (cases_eq h.0 k)

  more_missed : k < to → (q : ℕ) → from ≤ q → q < max reach (k + 1) → q < to → Fails d i os q →
      Reached before q ⊎ ((f : ℕ) × (next ≡ Some f) × (f ≤ q))
  more_missed l q m n t h =
      ⊎_elim
      (λ (u : q < k).
      ⊎_elim (λ v. inl v)
      (λ (v : (f : ℕ) × (r ≡ Some f) × (f ≤ q)). let j = joined_before r _ k v.0 v.1 in inr (j.0, j.1, omega (arith, j.2, v.2)))
      (s.missed q m u t h))
      (λ (u : k ≤ q).
      ⊎_elim (λ (v : q < reach). inl (in_reach l q u v))
      (λ (v : reach ≤ q).
      let e : q ≡ k = omega arith in
      let fails : failing d i (get_or os k 0) ≡ true = subst (λ p. Fails d i os p) e h in
      let low : leb reach k ≡ true = le-leb reach k (omega arith) in
      let j = joined_here r _ k (and_from _ _ low fails) in inr (j.0, j.1, omega (arith, j.2)))
      (cases_lt q reach))
      (cases_lt q k)

  more_found : k < to → (f : ℕ) → next ≡ Some f → (from ≤ f) × (f < to) × (f < max reach (k + 1)) × Fails d i os f
  more_found l f e =
      let low = s.low in
      ⊎_elim (λ (h : r ≡ Some f). let g = s.found f h in (g.0, g.1, omega (arith, g.2), g.3))
      (λ (h : ((leb reach k && failing d i (get_or os k 0)) ≡ true) × (f ≡ k)).
      let same = h.1 in
      (omega arith, omega arith, omega arith, subst (λ p. Fails d i os p) (sym same) ((and_parts _ _ h.0).1)))
      (joined_found r _ k f (λ g h. (s.found g h).2) e)

  pub looking_more : k < to → k < length after → Looking d i from to os before (set after k (max reach to)) (max reach (k + 1)) next
  looking_more l b =
      record {
        low = omega (arith, s.low);
        kept = λ p m. let ne : p ≢ k = omega arith in get_or-set_other after k p (max reach to) 0 ne ∙ s.kept p (omega arith);
        reaches = more_reaches l b;
        found = more_found l;
        missed = more_missed l;
      }

  -- the same, with what the program worked out
  pub looking_next : (m p : ℕ) (n fault : Option ℕ) → m ≡ max reach to → p ≡ max reach (k + 1) →
      fault ≡ here (leb reach k && failing d i (get_or os k 0)) k → n ≡ lesser_of r fault → k < to → k < length after →
      Looking d i from to os before (set after k m) p n
  looking_next m p n fault em ep ef en l b = rw em (rw ep (rw (en ∙ ap (lesser_of r) ef) (looking_more l b)))
