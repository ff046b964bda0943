-- The demand of one entry more.
use Rattle.std.proofs.Common.{◌≡◌, ℕ, ◌+◌, ◌<◌, ◌≤◌, min, Bool, true, false, cond, ◌&&◌, eqb, leb, ◌⊎◌, List, length, get_or, Some, None, Option, refl, subst, inl, inr, ⊎_elim, arith}
use Rattle.std.specs.List.{slice_get}
use Rattle.std.proofs.lemmas.Option.{slice_get-get_or, slice_get_within, none-some}
use Rattle.std.proofs.lemmas.Bool.{cases_lt, leb-true, le-leb}
use Rattle.places.specs.First.{Least, Holds, lesser_of}
use Rattle.places.proofs.Kit.{SomeBelow, least_iff}
use Rattle.arena.specs.declared.entry.Entry.{Entry}
use Rattle.operands.specs.declared.Demand.{Demand}
use Rattle.operands.specs.declared.Demand.TheVariants.{Present, BelowOwn, Below}
use Rattle.operands.specs.Faults.{absent}
use Rattle.operands.specs.Walk.{asked, failing, Covers, InFront, Front, Reached, Fails, Looked}

out_before : (b : Bool) (i j h : ℕ) → i ≤ j → cond b false (leb j h) ≡ true → cond b false (leb i h) ≡ true
out_before true i j h l e = e
out_before false i j h l e = le-leb i h (omega (arith, leb-true j h e))

-- an operand that fails for an entry fails for every earlier one
pub fails_before : (d : Demand) (i j h : ℕ) → i ≤ j → failing d j h ≡ true → failing d i h ≡ true
fails_before (Present sort) i j h l e = e
fails_before BelowOwn i j h l e = out_before (true && eqb h absent) i j h l e
fails_before (Below bound) i j h l e = e

-- a second search that passes over what the first has found
pub least_join : (P Q : ℕ → Type 0) (a b : Option ℕ) → Least P a → ((k : ℕ) → b ≡ Some k → Q k) →
    ((k : ℕ) → Q k → P k ⊎ ((f : ℕ) × (b ≡ Some f) × (f ≤ k))) → Least (λ k. P k ⊎ Q k) (lesser_of a b)
least_join P Q None None p found missed =
    λ k. ⊎_elim (p k) (λ q. ⊎_elim (p k) (λ (m : (f : ℕ) × (None ≡ Some f) × (f ≤ k)). absurd (none-some _ m.1)) (missed k q))
least_join P Q None (Some y) p found missed = (
  inr (found y refl),
  λ j l. ⊎_elim (p j) (λ q. ⊎_elim (p j) (λ (m : (f : ℕ) × (Some y ≡ Some f) × (f ≤ j)). let e = m.1 in let f = m.0 in let s : y ≡ f = cc in absurd (omega (arith, m.2))) (missed j q)),
)
least_join P Q (Some x) None p found missed = (
  inl p.0,
  λ j l. ⊎_elim (p.1 j l) (λ q. ⊎_elim (p.1 j l) (λ (m : (f : ℕ) × (None ≡ Some f) × (f ≤ j)). absurd (none-some _ m.1)) (missed j q)),
)
least_join P Q (Some x) (Some y) p found missed =
    let here : P (min x y) ⊎ Q (min x y) =
    ⊎_elim (λ (l : x < y). let e : x ≡ min x y = omega arith in inl (subst P e p.0))
    (λ (l : y ≤ x). let e : y ≡ min x y = omega arith in inr (subst Q e (found y refl))) (cases_lt x y) in (
      here,
      λ j l. ⊎_elim (p.1 j (omega arith)) (λ q. ⊎_elim (p.1 j (omega arith)) (λ (m : (f : ℕ) × (Some y ≡ Some f) × (f ≤ j)). let e = m.1 in let f = m.0 in let s : y ≡ f = cc in absurd (omega (arith, m.2))) (missed j q)),
    )

module _ (d : Demand) (es : List Entry) (os : List ℕ) where
  -- what the entries below n make the demand of
  abbrev pub Covered : ℕ → ℕ → Type 0
  Covered n q = SomeBelow n (λ j k. Holds (λ _ e. Covers d e k) es j) q

  -- what fails for the entries below n
  abbrev pub Failing : ℕ → ℕ → Type 0
  Failing n = SomeBelow n (λ j k. Holds (λ i e. InFront d os i e k) es j)

  -- between two turns of the loop: only what is covered is in reach, and the least that fails is found
  pub record Walked (n : ℕ) (reach : List ℕ) (r : Option ℕ) : Type 0 where
    pub covered : (q : ℕ) → Reached reach q → Covered n q
    pub least : Least (Failing n) r

  pub walked_start : (reach : List ℕ) → ((q : ℕ) → Reached reach q → ⊥) → Walked 0 reach None
  walked_start reach none = record { covered = λ q h. absurd (none q h); least = λ k s. absurd (omega (arith, s.1)) }

  pub walked_end : (n : ℕ) (reach : List ℕ) (r : Option ℕ) → length es ≤ n → Walked n reach r → Least (Front d es os) r
  walked_end n reach r l w =
      least_iff (Failing n) (Front d es os) (λ k s. (s.0, s.2)) (λ k f. (f.0, omega (arith, slice_get_within es f.0 _ f.1.1), f.1)) r w.least

  module _ (i : ℕ) (e : Entry) (at : slice_get es i ≡ Some e) (to : ℕ) (ends : to ≡ min (e.run.at + asked d e) (length os))
      (before after : List ℕ) (a b : Option ℕ) (w : Walked i before a) (s : Looked d i e.run.at to os before after b) where
    -- the entry's own places that fail
    abbrev Own : ℕ → Type 0
    Own k = InFront d os i e k

    own_found : (k : ℕ) → b ≡ Some k → Own k
    own_found k p =
        let f = s.found k p in
        let low = f.0 in
        let high = f.1 in
        ((low, omega arith), (get_or os k 0, slice_get-get_or os k 0 (omega arith), f.2))

    own_missed : (k : ℕ) → Own k → Failing i k ⊎ ((f : ℕ) × (b ≡ Some f) × (f ≤ k))
    own_missed k o =
        let low = o.0.0 in
        let high = o.0.1 in
        let h = o.1.0 in
        let there = o.1.1 in
        let inside = slice_get_within os k h there in
        let read = slice_get-get_or os k 0 inside in
        let same : h ≡ get_or os k 0 = cc in
        let fails : Fails d i os k = subst (λ x. failing d i x ≡ true) same o.1.2 in
        ⊎_elim
        (λ (v : Reached before k).
        let c = w.covered k v in
        let x = c.2 in
        inl (c.0, c.1, (x.0, x.1, (x.2, (h, there, fails_before d c.0 i h (omega (arith, c.1)) o.1.2)))))
        (λ v. inr v)
        (s.missed k low (omega arith) fails)

    only : (P : ℕ → Entry → Type 0) → Holds P es i → P i e
    only P h = let p = h.1 in let y = h.0 in let q : y ≡ e = cc in subst (P i) q h.2

    grown_least : Least (Failing (i + 1)) (lesser_of a b)
    grown_least =
        least_iff (λ k. Failing i k ⊎ Own k) (Failing (i + 1))
        (λ k. ⊎_elim (λ v. (v.0, omega (arith, v.1), v.2)) (λ o. (i, omega arith, (e, at, o))))
        (λ k v. let l = v.1 in
        ⊎_elim (λ (m : v.0 < i). inl (v.0, m, v.2))
        (λ (m : i ≤ v.0). let q : v.0 ≡ i = omega arith in
        inr (only (λ j x. InFront d os j x k) (subst (λ j. Holds (λ t x. InFront d os t x k) es j) q v.2))) (cases_lt v.0 i))
        (lesser_of a b) (least_join (Failing i) Own a b w.least own_found own_missed)

    grown_covered : (q : ℕ) → Reached after q → Covered (i + 1) q
    grown_covered q h =
        ⊎_elim (λ (v : Reached before q). let c = w.covered q v in (c.0, omega (arith, c.1), c.2))
        (λ (v : (e.run.at ≤ q) × (q < to)). let high = v.1 in (i, omega arith, (e, at, (v.0, omega arith))))
        (s.reaches q h)

    pub walked_more : (r : Option ℕ) → r ≡ lesser_of a b → Walked (i + 1) after r
    walked_more r p = record { covered = grown_covered; least = rw p grown_least }
