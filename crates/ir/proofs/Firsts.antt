-- The first refusal that applies, from the first place of each sort.
use Rattle.std.proofs.Common.{◌≡◌, ℕ, ◌<◌, ◌⊎◌, [], ◌∷◌, Some, None, Ok, Err, Result, MatchResult, inl, inr, arith, lit<}
use Rattle.places.specs.declared.Place.{Place}
use Rattle.places.specs.First.{At, Least, Before, Clean, First, Checked}
use Rattle.refusals.specs.declared.Refusal.{Refusal}
use Rattle.refusals.specs.declared.Refusal.TheVariants.{MalformedSettings, RepeatedKey, Misshapen, OutOfRange, NotOneBlock, NotFound, Nameless, MissingValue, SrcNeedsToBeFinite, DstRangeTooSmall, UnsupportedScalar, InitNotMapped, ConstantEvaluatorError, RuntimeExpr, NegativeWorkgroupSize, NegativeMeshOutputMax, Full}
use Rattle.refusals.specs.Codes.{place_of, Less, Earlier, FirstOf, Faulty}

-- values of one number in order
less_one : (x y : ℕ) → Less (x ∷ []) (y ∷ []) → x < y
less_one x y (inl l) = l
less_one x y (inr e) = absurd e.1

less_place : (q p : Place) → Less (place_of q) (place_of p) → Before q p
less_place q p (inl l) = inl l
less_place q p (inr e) = inr (e.0, less_one q.index p.index e.1)

later : {a b : ℕ} {P Q : Type 0} → b < a → (a < b) ⊎ ((a ≡ b) × P) → Q
later l (inl m) = absurd (omega arith)
later l (inr e) = let s = e.0 in absurd (omega arith)

same : {a : ℕ} {P : Type 0} → (a < a) ⊎ ((a ≡ a) × P) → P
same (inl m) = absurd (omega arith)
same (inr e) = e.1

module _ (shape range : ℕ → ℕ → Type 0) (blocks names : ℕ → Type 0) where
  abbrev Applies : Refusal → Type 0
  Applies = Faulty shape range blocks names

  -- what applies is of one of the four sorts
  by_sort : (P : Refusal → Type 0) → ((p : Place) → At shape p → P (Misshapen p)) → ((p : Place) → At range p → P (OutOfRange p)) →
      ((k : ℕ) → blocks k → P (NotOneBlock k)) → ((k : ℕ) → names k → P (Nameless k)) → (r : Refusal) → Applies r → P r
  by_sort P s t b n (Misshapen p) h = s p h
  by_sort P s t b n (OutOfRange p) h = t p h
  by_sort P s t b n (NotOneBlock k) h = b k h
  by_sort P s t b n (Nameless k) h = n k h
  by_sort P s t b n MalformedSettings h = absurd h
  by_sort P s t b n (RepeatedKey x) h = absurd h
  by_sort P s t b n (NotFound x) h = absurd h
  by_sort P s t b n (MissingValue x) h = absurd h
  by_sort P s t b n (SrcNeedsToBeFinite x) h = absurd h
  by_sort P s t b n (DstRangeTooSmall x) h = absurd h
  by_sort P s t b n (UnsupportedScalar x) h = absurd h
  by_sort P s t b n (InitNotMapped x) h = absurd h
  by_sort P s t b n (ConstantEvaluatorError x y z) h = absurd h
  by_sort P s t b n (RuntimeExpr x) h = absurd h
  by_sort P s t b n (NegativeWorkgroupSize x) h = absurd h
  by_sort P s t b n (NegativeMeshOutputMax x) h = absurd h
  by_sort P s t b n (Full x) h = absurd h

  pub first_shape : (p : Place) → First shape p → FirstOf Applies (Err (Misshapen p))
  first_shape p f = (
    f.0,
    λ r l h.
        by_sort (λ r. Earlier r (Misshapen p) → ⊥) (λ q h l. f.1 q (less_place q p (same l)) h) (λ q h l. later (lit< tt) l)
        (λ k h l. later (lit< tt) l) (λ k h l. later (lit< tt) l) r h l,
  )

  pub first_range : (p : Place) → Clean shape → First range p → FirstOf Applies (Err (OutOfRange p))
  first_range p c f = (
    f.0,
    λ r l h.
        by_sort (λ r. Earlier r (OutOfRange p) → ⊥) (λ q h l. c q h) (λ q h l. f.1 q (less_place q p (same l)) h)
        (λ k h l. later (lit< tt) l) (λ k h l. later (lit< tt) l) r h l,
  )

  -- what the check of the ranges refuses, with its place made a refusal
  pub range_refused : (r : Result (Unit {0}) Place) (s : Result (Unit {0}) Refusal) (e : Refusal) → Clean shape → Checked range r →
      MatchResult r (λ x. s ≡ Ok x) (λ p. s ≡ Err (OutOfRange p)) → s ≡ Err e → FirstOf Applies s
  range_refused (Ok x) s e c h m w = cc
  range_refused (Err p) s e c h m w = rw m (first_range p c h)

  pub first_block : (n : ℕ) → Clean shape → Clean range → Least blocks (Some n) → FirstOf Applies (Err (NotOneBlock n))
  first_block n c d f = (
    f.0,
    λ r l h.
        by_sort (λ r. Earlier r (NotOneBlock n) → ⊥) (λ q h l. c q h) (λ q h l. d q h)
        (λ k h l. f.1 k (less_one k n (same l)) h) (λ k h l. later (lit< tt) l) r h l,
  )

  pub first_name : (n : ℕ) → Clean shape → Clean range → Least blocks None → Least names (Some n) → FirstOf Applies (Err (Nameless n))
  first_name n c d b f = (
    f.0,
    λ r l h.
        by_sort (λ r. Earlier r (Nameless n) → ⊥) (λ q h l. c q h) (λ q h l. d q h)
        (λ k h l. b k h) (λ k h l. f.1 k (less_one k n (same l)) h) r h l,
  )

  pub none_applies : Clean shape → Clean range → Least blocks None → Least names None → (r : Refusal) → Applies r → ⊥
  none_applies c d b n = by_sort (λ _. ⊥) c d b n
