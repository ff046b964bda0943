-- The nearest pattern is one of the two that a number lies between. Assumes nothing.
use Rattle.std.proofs.Common.{◌≡◌, ℕ, suc, ◌-◌, ◌%◌, ◌<◌, ◌≤◌, sym, inl, inr, arith}
use Rattle.std.proofs.lemmas.Bool.{cases_lt}
use Rattle.std.specs.Int.{abs_diff}
use Rattle.rounding.specs.Formats.{Format, infinity, significand, magnitude}
use Rattle.rounding.specs.Nearest.{Nearest, NearestIsOne}
use Rattle.rounding.proofs.Patterns.{magnitude_lt, magnitude_le, even_pattern}

-- n is as near as can be to q, which stands for g, where the patterns below stand for at most lo and those above for at least hi
module _ (f : Format) (n a : ℕ) (below : a < infinity f) (low : magnitude f a ≤ n) (high : n ≤ magnitude f (suc a)) where
  -- the one below
  pub choose_low : n - magnitude f a ≤ magnitude f (suc a) - n → (n - magnitude f a ≡ magnitude f (suc a) - n → significand f a % 2 ≡ 0) → Nearest f n a
  choose_low near even = record {
    among = omega arith;
    nearer = λ r h. elim (cases_lt a r) [
      | inl l ↦ omega (arith, magnitude_le f (suc a) r l)
      | inr l ↦ omega (arith, magnitude_le f r a l)
    ];
    even = λ r h ne e. elim (cases_lt a r) [
      | inl l ↦ even (omega (arith, magnitude_le f (suc a) r l))
      | inr l ↦ (let k : r < a = omega arith in omega (arith, magnitude_lt f r a k))
    ];
  }

  -- the one above
  pub choose_high : magnitude f (suc a) - n ≤ n - magnitude f a → (n - magnitude f a ≡ magnitude f (suc a) - n → significand f (suc a) % 2 ≡ 0) → Nearest f n (suc a)
  choose_high near even = record {
    among = omega arith;
    nearer = λ r h. elim (cases_lt a r) [
      | inl l ↦ omega (arith, magnitude_le f (suc a) r l)
      | inr l ↦ omega (arith, magnitude_le f r a l)
    ];
    even = λ r h ne e. elim (cases_lt a r) [
      | inl l ↦ (let k : suc a < r = omega arith in omega (arith, magnitude_lt f (suc a) r k))
      | inr l ↦ even (omega (arith, magnitude_le f r a l))
    ];
  }

-- from the infinity on
pub choose_infinity : (f : Format) (n : ℕ) → magnitude f (infinity f) ≤ n → Nearest f n (infinity f)
choose_infinity f n h = record {
  among = omega arith;
  nearer = λ r k. omega (arith, magnitude_le f r (infinity f) k);
  even = λ r k ne e. (let l : r < infinity f = omega arith in omega (arith, magnitude_lt f r (infinity f) l));
}

-- ---- there is one
apart : (f : Format) → 2 ≤ f.digits → (n q r : ℕ) → Nearest f n q → Nearest f n r → q < r → ⊥
apart f d n q r x y l =
    let e : abs_diff (magnitude f q) n ≡ abs_diff (magnitude f r) n = omega (arith, x.nearer r y.among, y.nearer q x.among) in
    let a : significand f q % 2 ≡ 0 = x.even r y.among (omega arith) (sym e) in
    let b : significand f r % 2 ≡ 0 = y.even q x.among (omega arith) e in
    let gap : suc q < r = omega (arith, even_pattern f d q, even_pattern f d r) in
    let m : suc q ≤ infinity f = omega (arith, y.among) in
    omega (arith, x.nearer (suc q) m, magnitude_lt f q (suc q) (omega arith), magnitude_lt f (suc q) r gap)

pub nearest_is_one : NearestIsOne
nearest_is_one f d n q r x y =
    elim (cases_lt q r) [
      | inl l ↦ absurd (apart f d n q r x y l)
      | inr l ↦ elim (cases_lt r q) [ inl k ↦ absurd (apart f d n r q y x k) | inr k ↦ omega arith ]
    ]
