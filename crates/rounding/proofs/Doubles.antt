-- What a double's parts say, for a format with fewer digits. Assumes nothing.
use Rattle.std.proofs.Common.{◌≡◌, ℕ, suc, ◌+◌, ◌-◌, ◌*◌, ◌/◌, ◌^◌, ◌<◌, ◌≤◌, min, sym, ap, subst, ◌∙◌, inl, inr, lt_of_lt_of_le, add-zero, mul-le-mul_right, mul_comm, mul-lt-mul_of_pos_right, pow-suc, le-div_iff_mul-le, arith, lit<, pow_pos, pow_mono, pow-add, shr_lt}
use Rattle.std.proofs.lemmas.Bool.{cases_lt}
use Rattle.std.proofs.lemmas.Nat.{div_below}
use Rattle.rounding.specs.Formats.{Format, double, weight, infinity, step, significand, doublings, magnitude}
use Rattle.rounding.specs.Nearest.{Nearest}
use Rattle.rounding.specs.Shifts.{Narrow, Rounded}
use Rattle.rounding.proofs.Patterns.{Stands, stands, below_two, magnitude_is}
use Rattle.rounding.proofs.Rounding.{rounds, rounds_to_zero}

pub significand_lt : (bits : ℕ) → significand double bits < 2 ^ 53
significand_lt bits = omega (arith, below_two double bits)

pub doublings_lt : (bits : ℕ) → bits < infinity double → doublings double bits < 2046
unfolding doublings
doublings_lt bits h = let p : bits / 2 ^ 52 < 2047 = div_below bits (2 ^ 52) 2047 (lit< tt) h in omega arith

pub double_is : (bits : ℕ) → magnitude double bits ≡ significand double bits * 2 ^ doublings double bits
double_is bits = magnitude_is double bits ∙ ap (λ (x : ℕ). significand double bits * 2 ^ x) (add-zero (doublings double bits))

twice : (p : ℕ) → 1 ≤ p → 2 * 2 ^ (p - 1) ≡ 2 ^ p
twice p h = let e : suc (p - 1) ≡ p = omega arith in mul_comm 2 (2 ^ (p - 1)) ∙ sym (pow-suc 2 (p - 1)) ∙ ap (λ (x : ℕ). 2 ^ x) e

kept_fits : (p m s : ℕ) → 1 ≤ p → m < 2 ^ 53 → 53 ≤ p + s → m / 2 ^ s < 2 * 2 ^ (p - 1)
kept_fits p m s h k l = rw twice (shr_lt p s (lt_of_lt_of_le k (pow_mono l)))

kept_leads : (p m s : ℕ) → 1 ≤ p → 2 ^ 52 ≤ m → p + s ≡ 53 → 2 ^ (p - 1) ≤ m / 2 ^ s
kept_leads p m s h k l =
    let e : p - 1 + s ≡ 52 = omega arith in
    let g : 2 ^ (p - 1) * 2 ^ s ≡ 2 ^ 52 = sym (pow-add 2 (p - 1) s) ∙ ap (λ (x : ℕ). 2 ^ x) e in
    (le-div_iff_mul-le (pow_pos s)).1 (omega arith)

-- Of a double's significand with e doublings a format keeps as many digits as a normal value of it has, above so many fields, or fewer above no field. It drops the others.
abbrev pub fields_of : Format → ℕ → ℕ
fields_of f e = e + 53 - f.digits - step f

abbrev pub drop_of : Format → ℕ → ℕ
drop_of f e = fields_of f e + step f - e

module _ (f : Format) (n : Narrow f) (bits : ℕ) where
  abbrev m : ℕ
  m = significand double bits

  abbrev e : ℕ
  e = doublings double bits

  abbrev y : ℕ
  y = fields_of f e

  abbrev s : ℕ
  s = drop_of f e

  same : e + s ≡ y + step f
  same = omega (arith, n.1, n.3)

  -- the code's numbers are these
  pub nearest_of : (k d r q : ℕ) → k ≡ m → d ≡ s → Rounded k (2 ^ d) r → q ≡ min (y * weight f + r) (infinity f) → Nearest f (magnitude double bits) q
  nearest_of k d r q ke de ro qe =
      let one : 1 ≤ f.digits = omega (arith, n.0) in
      let big : 53 ≤ f.digits + s = omega (arith, n.1, n.3) in
      let st : Stands (weight f) y (m / 2 ^ s) = elim (cases_lt 0 y) [
        | inl l ↦ elim (stands double bits) [ inl z ↦ absurd (omega (arith, n.1, n.3)) | inr g ↦ inr (kept_leads f.digits m s one g (omega (arith, n.1, n.3))) ]
        | inr l ↦ inl (omega arith)
      ] in
      let here : Rounded m (2 ^ s) r = subst (λ (x : ℕ). Rounded x (2 ^ s) r) ke (subst (λ (x : ℕ). Rounded k (2 ^ x) r) de ro) in
      rw (double_is, qe) (rounds f m e s y n.0 same (kept_fits f.digits m s one (significand_lt bits) big) st r here)

  pub zero_of : (d : ℕ) → d ≡ s → 54 < d → Nearest f (magnitude double bits) 0
  zero_of d de big =
      let E = 2 ^ e in
      let a : m * E < 2 ^ 53 * E = mul-lt-mul_of_pos_right (significand_lt bits) (pow_pos e) in
      let g : 2 ^ 54 * E ≤ 2 ^ s * E = mul-le-mul_right E (pow_mono (let l : 54 ≤ s = omega arith in l)) in
      let all : e + s ≡ step f = omega (arith, same, n.1, n.3) in
      let u : 2 ^ s * E ≡ 2 ^ step f = mul_comm (2 ^ s) E ∙ sym (pow-add 2 e s) ∙ ap (λ (x : ℕ). 2 ^ x) all in
      rw double_is (rounds_to_zero f (m * E) (omega arith))
