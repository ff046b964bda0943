-- A pattern y * weight + q with a significand q: what it stands for. The larger pattern stands for more, and a significand is even where its pattern is. Assumes nothing.
use Rattle.std.proofs.Common.{◌≡◌, ℕ, zero, suc, ◌+◌, ◌-◌, ◌*◌, ◌/◌, ◌%◌, ◌^◌, ◌<◌, ◌≤◌, ◌⊎◌, sym, refl, ap, ◌∙◌, inl, inr, mod-lt, mul_assoc, one-mul, pow-suc, div-add-mod', zero-mul, zero-add, mul_right_comm, suc-mul, arith, pow_pos, le-ltb, lt-ltb}
use native.Mathlib.Nat.{div-eq_of_lt}
use Rattle.std.proofs.lemmas.Bool.{cases_lt}
use Rattle.std.proofs.lemmas.Nat.{div-mul-add, mod-mul-add, le-div}
use Rattle.rounding.specs.Formats.{Format, weight, step, significand, doublings, magnitude}

pub weight_pos : (f : Format) → 0 < weight f
weight_pos f = pow_pos (f.digits - 1)

pub significand_low : (f : Format) (q : ℕ) → q < weight f → significand f q ≡ q
unfolding significand
significand_low f q h = simp (lt-ltb q (weight f) h)

pub significand_high : (f : Format) (q : ℕ) → weight f ≤ q → significand f q ≡ weight f + q % weight f
unfolding significand
significand_high f q h = simp (le-ltb q (weight f) h)

-- a field of k + 1 above the rest
one_more : (k w r : ℕ) → suc k * w + r ≡ k * w + (w + r)
one_more k w r = omega (arith, suc-mul k w)

-- q stands above y fields: it has its leading digit, or there are none below
abbrev pub Stands : ℕ → ℕ → ℕ → Type 0
Stands w y q = (y ≡ 0) ⊎ (w ≤ q)

high_split : (a w : ℕ) → 0 < w → w ≤ a → (a / w - 1) * w + (w + a % w) ≡ a
high_split a w p h =
    let k = a / w - 1 in
    let e : suc k ≡ a / w = omega (arith, le-div 1 a w p (omega (arith, one-mul w))) in
    sym (one_more k w (a % w)) ∙ ap (λ (x : ℕ). x * w + a % w) e ∙ div-add-mod' a w

-- every pattern is such a sum
pub whole : (f : Format) (a : ℕ) → doublings f a * weight f + significand f a ≡ a
unfolding doublings
whole f a =
    let w = weight f in
    elim (cases_lt a w) [
      | inl h ↦ rw significand_low (rw div-eq_of_lt (omega (arith, zero-mul w)))
      | inr h ↦ rw significand_high (high_split a w (weight_pos f) h)
    ]

pub stands : (f : Format) (a : ℕ) → Stands (weight f) (doublings f a) (significand f a)
unfolding doublings
stands f a =
    let w = weight f in
    elim (cases_lt a w) [
      | inl h ↦ inl (rw div-eq_of_lt)
      | inr h ↦ inr (rw significand_high (omega arith))
    ]

pub below_two : (f : Format) (a : ℕ) → significand f a < 2 * weight f
below_two f a =
    let w = weight f in
    let p = weight_pos f in
    elim (cases_lt a w) [
      | inl h ↦ rw significand_low (omega arith)
      | inr h ↦ rw significand_high (omega (arith, mod-lt a p))
    ]

-- with a leading digit
magnitude_high : (f : Format) (y q : ℕ) → weight f ≤ q → q < 2 * weight f → magnitude f (y * weight f + q) ≡ q * 2 ^ (y + step f)
unfolding magnitude doublings
magnitude_high f y q g l =
    let w = weight f in
    let a = y * w + q in
    let e : a ≡ suc y * w + (q - w) = omega (arith, suc-mul y w) in
    let s : significand f a ≡ q = omega (arith, significand_high f a (omega arith), ap (λ (x : ℕ). x % w) e, mod-mul-add (suc y) w (q - w) (omega arith)) in
    let d : doublings f a ≡ y = omega (arith, ap (λ (x : ℕ). x / w) e, div-mul-add (suc y) w (q - w) (omega arith)) in
    rw (s, d) refl

-- with none
magnitude_low : (f : Format) (q : ℕ) → q < weight f → magnitude f q ≡ q * 2 ^ step f
unfolding magnitude
magnitude_low f q h =
    let s : significand f q ≡ q = significand_low f q h in
    let d : doublings f q + step f ≡ step f = omega (arith, div-eq_of_lt h) in
    ap (λ (x : ℕ). x * 2 ^ (doublings f q + step f)) s ∙ ap (λ (x : ℕ). q * 2 ^ x) d

-- and each such sum, up to the carry into the next field, stands for q * 2 ^ y of the format's smallest value
pub magnitude_of : (f : Format) (y q : ℕ) → q ≤ 2 * weight f → Stands (weight f) y q → magnitude f (y * weight f + q) ≡ q * 2 ^ (y + step f)
magnitude_of f y q h s =
    let w = weight f in
    elim (cases_lt q w) [
      | inl l ↦ elim s [
        | inl z ↦ rw (z, zero-mul, zero-add, zero-add) (magnitude_low f q l)
        | inr g ↦ omega arith
      ]
      | inr g ↦ elim (cases_lt q (2 * w)) [
        | inl l ↦ magnitude_high f y q g l
        | inr l ↦
            let u = 2 ^ (y + step f) in
            let e : y * w + q ≡ suc y * w + w = omega (arith, suc-mul y w) in
            let d : 2 ^ (suc y + step f) ≡ u * 2 = ap (λ (x : ℕ). 2 ^ x) (omega arith) ∙ pow-suc 2 (y + step f) in
            let c : w * (u * 2) ≡ q * u = sym (mul_assoc w u 2) ∙ mul_right_comm w u 2 ∙ ap (λ (x : ℕ). x * u) (omega arith) in
            ap (magnitude f) e ∙ magnitude_high f (suc y) w (omega arith) (omega (arith, weight_pos f)) ∙ ap (λ (x : ℕ). w * x) d ∙ c
      ]
    ]

-- the next pattern stands for more, by 2 ^ (doublings + step)
pub magnitude_is : (f : Format) (a : ℕ) → magnitude f a ≡ significand f a * 2 ^ (doublings f a + step f)
unfolding magnitude
magnitude_is f a = refl

pub magnitude_next : (f : Format) (a : ℕ) → magnitude f (suc a) ≡ magnitude f a + 2 ^ (doublings f a + step f)
magnitude_next f a =
    let w = weight f in
    let y = doublings f a in
    let q = significand f a in
    let u = 2 ^ (y + step f) in
    let more : Stands w y (suc q) = elim (stands f a) [ inl z ↦ inl z | inr g ↦ inr (omega arith) ] in
    let e : y * w + suc q ≡ suc a = omega (arith, whole f a) in
    let m : magnitude f (y * w + suc q) ≡ suc q * u = magnitude_of f y (suc q) (below_two f a) more in
    let n : magnitude f (suc a) ≡ suc q * u = rw e at m in
    n ∙ suc-mul q u ∙ ap (λ (x : ℕ). x + u) (sym (magnitude_is f a))

pub magnitude_lt : (f : Format) (a b : ℕ) → a < b → magnitude f a < magnitude f b
magnitude_lt f a zero h = omega arith
magnitude_lt f a (suc b) h =
    let p = pow_pos (doublings f b + step f) in
    elim (cases_lt a b) [ inl l ↦ omega (arith, magnitude_lt f a b l, magnitude_next f b) | inr l ↦ (let e : a ≡ b = omega arith in rw e (omega (arith, magnitude_next f b))) ]

pub magnitude_up : (f : Format) (a k : ℕ) → magnitude f a < magnitude f (a + suc k)
magnitude_up f a k = magnitude_lt f a (a + suc k) (omega arith)

pub magnitude_le : (f : Format) (a b : ℕ) → a ≤ b → magnitude f a ≤ magnitude f b
magnitude_le f a b h = elim (cases_lt a b) [ inl l ↦ omega (arith, magnitude_lt f a b l) | inr l ↦ (let e : a ≡ b = omega arith in rw e (omega arith)) ]

-- ---- what stands in the exponent's fields is even, and so a significand is even where its pattern is
pub even_sum : (f : Format) (y k : ℕ) → 2 ≤ f.digits → (y * weight f + k) % 2 ≡ k % 2
even_sum f y k h =
    let v = 2 ^ (f.digits - 2) in
    let d : f.digits - 1 ≡ suc (f.digits - 2) = omega arith in
    let e : weight f ≡ v * 2 = ap (λ (x : ℕ). 2 ^ x) d ∙ pow-suc 2 (f.digits - 2) in
    let g : y * weight f ≡ y * v * 2 = ap (λ (x : ℕ). y * x) e ∙ sym (mul_assoc y v 2) in
    omega arith

pub even_pattern : (f : Format) → 2 ≤ f.digits → (q : ℕ) → significand f q % 2 ≡ q % 2
even_pattern f h q = sym (even_sum f (doublings f q) (significand f q) h) ∙ ap (λ (x : ℕ). x % 2) (whole f q)
