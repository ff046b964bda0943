-- m * 2 ^ e units, cut by s digits to the places of a field y and rounded there: the pattern that comes out is the nearest. Over every format. Assumes nothing.
use Rattle.std.proofs.Common.{◌≡◌, ℕ, suc, ◌+◌, ◌*◌, ◌/◌, ◌%◌, ◌^◌, ◌<◌, ◌≤◌, min, sym, refl, ap, ◌∙◌, inl, inr, mod-lt, mul_assoc, mul_comm, add-mul, mul-lt-mul_of_pos_right, mul-pos, one-mul, div-add-mod', zero-add, zero-mul, mul_right_comm, suc-mul, arith, pow_pos, pow-add}
use Rattle.std.proofs.lemmas.Bool.{cases_lt, cases_order}
use Rattle.rounding.specs.Formats.{Format, weight, infinity, step, magnitude}
use Rattle.rounding.specs.Nearest.{Nearest}
use Rattle.rounding.specs.Shifts.{Rounded}
use Rattle.rounding.proofs.Patterns.{Stands, weight_pos, magnitude_of, magnitude_le, even_sum, even_pattern}
use Rattle.rounding.proofs.Choosing.{choose_low, choose_high, choose_infinity}

module _ (f : Format) (m e s y : ℕ) (two : 2 ≤ f.digits) (same : e + s ≡ y + step f) (fits : m / 2 ^ s < 2 * weight f) (st : Stands (weight f) y (m / 2 ^ s)) where
  -- the sum that the kept digits make, and the next one: the number lies between them
  low_is : magnitude f (y * weight f + m / 2 ^ s) ≡ m / 2 ^ s * 2 ^ (y + step f)
  low_is = magnitude_of f y (m / 2 ^ s) (omega arith) st

  high_is : magnitude f (suc (y * weight f + m / 2 ^ s)) ≡ m / 2 ^ s * 2 ^ (y + step f) + 2 ^ (y + step f)
  high_is =
      let k = m / 2 ^ s in
      let u = 2 ^ (y + step f) in
      let more : Stands (weight f) y (suc k) = elim st [ inl z ↦ inl z | inr g ↦ inr (omega arith) ] in
      let g : y * weight f + suc k ≡ suc (y * weight f + k) = omega arith in
      (rw g at (magnitude_of f y (suc k) fits more)) ∙ suc-mul k u

  unit : 2 ^ s * 2 ^ e ≡ 2 ^ (y + step f)
  unit = mul_comm (2 ^ s) (2 ^ e) ∙ sym (pow-add 2 e s) ∙ ap (λ (x : ℕ). 2 ^ x) same

  number_is : m * 2 ^ e ≡ m / 2 ^ s * 2 ^ (y + step f) + m % 2 ^ s * 2 ^ e
  number_is =
      let u = 2 ^ s in
      let E = 2 ^ e in
      let k = m / u in
      ap (λ (x : ℕ). x * E) (sym (div-add-mod' m u)) ∙ add-mul (k * u) (m % u) E ∙ ap (λ (x : ℕ). x + m % u * E) (mul_assoc k u E ∙ ap (λ (x : ℕ). k * x) unit)

  rest_small : m % 2 ^ s * 2 ^ e < 2 ^ (y + step f)
  rest_small = rw unit at (mul-lt-mul_of_pos_right (mod-lt m (pow_pos s)) (pow_pos e))

  rest_below : m % 2 ^ s * 2 < 2 ^ s → m % 2 ^ s * 2 ^ e * 2 < 2 ^ (y + step f)
  rest_below h = rw mul_right_comm (rw unit at (mul-lt-mul_of_pos_right h (pow_pos e)))

  rest_tie : m % 2 ^ s * 2 ≡ 2 ^ s → m % 2 ^ s * 2 ^ e * 2 ≡ 2 ^ (y + step f)
  rest_tie h = rw mul_right_comm (ap (λ (x : ℕ). x * 2 ^ e) h ∙ unit)

  rest_above : 2 ^ s < m % 2 ^ s * 2 → 2 ^ (y + step f) < m % 2 ^ s * 2 ^ e * 2
  rest_above h = rw mul_right_comm (rw unit at (mul-lt-mul_of_pos_right h (pow_pos e)))

  at_least : (r : ℕ) → Rounded m (2 ^ s) r → m / 2 ^ s ≤ r
  at_least r ro = grind arith

  -- below the infinity
  finite : (r : ℕ) → Rounded m (2 ^ s) r → y * weight f + m / 2 ^ s < infinity f → Nearest f (m * 2 ^ e) (y * weight f + r)
  finite r ro under =
      let n = m * 2 ^ e in
      let k = m / 2 ^ s in
      let a = y * weight f + k in
      let lo : magnitude f a ≤ n = omega (arith, low_is, number_is) in
      let hi : n ≤ magnitude f (suc a) = omega (arith, high_is, number_is, rest_small) in
      elim (cases_order (m % 2 ^ s * 2) (2 ^ s)) [
        | inl t ↦ elim (cases_lt (k % 2) 1) [
          | inl ev ↦
              let q : Nearest f n a = choose_low f n a under lo hi (omega (arith, low_is, high_is, number_is, rest_tie t)) (λ z. omega (arith, even_pattern f two a, even_sum f y k two)) in
              let j : y * weight f + r ≡ a = omega (arith, ro.tie t) in
              rw j q
          | inr od ↦
              let q : Nearest f n (suc a) = choose_high f n a under lo hi (omega (arith, low_is, high_is, number_is, rest_tie t)) (λ z. omega (arith, even_pattern f two (suc a), even_sum f y k two)) in
              let j : y * weight f + r ≡ suc a = omega (arith, ro.tie t) in
              rw j q
        ]
        | inr o ↦ elim o [
          | inl h ↦
              let q : Nearest f n a = choose_low f n a under lo hi (omega (arith, low_is, high_is, number_is, rest_below h)) (λ z. omega (arith, low_is, high_is, number_is, rest_below h)) in
              rw (ro.below h) q
          | inr g ↦
              let q : Nearest f n (suc a) = choose_high f n a under lo hi (omega (arith, low_is, high_is, number_is, rest_above g)) (λ z. omega (arith, low_is, high_is, number_is, rest_above g)) in
              let j : y * weight f + r ≡ suc a = omega (arith, ro.above g) in
              rw j q
        ]
      ]

  pub rounds : (r : ℕ) → Rounded m (2 ^ s) r → Nearest f (m * 2 ^ e) (min (y * weight f + r) (infinity f))
  rounds r ro =
      let n = m * 2 ^ e in
      let a = y * weight f + m / 2 ^ s in
      elim (cases_lt a (infinity f)) [
        | inl h ↦
            let q = finite r ro h in
            let j : min (y * weight f + r) (infinity f) ≡ y * weight f + r = omega (arith, q.among) in
            rw j q
        | inr h ↦
            let q = choose_infinity f n (omega (arith, low_is, number_is, magnitude_le f (infinity f) a h)) in
            let j : min (y * weight f + r) (infinity f) ≡ infinity f = omega (arith, at_least r ro) in
            rw j q
      ]

-- less than half of the smallest value
pub rounds_to_zero : (f : Format) (n : ℕ) → n * 2 < 2 ^ step f → Nearest f n 0
rounds_to_zero f n h =
    let w = weight_pos f in
    let z : magnitude f (0 * weight f + 0) ≡ 0 * 2 ^ (0 + step f) = magnitude_of f 0 0 (omega arith) (inl refl) in
    let none : magnitude f 0 ≡ 0 = simp (zero-mul, zero-add) at z in
    let o : magnitude f (0 * weight f + 1) ≡ 1 * 2 ^ (0 + step f) = magnitude_of f 0 1 (omega arith) (inl refl) in
    let one : magnitude f 1 ≡ 2 ^ step f = simp (zero-mul, zero-add, one-mul) at o in
    choose_low f n 0 (mul-pos (omega arith) w) (omega arith) (omega arith) (omega arith) (λ g. omega arith)
