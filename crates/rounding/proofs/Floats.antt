-- A double as the logic has it: its sign, its units, its size, its whole part, and how it compares with a whole number. Assumes nothing.
use Rattle.std.proofs.Common.{◌≡◌, ℕ, zero, suc, ◌+◌, ◌-◌, ◌*◌, ◌/◌, ◌%◌, ◌^◌, ◌<◌, ◌≤◌, min, Bool, true, false, cond, not, ◌&&◌, T, eqb, ltb, leb, ℤ, pos, negsuc, neg_ℤ, ◌≤ℤ◌, sym, refl, ap, ◌∙◌, subst, inl, inr, true≢false, mul-le-mul_right, mul_assoc, mul_comm, add-mul, mul-lt-mul_of_pos_right, mul-pos, zero-mul, mul-one, div-le_self, div-one, mul-div_cancel, arith, lit<, ltb→lt, pow_pos, pow-add, mod-eq_of_lt}
use lib.Signed.{le_z}
use lib.Ieee.{Float, nan, inf, fin, binary64, up, down, below, lt, round, fits, of_int, of_bits, of_fields, to_bits, to_signed}
use lib.Ieee.Exact.{HasValue, round_exact}
use lib.Ieee.Back.{round_whole}
use lib.Ieee.Bits.{of_bits-to_bits}
use lib.Ieee.Fits.{down_pos, and_l, and_r}
use lib.Ieee.Nearest.{div_same}
use borrow.Author.Differences.{ints}
use Rattle.std.specs.Float as Floats
use Rattle.std.specs.Int.{saturate_to_bits}
use Rattle.std.proofs.lemmas.Bool.{cases_lt, leb-false}
use Rattle.std.proofs.lemmas.Bool.Decides.{nat_tests}
use Rattle.rounding.specs.Formats.{double, infinity, magnitude}
use Rattle.rounding.specs.Doubles.{units, whole}
use Rattle.rounding.proofs.Agreeing.{agrees}

-- ---- its units

abbrev pub sign_of : ℕ → Bool
sign_of bits = leb (2 ^ 63) bits

abbrev pub units_of : ℕ → ℕ
units_of bits = magnitude double (bits % 2 ^ 63)

-- a pattern from the infinity's on is no finite value's
beyond : (s : Bool) (x t : ℕ) → x ≡ 2047 → Floats.float_is_finite (of_fields binary64 s x t) ≡ false
unfolding of_fields Floats.float_is_finite
beyond s x t e = subst (λ (k : ℕ). Floats.float_is_finite (of_fields binary64 s k t) ≡ false) (sym e) (at (eqb t 0))
  where
    at : (b : Bool) → Floats.float_is_finite (cond b (inf s) nan) ≡ false
    at true = refl
    at false = refl

pub finite_below : (bits : ℕ) → Floats.float_is_finite (of_bits binary64 bits) ≡ true → bits % 2 ^ 63 < infinity double
unfolding of_bits
finite_below bits h =
    elim (cases_lt (bits % 2 ^ 63) (infinity double)) [
      | inl l ↦ l
      | inr l ↦ absurd (true≢false (sym h ∙ beyond (sign_of bits) (bits % 2 ^ 63 / 2 ^ 52) (bits % 2 ^ 52) (omega arith)))
    ]

-- a value has one sign and one number of units
by_sign : (x : Float) (s : Bool) (n : ℕ) → HasValue x s n (2 ^ 1074) → Floats.is_sign_negative x ≡ s
unfolding Floats.is_sign_negative
by_sign nan s n v = absurd v
by_sign (inf t) s n v = absurd v
by_sign (fin t m e) s n v = v.0

by_units : (x : Float) (s : Bool) (n : ℕ) → HasValue x s n (2 ^ 1074) → units x ≡ n
unfolding units
by_units nan s n v = absurd v
by_units (inf t) s n v = absurd v
by_units (fin t m e) s n v = ap (λ (k : ℕ). k / down e) v.1 ∙ mul-div_cancel n (down_pos e)

module _ (x : Float) (f : T (fits binary64 x)) (h : Floats.float_is_finite x ≡ true) where
  pub bits_below : to_bits binary64 x % 2 ^ 63 < infinity double
  bits_below = finite_below (to_bits binary64 x) (ap Floats.float_is_finite (of_bits-to_bits binary64 x f) ∙ h)

  counts : HasValue x (sign_of (to_bits binary64 x)) (units_of (to_bits binary64 x)) (2 ^ 1074)
  counts = subst (λ (y : Float). HasValue y (sign_of (to_bits binary64 x)) (units_of (to_bits binary64 x)) (2 ^ 1074)) (of_bits-to_bits binary64 x f) (agrees binary64 (to_bits binary64 x) bits_below)

  pub sign_is : Floats.is_sign_negative x ≡ sign_of (to_bits binary64 x)
  sign_is = by_sign x (sign_of (to_bits binary64 x)) (units_of (to_bits binary64 x)) counts

  pub units_is : units x ≡ units_of (to_bits binary64 x)
  units_is = by_units x (sign_of (to_bits binary64 x)) (units_of (to_bits binary64 x)) counts

  pub exact : HasValue x (Floats.is_sign_negative x) (units x) (2 ^ 1074)
  exact = subst (λ (s : Bool). HasValue x s (units x) (2 ^ 1074)) (sym sign_is) (subst (λ (n : ℕ). HasValue x (sign_of (to_bits binary64 x)) n (2 ^ 1074)) (sym units_is) counts)

-- ---- its size

-- a clear sign changes neither the units nor what fits
sized_is : (x : Float) → T (fits binary64 x) → Floats.float_is_finite x ≡ true → T (fits binary64 (Floats.float_with_sign false x)) × (Floats.float_is_finite (Floats.float_with_sign false x) ≡ true) × (Floats.is_sign_negative (Floats.float_with_sign false x) ≡ false) × (units (Floats.float_with_sign false x) ≡ units x)
unfolding Floats.float_with_sign Floats.float_is_finite Floats.is_sign_negative units fits
sized_is nan f h = absurd (true≢false (sym h))
sized_is (inf s) f h = absurd (true≢false (sym h))
sized_is (fin s zero e) f h = (f, refl, refl, refl)
sized_is (fin s (suc m) e) f h = (f, refl, refl, refl)

module _ (x y : Float) (e : y ≡ Floats.float_with_sign false x) (f : T (fits binary64 x)) (h : Floats.float_is_finite x ≡ true) where
  size_fits : T (fits binary64 y)
  size_fits = rw e (sized_is x f h).0

  size_finite : Floats.float_is_finite y ≡ true
  size_finite = rw e (sized_is x f h).1

  size_small : to_bits binary64 y < 2 ^ 63
  size_small = leb-false (2 ^ 63) (to_bits binary64 y) (sym (sign_is y size_fits size_finite) ∙ rw e (sized_is x f h).2)

  pub size_below : to_bits binary64 y < infinity double
  size_below = omega (arith, size_small, bits_below y size_fits size_finite)

  pub size_is : magnitude double (to_bits binary64 y) ≡ units x
  size_is = ap (magnitude double) (sym (mod-eq_of_lt size_small)) ∙ sym (units_is y size_fits size_finite) ∙ rw e (sized_is x f h).3

-- ---- its whole part

small : (s : Bool) (m : ℕ) (e : ℤ) → T (fits binary64 (fin s m e)) → m < 2 ^ 53
unfolding fits
small s zero e t = lit< tt
small s (suc m) e t =
    ltb→lt (suc m) (2 ^ 53) (and_r (eqb (suc m % 2) 1) (ltb (suc m) (2 ^ 53)) (and_l (eqb (suc m % 2) 1 && ltb (suc m) (2 ^ 53)) (leb (down e) (2 ^ 1074))
    (and_l (eqb (suc m % 2) 1 && ltb (suc m) (2 ^ 53) && leb (down e) (2 ^ 1074)) (ltb (suc m * up e) (2 ^ 1024 * down e)) t)))

ranged : (s : Bool) (m : ℕ) (e : ℤ) → T (fits binary64 (fin s m e)) → m * up e < 2 ^ 1024 * down e
unfolding fits
ranged s zero e t = subst (λ (k : ℕ). k < 2 ^ 1024 * down e) (sym (zero-mul (up e))) (mul-pos (pow_pos 1024) (down_pos e))
ranged s (suc m) e t =
    ltb→lt (suc m * up e) (2 ^ 1024 * down e) (and_r (eqb (suc m % 2) 1 && ltb (suc m) (2 ^ 53) && leb (down e) (2 ^ 1074)) (ltb (suc m * up e) (2 ^ 1024 * down e)) t)

scaled : (m k : ℕ) → m * 2 ^ k * 2 ^ 1074 ≡ m * 2 ^ (k + 1074)
scaled m k = mul_assoc m (2 ^ k) (2 ^ 1074) ∙ ap (λ (x : ℕ). m * x) (sym (pow-add 2 k 1074))

-- dropping the fraction of a double rounds nothing
cut_exact : (s : Bool) (m : ℕ) (e : ℤ) → T (fits binary64 (fin s m e)) → HasValue (round binary64 s (m * up e / down e) 1) s (m * up e / down e) 1
cut_exact s m (pos k) t =
    let l : m * 2 ^ k < 2 ^ 1024 = subst (λ (x : ℕ). m * 2 ^ k < x) (mul-one (2 ^ 1024)) (ranged s m (pos k) t) in
    let b : m * 2 ^ (k + 1074) < 2 ^ 2098 = subst (λ (x : ℕ). x < 2 ^ 2098) (scaled m k) (mul-lt-mul_of_pos_right l (pow_pos 1074)) in
    subst (λ (w : ℕ). HasValue (round binary64 s w 1) s w 1) (sym (div-one (m * 2 ^ k)))
    (round_exact binary64 s (m * 2 ^ k) 1 m (k + 1074) (lit< tt) (small s m (pos k) t) b (scaled m k ∙ sym (mul-one (m * 2 ^ (k + 1074)))))
cut_exact s m (negsuc k) t =
    round_whole binary64 s (m * 1 / 2 ^ suc k) (omega (arith, div-le_self (m * 1) (2 ^ suc k), mul-one m, small s m (negsuc k) t))

trunc_is : (s : Bool) (m : ℕ) (e : ℤ) → Floats.trunc binary64 (fin s m e) ≡ round binary64 s (m * up e / down e) 1
unfolding Floats.round_with
trunc_is true m e = refl
trunc_is false m e = refl

pub trunc_value : (x : Float) (s : Bool) (n : ℕ) → T (fits binary64 x) → HasValue x s n (2 ^ 1074) → HasValue (Floats.trunc binary64 x) s (n / 2 ^ 1074) 1
trunc_value nan s n f h = absurd h
trunc_value (inf t) s n f h = absurd h
trunc_value (fin t m e) s n f h =
    let w : m * up e / down e ≡ n / 2 ^ 1074 = div_same (m * up e) (down e) n (2 ^ 1074) (down_pos e) (pow_pos 1074) h.1 in
    subst (λ (b : Bool). HasValue (Floats.trunc binary64 (fin t m e)) b (n / 2 ^ 1074) 1) h.0
    (subst (λ (k : ℕ). HasValue (Floats.trunc binary64 (fin t m e)) t k 1) w (subst (λ (y : Float). HasValue y t (m * up e / down e) 1) (sym (trunc_is t m e)) (cut_exact t m e f)))

-- what a cast gives: the value without its fraction, or the end of the range that is nearest to it
held : (s : Bool) (w : ℕ) → cond s (neg_ℤ (pos (min w (2 ^ 63)))) (pos (min w (2 ^ 63 - 1))) ≡ saturate_to_bits 63 (cond s (neg_ℤ (pos w)) (pos w))
held true zero = refl
held true (suc w) = let e : min (suc w) (2 ^ 63) ≡ suc (min w (2 ^ 63 - 1)) = omega arith in ap (λ (k : ℕ). neg_ℤ (pos k)) e
held false w = refl

pub cast_is : (x : Float) → fits binary64 x ≡ true → Floats.float_is_finite x ≡ true → to_signed 63 x ≡ saturate_to_bits 63 (whole x)
unfolding to_signed whole Floats.is_sign_negative Floats.float_is_finite
cast_is nan f h = absurd (true≢false (sym h))
cast_is (inf s) f h = absurd (true≢false (sym h))
cast_is (fin s m e) f h =
    let n = units (fin s m e) in
    let q : m * up e / down e ≡ n / 2 ^ 1074 = div_same (m * up e) (down e) n (2 ^ 1074) (down_pos e) (pow_pos 1074) (exact (fin s m e) (subst T (sym f) tt) h).1 in
    rw q (held s (n / 2 ^ 1074))

-- ---- whole numbers, compared as floats

abbrev pub signed : Bool → ℕ → ℤ
signed s w = cond s (neg_ℤ (pos w)) (pos w)

ltb_scaled : (a b c : ℕ) → 0 < c → ltb (a * c) (b * c) ≡ ltb a b
ltb_scaled a b c p =
    elim (cases_lt a b) [
      | inl h ↦ (let k : a * c < b * c = mul-lt-mul_of_pos_right h p in grind (arith, nat_tests))
      | inr h ↦ (let k : b * c ≤ a * c = mul-le-mul_right c h in grind (arith, nat_tests))
    ]

some_scaled : (a c : ℕ) → 0 < c → ltb 0 (a * c) ≡ ltb 0 a
some_scaled a c p = ap (λ (x : ℕ). ltb x (a * c)) (sym (zero-mul c)) ∙ ltb_scaled 0 a c p

below_scaled : (s : Bool) (a : ℕ) (t : Bool) (b c : ℕ) → 0 < c → below s (a * c) t (b * c) ≡ below s a t b
below_scaled false a false b c p = ltb_scaled a b c p
below_scaled false a true b c p = refl
below_scaled true a false b c p = ap (ltb 0) (sym (add-mul a b c)) ∙ some_scaled (a + b) c p
below_scaled true a true b c p = ltb_scaled b a c p

lt_values : (x y : Float) (s t : Bool) (a b : ℕ) → HasValue x s a 1 → HasValue y t b 1 → lt x y ≡ below s a t b
unfolding lt
lt_values nan y s t a b h k = absurd h
lt_values (inf u) y s t a b h k = absurd h
lt_values (fin u m e) nan s t a b h k = absurd k
lt_values (fin u m e) (inf v) s t a b h k = absurd k
lt_values (fin u m e) (fin v n d) s t a b h k =
    let p : m * up e * down d ≡ a * (down e * down d) = ap (λ (x : ℕ). x * down d) (sym (mul-one (m * up e)) ∙ h.1) ∙ mul_assoc a (down e) (down d) in
    let q : n * up d * down e ≡ b * (down e * down d) = ap (λ (x : ℕ). x * down e) (sym (mul-one (n * up d)) ∙ k.1) ∙ mul_assoc b (down d) (down e) ∙ ap (λ (x : ℕ). b * x) (mul_comm (down d) (down e)) in
    ap (λ (x : ℕ). below u x v (n * up d * down e)) p ∙ ap (λ (x : ℕ). below u (a * (down e * down d)) v x) q
    ∙ below_scaled u a v b (down e * down d) (mul-pos (down_pos e) (down_pos d))
    ∙ ap (λ (z : Bool). below z a v b) h.0 ∙ ap (λ (z : Bool). below s a z b) k.0

not_below : (s : Bool) (a : ℕ) (t : Bool) (b : ℕ) → not (below s a t b) ≡ le_z (signed t b) (signed s a)
not_below false a false b = grind (arith, nat_tests)
not_below false a true zero = grind (arith, nat_tests)
not_below false a true (suc b) = refl
not_below true zero false b = grind (arith, nat_tests)
not_below true (suc a) false b = grind (arith, nat_tests)
not_below true zero true zero = refl
not_below true zero true (suc b) = grind (arith, nat_tests)
not_below true (suc a) true zero = grind (arith, nat_tests)
not_below true (suc a) true (suc b) = grind (arith, nat_tests)

-- a whole number as a float is that number
whole_float : (z : ℤ) → negsuc (2 ^ 52) ≤ℤ z → z ≤ℤ pos (2 ^ 52) → (s : Bool) × (a : ℕ) × (signed s a ≡ z) × HasValue (of_int binary64 z) s a 1
unfolding of_int
whole_float (pos n) l h = (false, n, refl, round_whole binary64 false n (omega (arith, ints)))
whole_float (negsuc n) l h = (true, suc n, refl, round_whole binary64 true (suc n) (omega (arith, ints)))

module _ (x : Float) (s : Bool) (w : ℕ) (v : HasValue x s w 1) (z : ℤ) (l : negsuc (2 ^ 52) ≤ℤ z) (h : z ≤ℤ pos (2 ^ 52)) where
  -- whether the value is below z, and whether it is above
  pub under_is : not (lt x (of_int binary64 z)) ≡ le_z z (signed s w)
  under_is =
      let p = whole_float z l h in
      ap not (lt_values x (of_int binary64 z) s p.0 w p.1 v p.3) ∙ not_below s w p.0 p.1 ∙ ap (λ (y : ℤ). le_z y (signed s w)) p.2

  pub over_is : not (lt (of_int binary64 z) x) ≡ le_z (signed s w) z
  over_is =
      let p = whole_float z l h in
      ap not (lt_values (of_int binary64 z) x p.0 s p.1 w p.3 v) ∙ not_below p.0 p.1 s w ∙ ap (λ (y : ℤ). le_z (signed s w) y) p.2
