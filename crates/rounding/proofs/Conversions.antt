-- What the conversion's steps show of a double. Assumes nothing.
use Rattle.std.proofs.Common.{◌≡◌, ℕ, zero, suc, ◌+◌, ◌*◌, ◌^◌, ◌<◌, ◌≤◌, Bool, true, false, cond, not, T, eqb, ltb, pos, negsuc, ℤ, ◌≤ℤ◌, Ok, Err, sym, refl, ap, ◌∙◌, subst, true≢false, zero-lt-suc, mul-lt-mul_of_pos_right, mul-pos, zero-mul, mul-one, arith, le-ltb, lt-ltb, ne_eqb}
use lib.Signed.{le_z}
use lib.Ieee.{Float, nan, inf, fin, binary64, up, eq, ne, is_nan, fits, of_bits, to_bits}
use lib.Ieee.Fits.{up_pos}
use borrow.Author.Differences.{ints}
use Rattle.std.specs.Float as Floats
use Rattle.rounding.specs.declared.conversion.ConversionError.TheVariants.{DstRangeTooSmall}
use Rattle.rounding.specs.Formats.{Format, double, infinity, sign_bit_of, magnitude}
use Rattle.rounding.specs.Nearest.{Nearest}
use Rattle.rounding.specs.Doubles.{units, truth}
use Rattle.rounding.specs.Conversion.{Rounds}
use Rattle.rounding.proofs.Patterns.{weight_pos}
use Rattle.rounding.proofs.Floats.{signed, size_below, size_is}

pub chosen : (b : Bool) (P Q : Type 0) → b ≡ true → P → cond b P Q
chosen true P Q h p = p
chosen false P Q h p = absurd (true≢false (sym h))

pub passed : (b : Bool) (P Q : Type 0) → b ≡ false → Q → cond b P Q
passed true P Q h q = absurd (true≢false h)
passed false P Q h q = q

-- ---- whole numbers

-- A whole number between two that a double holds exactly lies far within 64 bits. `omega` takes no number as long as 2 ^ 1074, so this speaks of any size n.
module _ (low high : ℤ) (l : (negsuc (2 ^ 52) ≤ℤ low) × (low ≤ℤ pos (2 ^ 52))) (g : (negsuc (2 ^ 52) ≤ℤ high) × (high ≤ℤ pos (2 ^ 52))) where
  pub near : (b : Bool) (n : ℕ) → le_z (signed b n) high ≡ true → le_z low (signed b n) ≡ true → n < 2 ^ 63
  near true zero p q = omega arith
  near true (suc n) p q = grind (arith, ints)
  near false n p q = grind (arith, ints)

-- ---- floats

pub infinity_lt : (f : Format) → infinity f < sign_bit_of f
infinity_lt f = mul-lt-mul_of_pos_right (omega arith) (weight_pos f)

-- y is the size of a finite value x, which the code has under the name v too
module _ (x v y : Float) (t : fits binary64 x ≡ true) (s : (v ≡ x) × Floats.NotNan v × (Floats.float_is_finite v ≡ true)) (e : y ≡ Floats.float_with_sign false v) where
  held : T (fits binary64 x)
  held = subst T (sym t) tt

  pub finite : Floats.float_is_finite x ≡ true
  finite = ap Floats.float_is_finite (sym s.0) ∙ s.2

  of_x : y ≡ Floats.float_with_sign false x
  of_x = e ∙ ap (Floats.float_with_sign false) s.0

  pub below : to_bits binary64 y < infinity double
  below = size_below x y of_x held finite

  module _ (f : Format) (q : ℕ) (near : Nearest f (magnitude double (to_bits binary64 y)) q) where
    here : Nearest f (units x) q
    here = subst (λ (k : ℕ). Nearest f k q) (size_is x y of_x held finite) near

    pub too_large : infinity f ≤ q → Rounds {X = ℕ} x (Err DstRangeTooSmall) f (λ p. p)
    too_large l = chosen (Floats.float_is_finite x) _ _ finite (q, here, passed (ltb q (infinity f)) _ _ (le-ltb q (infinity f) l) refl)

    pub rounds_to : q < infinity f → (sign : ℕ) → sign ≡ cond (Floats.is_sign_negative v) (sign_bit_of f) 0 → Rounds x (Ok (sign + q)) f (λ p. p)
    rounds_to l sign g =
        let k : sign ≡ cond (Floats.is_sign_negative x) (sign_bit_of f) 0 = g ∙ ap (λ (z : Float). cond (Floats.is_sign_negative z) (sign_bit_of f) 0) s.0 in
        chosen (Floats.float_is_finite x) _ _ finite (q, here, chosen (ltb q (infinity f)) _ _ (lt-ltb q (infinity f) l) (ap (λ (z : ℕ). Ok (z + q)) k))

-- ---- the truth of a value

zero_is : of_bits binary64 0 ≡ fin false 0 (pos 0)
unfolding of_bits
zero_is = refl

-- a finite value differs from 0 exactly if its digits do
nonzero : (s : Bool) (m : ℕ) (e : ℤ) → ne (fin s m e) (fin false 0 (pos 0)) ≡ not (eqb m 0)
unfolding ne eq
nonzero true zero e = simp zero-mul
nonzero false zero e = simp zero-mul
nonzero s (suc m) e =
    let p : 0 < suc m * up e = mul-pos (zero-lt-suc m) (up_pos e) in
    simp (zero-mul, mul-one, ne_eqb (suc m * up e) 0 (λ z. omega arith), ne_eqb (suc m) 0 (λ z. omega arith))

-- where the value differs from 0 only a NaN is false
pub truth_other : (x : Float) → ne x (of_bits binary64 0) ≡ true → not (is_nan x) ≡ truth x
unfolding is_nan truth
truth_other nan h = refl
truth_other (inf s) h = refl
truth_other (fin s m e) h = sym (sym (nonzero s m e) ∙ ap (ne (fin s m e)) (sym zero_is) ∙ h)

pub truth_zero : (x : Float) → ne x (of_bits binary64 0) ≡ false → ne x (of_bits binary64 0) ≡ truth x
unfolding ne eq truth
truth_zero nan h = absurd (true≢false h)
truth_zero (inf s) h = absurd (true≢false (ap (λ (y : Float). ne (inf s) y) (sym zero_is) ∙ h))
truth_zero (fin s m e) h = ap (ne (fin s m e)) zero_is ∙ nonzero s m e
