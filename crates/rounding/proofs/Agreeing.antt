-- The specs' magnitude is what the logic's `of_bits` reads. Assumes nothing.
use Rattle.std.proofs.Common.{◌≡◌, ℕ, zero, suc, ◌+◌, ◌-◌, ◌*◌, ◌/◌, ◌%◌, ◌^◌, ◌<◌, ◌≤◌, Bool, leb, sym, refl, ap, ◌∙◌, subst, inl, inr, mod-eq_of_lt, mul_assoc, mul-one, mul_right_comm, arith, pow-add, ne_eqb}
use native.Mathlib.Nat.{div-eq_of_lt}
use Rattle.std.proofs.lemmas.Nat.{div_below, le-div}
use lib.Ieee as Ieee
use lib.Ieee.{Float, nan, inf, fin, up, down, of_fields, of_bits, odd, prec, hid, ones, top, binary32, binary64}
use lib.Ieee.Exact.{HasValue, odd_sign}
use Rattle.std.proofs.lemmas.Bool.{cases_lt}
use Rattle.rounding.specs.Formats.{infinity, step, significand, doublings, magnitude}
use Rattle.rounding.specs.Agrees.{format_of, Agrees}
use Rattle.rounding.proofs.Patterns.{weight_pos, significand_low, significand_high, magnitude_is}

scale : (x : Float) (s : Bool) (a l j : ℕ) → HasValue x s a (2 ^ l) → HasValue x s (a * 2 ^ j) (2 ^ (l + j))
scale nan s a l j h = absurd h
scale (inf t) s a l j h = absurd h
scale (fin t m e) s a l j h = (
  h.0,
  ap (λ (z : ℕ). m * up e * z) (pow-add 2 l j) ∙ sym (mul_assoc (m * up e) (2 ^ l) (2 ^ j)) ∙ ap (λ (z : ℕ). z * 2 ^ j) h.1 ∙ mul_right_comm a (down e) (2 ^ j),
)

-- the smallest values are 2 ^ -low, and 2 ^ step units
steps : (f : Ieee.Format) → Ieee.low f + step (format_of f) ≡ 1074
steps binary32 = refl
steps binary64 = refl

fields : (f : Ieee.Format) (s : Bool) (x t n : ℕ) → x < ones f → (x ≡ 0 → n ≡ t) → ((y : ℕ) → x ≡ suc y → n ≡ (hid f + t) * 2 ^ y) → HasValue (of_fields f s x t) s n (2 ^ Ieee.low f)
unfolding of_fields
fields f s zero t n l z h = subst (λ (k : ℕ). HasValue (odd (prec f) s t 0 (Ieee.low f)) s k (2 ^ Ieee.low f)) (mul-one t ∙ sym (z refl)) (odd_sign (prec f) s t 0 (Ieee.low f))
fields f s (suc y) t n l z h =
    simp (ne_eqb (suc y) (ones f) (λ e. omega arith))
    (subst (λ (k : ℕ). HasValue (odd (prec f) s (hid f + t) y (Ieee.low f)) s k (2 ^ Ieee.low f)) (sym (h y refl)) (odd_sign (prec f) s (hid f + t) y (Ieee.low f)))

-- a pattern without its sign
apart : (f : Ieee.Format) (b : ℕ) → (b % top f) % hid f ≡ b % hid f
apart binary32 b = omega arith
apart binary64 b = omega arith

read : (f : Ieee.Format) (b : ℕ) → of_bits f b ≡ of_fields f (leb (top f) b) (b % top f / hid f) (b % top f % hid f)
unfolding of_bits
read f b = ap (λ (x : ℕ). of_fields f (leb (top f) b) (b % top f / hid f) x) (sym (apart f b))

value : (f : Ieee.Format) (s : Bool) (q : ℕ) → q < infinity (format_of f) → HasValue (of_fields f s (q / hid f) (q % hid f)) s (significand (format_of f) q * 2 ^ doublings (format_of f) q) (2 ^ Ieee.low f)
unfolding doublings
value f s q l =
    let g = format_of f in
    let w = weight_pos g in
    let m = significand g q in
    fields f s (q / hid f) (q % hid f) (m * 2 ^ (q / hid f - 1)) (div_below q (hid f) (ones f) w l)
    (λ z.
    let lo : q < hid f = elim (cases_lt q (hid f)) [ inl h ↦ h | inr h ↦ absurd (omega (arith, le-div 1 q (hid f) w (omega arith))) ] in
    ap (λ (x : ℕ). m * 2 ^ (x - 1)) z ∙ mul-one m ∙ significand_low g q lo ∙ sym (mod-eq_of_lt lo))
    (λ y e.
    let hi : hid f ≤ q = elim (cases_lt q (hid f)) [ inl h ↦ absurd (omega (arith, div-eq_of_lt h)) | inr h ↦ h ] in
    let d : q / hid f - 1 ≡ y = omega arith in
    ap (λ (x : ℕ). m * 2 ^ x) d ∙ ap (λ (x : ℕ). x * 2 ^ y) (significand_high g q hi))

signed : (f : Ieee.Format) (b q : ℕ) → q ≡ b % top f → q < infinity (format_of f) → HasValue (of_bits f b) (leb (top f) b) (magnitude (format_of f) q) (2 ^ 1074)
signed f b q is l =
    let g = format_of f in
    let s = leb (top f) b in
    let a = significand g q in
    let d = doublings g q in
    let r : of_bits f b ≡ of_fields f s (q / hid f) (q % hid f) = read f b ∙ ap (λ (x : ℕ). of_fields f s (x / hid f) (x % hid f)) (sym is) in
    let v : HasValue (of_bits f b) s (a * 2 ^ d) (2 ^ Ieee.low f) = subst (λ (x : Float). HasValue x s (a * 2 ^ d) (2 ^ Ieee.low f)) (sym r) (value f s q l) in
    let n : a * 2 ^ d * 2 ^ step g ≡ magnitude g q = mul_assoc a (2 ^ d) (2 ^ step g) ∙ ap (λ (x : ℕ). a * x) (sym (pow-add 2 d (step g))) ∙ sym (magnitude_is g q) in
    subst (λ (k : ℕ). HasValue (of_bits f b) s (magnitude g q) (2 ^ k)) (steps f)
    (subst (λ (k : ℕ). HasValue (of_bits f b) s k (2 ^ (Ieee.low f + step g))) n (scale (of_bits f b) s (a * 2 ^ d) (Ieee.low f) (step g) v))

pub agrees : Agrees
agrees binary32 b l = signed binary32 b (b % 2 ^ 31) refl l
agrees binary64 b l = signed binary64 b (b % 2 ^ 63) refl l
