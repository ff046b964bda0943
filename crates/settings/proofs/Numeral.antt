-- Digits read one after the other.
use Rattle.std.proofs.Common.{◌≡◌, ℕ, zero, suc, ◌+◌, ◌-◌, ◌*◌, ◌<◌, ◌≤◌, Bool, true, ◌&&◌, eqb, List, [], ◌∷◌, length, get_or, drop, Some, None, decimal, Decides, Option, sym, ap, ◌∙◌, add-one, arith, drop-cons, Bor, rules}
use Rattle.std.specs.Char.{is_ascii_digit}
use Rattle.std.specs.Str.{all_ascii_digits}
use Rattle.std.proofs.lemmas.Bool.Decides.{nat_tests, Decides-eqb, Decides-like}
use Rattle.std.proofs.lemmas.Bool.{and_parts}
use Rattle.std.proofs.lemmas.Str.Parse.{IsNumeralModel, numerals_by_fold}
use Rattle.std.proofs.lemmas.Fmt.{decimal-digits_value, digits_decimal, digits_value-decimal, first_decimal, decimal_digit, decimal_nonempty}
use Rattle.settings.specs.Keys.{read_on, Plain}

own : IsNumeralModel (λ ds. all_ascii_digits ds ≡ true) (read_on 0)
own = numerals_by_fold _ (search rules) read_on (search rules)

pub read_on_ge : (n : ℕ) (cs : List ℕ) → n ≤ read_on n cs
read_on_ge n [] = omega arith
read_on_ge n (c ∷ cs) = omega (arith, read_on_ge (10 * n + (c - 48)) cs)

module _ (bs : List ℕ) (i n : ℕ) (l : i < length bs) (r : read_on n (drop i bs) ≡ read_on 0 bs) (a : all_ascii_digits (drop i bs) ≡ all_ascii_digits bs) where
  cut : drop i bs ≡ get_or bs i 0 ∷ drop (i + 1) bs
  cut = rw (add-one, drop-cons bs i 0)

  pub read_more : read_on (10 * n + (get_or bs i 0 - 48)) (drop (i + 1) bs) ≡ read_on 0 bs
  read_more = sym (ap (read_on n) cut) ∙ r

  pub digits_more : 48 ≤ get_or bs i 0 → get_or bs i 0 ≤ 57 → all_ascii_digits (drop (i + 1) bs) ≡ all_ascii_digits bs
  digits_more p q =
      let t : is_ascii_digit (get_or bs i 0) ≡ true = grind (arith, nat_tests) in
      ap (λ x. x && all_ascii_digits (drop (i + 1) bs)) (sym t) ∙ sym (ap all_ascii_digits cut) ∙ a

  pub a_digit : all_ascii_digits bs ≡ true → (48 ≤ get_or bs i 0) × (get_or bs i 0 ≤ 57)
  a_digit d =
      let t : is_ascii_digit (get_or bs i 0) ≡ true = (and_parts (is_ascii_digit (get_or bs i 0)) (all_ascii_digits (drop (i + 1) bs)) (sym (ap all_ascii_digits cut) ∙ a ∙ d)).0 in
      (grind (arith, nat_tests), grind (arith, nat_tests))

  pub read_ge : 10 * n + (get_or bs i 0 - 48) ≤ read_on 0 bs
  read_ge = omega (arith, read_on_ge (10 * n + (get_or bs i 0 - 48)) (drop (i + 1) bs), read_more)

-- ---- numerals

-- digits with no zero in front are how their number is written
pub written : (bs : List ℕ) (n : ℕ) → Plain bs → (n ≤ 65535) × (all_ascii_digits bs ≡ true) × (read_on 0 bs ≡ n) → (n ≤ 65535) × (bs ≡ decimal n)
written bs n p h =
    let v = h.2 in let l = h.0 in
    (l, sym (decimal-digits_value own bs h.1 p.0 p.1 (omega arith)) ∙ ap decimal v)

pub not_written : (bs : List ℕ) → (all_ascii_digits bs ≡ true → read_on 0 bs ≤ 65535 → ⊥) → (n : ℕ) → n ≤ 65535 → bs ≡ decimal n → ⊥
not_written bs h n l e =
    let d : all_ascii_digits bs ≡ true = ap all_ascii_digits e ∙ digits_decimal own n (omega arith) in
    let v : read_on 0 bs ≡ n = ap (read_on 0) e ∙ digits_value-decimal own n (omega arith) in
    h d (omega arith)

-- what is written in decimal has no zero in front
pub plain_decimal : (bs : List ℕ) (n : ℕ) → n ≤ 65535 → bs ≡ decimal n → Plain bs
plain_decimal bs zero l e =
    let k : length bs ≡ 1 = ap length (e ∙ decimal_digit 0 (omega arith)) in (omega arith, λ _. k)
plain_decimal bs (suc n) l e =
    let f = first_decimal (suc n) (omega arith) (omega arith) in
    let g : get_or bs 0 0 ≡ get_or (decimal (suc n)) 0 0 = ap (λ x. get_or x 0 0) e in
    (omega (arith, ap length e, decimal_nonempty (suc n) (omega arith)), λ z. absurd (omega arith))
