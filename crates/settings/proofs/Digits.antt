-- A word is a number's decimal digits just where `parse` reads it and it begins well.
use Rattle.std.proofs.Common.{◌≡◌, ℕ, zero, suc, ◌^◌, ◌<◌, ◌≤◌, ◌⊎◌, List, length, get_or, is_ok, Ok, Err, decimal, Result, sym, ap, subst, ◌∙◌, inl, inr, true≢false, eq-or-lt_of_le, lit<, arith, MatchOption}
use Rattle.std.proofs.lemmas.Fmt.{decimal_digit, first_decimal, parse-decimal, decimal-digits_value, IsAscii-decimal}
use Rattle.std.proofs.lemmas.Str.{IsUtf8-from_ascii}
use Rattle.std.specs.Str.{IsUtf8}
use Rattle.std.proofs.lemmas.Str.Parse.{IsNumeralModel, numerals_by_value, tells_digits, parse_plain}
use Rattle.std.proofs.Math.Nat.{pow-le-pow_right}
use Rattle.std.specs.Str.Parse.{AllDigits, digits_value, ParsesUnsigned}
use Rattle.std.specs.Result.{result_ok, result_map_both}
use Rattle.settings.specs.Decimals.{Ill}

own : IsNumeralModel (AllDigits 10) (digits_value 10)
own = numerals_by_value _ tells_digits

-- how a number's digits begin
first_of : (n : ℕ) → n < 2 ^ 64 → (48 < get_or (decimal n) 0 0) ⊎ ((get_or (decimal n) 0 0 ≡ 48) × (length (decimal n) ≡ 1))
first_of zero small = inr (ap (λ l. get_or l 0 0) (decimal_digit 0 (omega arith)), ap length (decimal_digit 0 (omega arith)))
first_of (suc m) small = inl (first_decimal (suc m) (omega arith) small)

-- no number is written so
pub ill_is_none : (bs : List ℕ) (n : ℕ) → n < 2 ^ 64 → Ill bs → bs ≡ decimal n → ⊥
ill_is_none bs n small ill e =
    let same : get_or bs 0 0 ≡ get_or (decimal n) 0 0 = ap (λ l. get_or l 0 0) e in
    let long : length bs ≡ length (decimal n) = ap length e in
    elim (first_of n small) [
      | inl above ↦ elim ill [ inl plus ↦ omega (arith, above, plus, same) | inr more ↦ omega (arith, above, more.0, same) ]
      | inr one ↦ elim ill [ inl plus ↦ omega (arith, one.0, plus, same) | inr more ↦ omega (arith, more.1, long, one.1) ]
    ]

pub below : (k : ℕ) → k ≤ 64 → 2 ^ k ≤ 2 ^ 64
below k few = pow-le-pow_right {n = 2} (lit< tt) {i = k} {j = 64} few

single : (bs : List ℕ) → 0 < length bs → (1 < length bs → ⊥) → length bs ≡ 1
single bs some short = elim (eq-or-lt_of_le {n = 1} {m = length bs} some) [ inl e ↦ sym e | inr more ↦ elim (short more) [ ] ]

pub read : {A E : Type 0} (number : A → ℕ) (k : ℕ) (bs : List ℕ) (r : Result A E) → k ≤ 64 → (Ill bs → ⊥) → ParsesUnsigned k 10 bs (result_map_both number (λ (e : E). e) r) →
    MatchOption (result_ok r) ((n : ℕ) → n < 2 ^ k → bs ≡ decimal n → ⊥) (λ x. bs ≡ decimal (number x))
read {A} {E} number k bs (Ok x) fits well h =
    let got = parse_plain own {E = E} k bs (Ok (number x)) h (λ plus. well (inl plus)) in
    let back = decimal-digits_value own bs got.0.0 got.0.1 (λ zeros. single bs got.0.1 (λ more. well (inr (zeros, more)))) (omega (arith, got.0.2, below k fits)) in
    sym back ∙ ap decimal (sym got.1)
read {A} {E} number k bs (Err e) fits well h = λ n small is. true≢false (sym (ap is_ok (parse-decimal {E = E} k n bs (Err e) small (omega (arith, small, below k fits)) is h)))

-- a number's digits are text
pub text_decimal : (bs : List ℕ) (n : ℕ) → n ≤ 65535 → bs ≡ decimal n → IsUtf8 bs
text_decimal bs n small e = subst IsUtf8 (sym e) (IsUtf8-from_ascii (decimal n) (IsAscii-decimal n (omega arith)))
