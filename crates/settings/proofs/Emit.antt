-- A settings file, put together part by part.
use Rattle.std.proofs.Common.{◌≡◌, ℕ, zero, suc, ◌+◌, ◌/◌, ◌%◌, ◌^◌, ◌<◌, ◌≤◌, List, [], ◌∷◌, ◌++◌, length, get_or, take, Some, None, Ok, Err, sym, refl, ap, ◌∙◌, subst, ⊎_elim, arith, w8, Fits}
use lib.Ieee.{to_bits, binary64}
use Rattle.std.specs.List.{flat_map, AllByRecursion}
use Rattle.std.specs.Option.{option_map}
use Rattle.std.proofs.lemmas.List.{map_more, flat_map_more, length-map}
use Rattle.std.proofs.ByRecursion.{All-push}
use Rattle.std.proofs.lemmas.Option.{slice_get-get_or, slice_get-map}
use Rattle.std.proofs.lemmas.Bool.{cases_lt}
use Rattle.settings.specs.First.{Least}
use Rattle.settings.specs.Layout.{Given, Valid, Encodes, Repeats, Distinct, bytes_of}
use Rattle.settings.specs.Reading.{given}
use Rattle.settings.specs.Written.{keys_of, value_bits_of, given_by, TooLong, Restored, ValuesBack, ReadsBack}
use Rattle.settings.specs.declared.writing.Setting.{Setting}

-- ---- one setting more

-- the bytes of a number as they are taken off it
abbrev pub eight : ℕ → List ℕ
eight n =
    (n % 256) ∷ (n / 256 % 256) ∷ (n / 65536 % 256) ∷ (n / 16777216 % 256) ∷ (n / 4294967296 % 256) ∷ (n / 1099511627776 % 256) ∷ (n / 281474976710656 % 256) ∷ (n / 72057594037927936 % 256) ∷ []

eight_bytes : (n : ℕ) → bytes_of 8 n ≡ eight n
eight_bytes n =
    let a : n / 256 / 256 ≡ n / 65536 = omega arith in
    let b : n / 256 / 256 / 256 ≡ n / 16777216 = omega arith in
    let c : n / 256 / 256 / 256 / 256 ≡ n / 4294967296 = omega arith in
    let d : n / 256 / 256 / 256 / 256 / 256 ≡ n / 1099511627776 = omega arith in
    let e : n / 256 / 256 / 256 / 256 / 256 / 256 ≡ n / 281474976710656 = omega arith in
    let f : n / 256 / 256 / 256 / 256 / 256 / 256 / 256 ≡ n / 72057594037927936 = omega arith in
    cc

module _ (ss : List Setting) (i : ℕ) (d : Setting) (l : i < length ss) (b : ℕ) (is : b ≡ to_bits binary64 (get_or ss i d).value) where
  value_more : value_bits_of (take (i + 1) ss) ≡ value_bits_of (take i ss) ++ b ∷ []
  value_more = map_more (λ s. to_bits binary64 s.value) ss i d l ∙ ap (λ x. value_bits_of (take i ss) ++ x ∷ []) (sym is)

  pub values_more : (old now' next put : List ℕ) → now' ≡ old ++ flat_map (bytes_of 8) (value_bits_of (take i ss)) → next ≡ now' ++ put → put ≡ eight b →
      next ≡ old ++ flat_map (bytes_of 8) (value_bits_of (take (i + 1) ss))
  values_more old now' next put e f p =
      f ∙ ap (λ x. now' ++ x) (p ∙ sym (eight_bytes b)) ∙ ap (λ x. x ++ bytes_of 8 b) e ∙ flat_map_more (bytes_of 8) old (value_bits_of (take i ss)) b ∙ ap (λ bs. old ++ flat_map (bytes_of 8) bs) (sym value_more)

  pub doubles_more : AllByRecursion (λ x. x < 2 ^ 64) (value_bits_of (take i ss)) → b < 2 ^ 64 → AllByRecursion (λ x. x < 2 ^ 64) (value_bits_of (take (i + 1) ss))
  doubles_more h k = subst (AllByRecursion (λ x. x < 2 ^ 64)) (sym value_more) (All-push (λ x. x < 2 ^ 64) (value_bits_of (take i ss)) b h k)

-- ---- keys that are short enough

short_at : (ss : List Setting) (i : ℕ) (d : Setting) → Least (TooLong (keys_of ss)) None → i < length ss → length (get_or ss i d).key.now ≤ 255
short_at ss i d h l =
    ⊎_elim (λ (m : 255 < length (get_or ss i d).key.now). absurd (h i ((get_or ss i d).key.now, slice_get-map (λ s. s.key.now) ss i ∙ ap (option_map (λ s. s.key.now)) (slice_get-get_or ss i d l), m)))
    (λ m. m) (cases_lt 255 (length (get_or ss i d).key.now))

pub short_fits : (ss : List Setting) (i : ℕ) (d : Setting) → Least (TooLong (keys_of ss)) None → i < length ss → Fits w8 (length (get_or ss i d).key.now)
short_fits ss i d h l = omega (arith, short_at ss i d h l)

short_all : (ks : List (List ℕ)) → Least (TooLong ks) None → AllByRecursion (λ k. length k < 256) ks
short_all [] h = tt
short_all (k ∷ ks) h =
    let one : length k < 256 = ⊎_elim (λ (m : 255 < length k). absurd (h 0 (k, refl, m))) (λ (m : length k ≤ 255). omega arith) (cases_lt 255 (length k)) in
    (one, short_all ks (λ i t. h (suc i) t))

-- ---- the whole

pub valid_settings : (ss : List Setting) → length ss ≤ 4096 → Least (TooLong (keys_of ss)) None → AllByRecursion (λ x. x < 2 ^ 64) (value_bits_of ss) → Valid (given_by ss)
valid_settings ss few short doubles =
    record {
      few = omega (arith, length-map ss (λ s. s.key.now));
      paired = length-map ss (λ s. to_bits binary64 s.value) ∙ sym (length-map ss (λ s. s.key.now));
      short = short_all (keys_of ss) short;
      doubles = doubles;
    }

pub values_back : (ss : List Setting) → AllByRecursion Restored ss → ValuesBack ss
values_back [] h i = refl
values_back (s ∷ ss) h zero = ap Some h.0
values_back (s ∷ ss) h (suc i) = values_back ss h.1 i

pub reads_back : (bs : List ℕ) (g : Given) → Encodes bs g → Distinct g.keys → ReadsBack bs g
reads_back bs g en d (Ok s) h = (s, refl, en.only (given s) h.0.valid h.0.is)
reads_back bs g en d (Err e) h =
    absurd (⊎_elim (λ p. p.1 g en.valid en.is)
    (λ q. let same : q.1 ≡ g = en.only q.1 q.3.valid q.3.is in d q.0 (subst (λ (x : Given). Repeats x.keys q.0) same q.4.0)) h)
