-- What stands at a place of a list.
use Rattle.std.proofs.Common.{◌≡◌, ℕ, zero, suc, ◌+◌, ◌<◌, ◌≤◌, Bool, true, false, Decides, List, [], ◌∷◌, length, get_or, take, Some, None, Option, sym, refl, ap, zero-add, ◌∙◌, subst, ⊎_elim, inl, inr, arith, MatchOption, MatchBool}
use Rattle.std.proofs.lemmas.Iterator.Consumers.{YieldsList-from_first}
use Rattle.std.specs.Iterator.{AlwaysYields, YieldsFirstRef}
use Rattle.std.specs.List.{slice_get, enumerate_from, AllWithin, HoldsAt}
use Rattle.std.specs.Option.{option_map}
use Rattle.std.specs.Borrow.{Bor}
use Rattle.std.proofs.lemmas.List.FromFn.{length-enumerate_from, get_or-enumerate_from}
use Rattle.std.proofs.lemmas.Bool.{cases_lt, false≢true}
use Rattle.std.proofs.lemmas.Option.{slice_get-get_or, slice_get_within, slice_get_read, slice_get_cases, none-some, get_or_from_slice_get}
use Rattle.settings.specs.First.{Least, Holds}
use Rattle.settings.specs.Layout.{Among, Distinct}
use Rattle.settings.specs.Keys.{Taken}
use Rattle.settings.specs.Reading.{KeyAt}
use Rattle.settings.specs.declared.naming.Identifier.{Identifier}

pub nth_take : {A : Type 0} (xs : List A) (n i : ℕ) → i < n → slice_get (take n xs) i ≡ slice_get xs i
nth_take [] zero i h = absurd (omega arith)
nth_take [] (suc n) i h = refl
nth_take (x ∷ xs) zero i h = absurd (omega arith)
nth_take (x ∷ xs) (suc n) zero h = refl
nth_take (x ∷ xs) (suc n) (suc i) h = nth_take xs n i (omega arith)

-- of distinct keys, equal ones stand at one place
pub same_place : (ks : List (List ℕ)) (i j : ℕ) (k : List ℕ) → Distinct ks → slice_get ks i ≡ Some k → slice_get ks j ≡ Some k → i ≡ j
same_place ks i j k d p q =
    ⊎_elim (λ (l : i < j). absurd (d j (k, q, (i, nth_take ks j i l ∙ p))))
    (λ (m : j ≤ i). ⊎_elim (λ (l : j < i). absurd (d i (k, p, (j, nth_take ks i j l ∙ q)))) (λ (n : i ≤ j). omega arith) (cases_lt j i)) (cases_lt i j)

-- ---- the first place of a chain that has P

-- what `position` answers, where Yes and No are what its closure tells
abbrev pub Found : {A : Type 0} → (A → Type 0) → (A → Type 0) → List A → Option ℕ → Type 0
Found Yes No xs r = MatchOption r (AllWithin No xs 0 (length xs)) (λ i. (i < length xs) × HoldsAt Yes xs i × AllWithin No xs 0 i)

none_before : {A : Type 0} (P No : A → Type 0) (xs : List A) (n : ℕ) → ((x : A) → No x → P x → ⊥) → AllWithin No xs 0 n → (k : ℕ) → k < n → Holds P xs k → ⊥
none_before P No xs n apart h k l t = apart t.0 (subst No (get_or_from_slice_get xs k t.0 t.0 t.1) (h k t.0 (omega arith) l)) t.2

pub least_found : {A : Type 0} (P No : A → Type 0) (xs : List A) (r : Option ℕ) → ((x : A) → No x → P x → ⊥) → Found P No xs r → Least (Holds P xs) r
least_found P No xs None apart h = λ k t. none_before P No xs (length xs) apart h k (slice_get_within xs k t.0 t.1) t
least_found P No [] (Some i) apart h = absurd (omega (arith, h.0))
least_found P No (x ∷ xs) (Some i) apart h =
    ((get_or (x ∷ xs) i x, slice_get-get_or (x ∷ xs) i x h.0, h.1 x), none_before P No (x ∷ xs) i apart h.2)

-- what `any` answers, where its closure tells whether a key is k
pub among_any : (k : List ℕ) (ks : List (List ℕ)) (r : Bool) →
    MatchBool r ((j : ℕ) × (j < length ks) × HoldsAt (λ x. x ≡ k) ks j) (AllWithin (λ x. x ≡ k → ⊥) ks 0 (length ks)) → Decides r (Among k ks)
among_any k ks true h = (λ _. (h.0, slice_get_read ks (length ks) h.0 k refl h.1 (sym (h.2 k))), λ _. refl)
among_any k ks false h = (λ t. absurd (false≢true t), λ t. absurd (h t.0 k (omega arith) (slice_get_within ks t.0 k t.1) (get_or_from_slice_get ks t.0 k k t.1)))

-- ---- one key

pub key_at : (ks : List (List ℕ)) (i : ℕ) (r : Option (Bor (List ℕ))) → option_map (λ k. k.now) r ≡ slice_get ks i → KeyAt ks i r
key_at ks i None e = elim (slice_get_cases ks i).1 [ inl s ↦ absurd (none-some s.0 (e ∙ s.2)) | inr m ↦ m.0 ]
key_at ks i (Some k) e = sym e

pub all_taken : (ks : List (List ℕ)) (ws : List Identifier) → Found (λ k. Taken ws k → ⊥) (Taken ws) ks None → (i : ℕ) (k : List ℕ) → slice_get ks i ≡ Some k → Taken ws k
all_taken ks ws h i k e = subst (Taken ws) (get_or_from_slice_get ks i k k e) (h i k (omega arith) (slice_get_within ks i k e))

-- ---- the first repeated key

-- what a turn of a loop over keys, each beside its place, is at
pub at_turn : (ks : List (List ℕ)) (n i : ℕ) (k : List ℕ) → (n < length (enumerate_from 0 ks)) × ((i, k) ≡ get_or (enumerate_from 0 ks) n (i, k)) → (i ≡ n) × (slice_get ks n ≡ Some k)
at_turn ks n i k h =
    let l : n < length ks = omega (arith, h.0, length-enumerate_from 0 ks) in
    let e : (i, k) ≡ (0 + n, get_or ks n k) = h.1 ∙ get_or-enumerate_from 0 ks n (i, k) l in
    (ap (λ p. p.0) e ∙ zero-add n, slice_get_read ks (length ks) n k refl l (ap (λ p. p.1) e))

-- a walk that shows what is left gives that
pub walked : {S : Type 0} (left : S → List (List ℕ)) (s : S) → AlwaysYields (YieldsFirstRef left) (λ k. k.now) s (left s)
walked left s = (YieldsList-from_first (λ k. k.now) left (left s) refl).runs
