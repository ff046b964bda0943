-- What has no scalar's name.
use Rattle.std.proofs.Common.{◌≡◌, ◌≢◌, ℕ, ◌<◌, List, [], ◌∷◌, ◌++◌, Some, None, decimal, Option, sym, ap, ◌∙◌, arith, MatchOption, unwrap_or, refl, subst, is_some, true, get_or, Bor}
use Rattle.std.specs.Option.{option_map}
use Rattle.std.specs.List.{AllWithin}
use mathlib.Core.List.{append_cancel_left}
use Rattle.std.proofs.lemmas.Bool.Decides.{nat_tests}
use Rattle.std.proofs.lemmas.Fmt.{decimal_injective}
use Rattle.rounding.specs.declared.scalars.ScalarKind.{ScalarKind}
use Rattle.rounding.specs.declared.scalars.ScalarKind.TheVariants.{Sint, Uint, Float, Bool}
use Rattle.listing.specs.Names.{kind_word, short_name, kind_name}

-- a width is read in one way
pub one_width : (word kind : List ℕ) (v w : ℕ) → v < 256 → w < 256 → word ≡ kind ++ decimal v → word ≡ kind ++ decimal w → w ≡ v
one_width word kind v w v_small w_small e is = decimal_injective w v (omega (arith, w_small)) (omega (arith, v_small)) (append_cancel_left kind (decimal w) (decimal v) (sym is ∙ e))

-- no other width has a name of its own
no_short : (k : ScalarKind) (w : ℕ) → w ≢ 1 → w ≢ 2 → w ≢ 4 → w ≢ 8 → short_name k w ≡ None
no_short Sint w n1 n2 n4 n8 = grind (arith, nat_tests)
no_short Uint w n1 n2 n4 n8 = grind (arith, nat_tests)
no_short Float w n1 n2 n4 n8 = grind (arith, nat_tests)
no_short Bool w n1 n2 n4 n8 = grind (arith, nat_tests)

pub shorts : (k : ScalarKind) (word : List ℕ) → AllWithin (λ w. short_name k w ≢ Some word) (1 ∷ 2 ∷ 4 ∷ 8 ∷ []) 0 4 → (w : ℕ) → short_name k w ≢ Some word
shorts k word none w e =
    let n1 : w ≢ 1 = λ is. none 0 0 (omega arith) (omega arith) (subst (λ v. short_name k v ≡ Some word) is e) in
    let n2 : w ≢ 2 = λ is. none 1 0 (omega arith) (omega arith) (subst (λ v. short_name k v ≡ Some word) is e) in
    let n4 : w ≢ 4 = λ is. none 2 0 (omega arith) (omega arith) (subst (λ v. short_name k v ≡ Some word) is e) in
    let n8 : w ≢ 8 = λ is. none 3 0 (omega arith) (omega arith) (subst (λ v. short_name k v ≡ Some word) is e) in
    cc (no_short k w n1 n2 n4 n8)

pub weaker : {A : Type 0} {P P' : Type 0} {Q Q' : A → Type 0} (r : Option A) → MatchOption r P Q → (P → P') → ((x : A) → Q x → Q' x) → MatchOption r P' Q'
weaker None h f g = f h
weaker (Some x) h f g = g x h

named : (o : Option (List ℕ)) (word long : List ℕ) → o ≢ Some word → (o ≡ None → word ≢ long) → word ≢ unwrap_or o long
named None word long own other e = other refl e
named (Some name) word long own other e = own (ap Some (sym e))

-- neither a name of its own nor one by word and width
pub not_named : (k : ScalarKind) (word : List ℕ) → ((w : ℕ) → short_name k w ≢ Some word) → ((w : ℕ) → w < 256 → short_name k w ≡ None → word ≢ kind_word k ++ decimal w) → (w : ℕ) → w < 256 → word ≢ kind_name k w
not_named k word own other w small = named (short_name k w) word (kind_word k ++ decimal w) (own w) (other w small)

pub none_named : (o : Option (Bor (List ℕ))) → is_some o ≡ true → option_map (λ s. s.now) o ≡ None → ⊥
none_named None h e = cc
none_named (Some x) h e = cc

-- every kind is in the list that is gone through
pub each_kind : (P : ScalarKind → Type 0) → ((i : ℕ) → i < 4 → P (get_or (Sint ∷ Uint ∷ Float ∷ Bool ∷ []) i Sint)) → (k : ScalarKind) → P k
each_kind P h Sint = h 0 (omega arith)
each_kind P h Uint = h 1 (omega arith)
each_kind P h Float = h 2 (omega arith)
each_kind P h Bool = h 3 (omega arith)
