-- Settings give one list of values.
use Rattle.std.proofs.Common.{◌≡◌, ℕ, suc, ◌<◌, ◌≤◌, List, [], ◌∷◌, length, Some, None, Option, refl, sym, ap, ◌∙◌, subst, inl, inr, ⊎_elim, arith}
use Rattle.std.specs.Float.Ieee as Ieee
use Rattle.std.specs.List.{slice_get}
use Rattle.std.proofs.lemmas.Bool.{cases_lt}
use Rattle.std.proofs.lemmas.Option.{slice_get_cases, slice_get_within}
use Rattle.settings.specs.First.{Least}
use Rattle.settings.specs.Layout.{Given}
use Rattle.settings.specs.Reading.{value_at}
use Rattle.rounding.specs.declared.scalars.Scalar.{Scalar}
use Rattle.rounding.specs.declared.literals.Literal.{Literal}
use Rattle.rounding.specs.Conversion.{Answer}
use Rattle.rounding.proofs.Pinning.{pinned}
use Rattle.ir.specs.declared.tables.Override.{Override}
use Rattle.walking.specs.declared.overrides.Valued.{Valued}
use Rattle.overrides.specs.Values.{ConvertedIf, GivenTo, ValuedAs}
use Rattle.overrides.specs.Standing.{ValuedOnce}

least_once : (P : ℕ → Type 0) (a b : Option ℕ) → Least P a → Least P b → b ≡ a
least_once P None None h k = refl
least_once P None (Some j) h k = absurd (h j k.0)
least_once P (Some i) None h k = absurd (k i h.0)
least_once P (Some i) (Some j) h k =
    ⊎_elim (λ (l : i < j). absurd (k.1 i l h.0)) (λ (m : j ≤ i). ⊎_elim (λ (l : j < i). absurd (h.1 j l k.0)) (λ (n : i ≤ j). ap Some (omega (arith, m, n))) (cases_lt j i)) (cases_lt i j)

given_once : (g : Given) (names : List ℕ) (o : Override) (x y : Option Ieee.Float) → GivenTo g names o x → GivenTo g names o y → y ≡ x
given_once g names o x y h k =
    k.value ∙ ap (value_at g) (least_once _ h.key k.key h.taken.first k.taken.first) ∙ sym h.value

converted_once : (scalar : Scalar) (x : Option Ieee.Float) (r s : Option (Answer Literal)) → ConvertedIf scalar x r → ConvertedIf scalar x s → s ≡ r
converted_once scalar None r s h k = k ∙ sym h
converted_once scalar (Some x) r s h k = k.1 ∙ ap Some ((pinned scalar x h.0 h.2).only k.0 k.2) ∙ sym h.1

same_valued : (v w : Valued) → w.given ≡ v.given → w.init ≡ v.init → w ≡ v
same_valued v w e f =
    ap (λ r. record { given = r; init = w.init }) e ∙ ap (λ i. record { given = v.given; init = i }) f

as_once : (g : Given) (names : List ℕ) (o : Override) (v w : Valued) → ValuedAs g names o v → ValuedAs g names o w → w ≡ v
as_once g names o v w h k =
    let same : k.value ≡ h.value = given_once g names o h.value k.value h.given k.given in
    same_valued v w (converted_once o.scalar h.value v.given w.given h.converted (subst (λ x. ConvertedIf o.scalar x w.given) same k.converted)) (k.init ∙ sym h.init)

-- lists that hold the same at each place are the same
same_list : {A : Type 0} (xs ys : List A) → length ys ≡ length xs → ((p : ℕ) (x y : A) → slice_get xs p ≡ Some x → slice_get ys p ≡ Some y → y ≡ x) → ys ≡ xs
same_list [] [] e h = refl
same_list [] (y ∷ ys) e h = absurd (omega (arith, e))
same_list (x ∷ xs) [] e h = absurd (omega (arith, e))
same_list (x ∷ xs) (y ∷ ys) e h =
    let rest : ys ≡ xs = same_list xs ys (omega (arith, e)) (λ p. h (suc p)) in
    let first : y ≡ x = h 0 x y refl refl in cc

pub valued_once : ValuedOnce
valued_once g names os vs ws h k =
    same_list vs ws (k.every ∙ sym h.every)
    (λ p v w at_v at_w. elim (slice_get_cases os p).1 [
      | inl a ↦ as_once g names a.0 v w (h.each p a.0 v a.2 at_v) (k.each p a.0 w a.2 at_w)
      | inr a ↦ absurd (past p (length vs) (length os) h.every (slice_get_within vs p v at_v) a.0)
    ])
  where
    past : (p n k : ℕ) → n ≡ k → p < n → k ≤ p → ⊥
    past p n k e l m = omega (arith, e, l, m)
