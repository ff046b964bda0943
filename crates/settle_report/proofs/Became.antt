-- What became of the overrides so far, and of one more.
use Rattle.std.proofs.Common.{◌≡◌, ℕ, ◌+◌, ◌<◌, List, [], ◌∷◌, ◌++◌, length, take, get_or, sym, subst, Result}
use Rattle.std.specs.List.{AllZip}
use Rattle.std.proofs.lemmas.List.{take_more}
use Rattle.ir.specs.declared.tables.Override.{Override}
use Rattle.settings.specs.Layout.{Given}
use Rattle.report.specs.declared.outcomes.Outcome.{Outcome}
use Rattle.report.specs.declared.outcomes.Unresolved.{Unresolved}
use Rattle.settle_report.specs.Outcomes.{Became, AllBecame}

-- two lists side by side, and one item more on each
all_zip_push : {A B : Type 0} (R : A → B → Type 0) (xs : List A) (ys : List B) (x : A) (y : B) → AllZip R xs ys → R x y → AllZip R (xs ++ x ∷ []) (ys ++ y ∷ [])
all_zip_push R [] [] x y h r = (r, tt)
all_zip_push R [] (z ∷ ys) x y h r = elim h [ ]
all_zip_push R (w ∷ xs) [] x y h r = elim h [ ]
all_zip_push R (w ∷ xs) (z ∷ ys) x y h r = (h.0, all_zip_push R xs ys x y h.1 r)

pub all_became_more : (g : Given) (names lent_names : List ℕ) (os lent : List Override) (i : ℕ) (d : Override) (rs rs' : List (Result Outcome Unresolved)) (r : Result Outcome Unresolved) →
    lent_names ≡ names → lent ≡ os → i < length lent → AllBecame g names (take i os) rs → Became g lent_names (get_or lent i d) r → rs' ≡ rs ++ r ∷ [] → AllBecame g names (take (i + 1) os) rs'
all_became_more g names lent_names os lent i d rs rs' r named same within so_far h more =
    let here = subst (λ l. Became g names (get_or l i d) r) same (subst (λ n. Became g n (get_or lent i d) r) named h) in
    let inside : i < length os = subst (λ l. i < length l) same within in
    let both = all_zip_push (Became g names) (take i os) rs (get_or os i d) r so_far here in
    subst (λ x. AllBecame g names x rs') (sym (take_more os i d inside)) (subst (λ y. AllBecame g names (take i os ++ get_or os i d ∷ []) y) (sym more) both)
