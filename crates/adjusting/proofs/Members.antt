-- Members of lists.
use Rattle.std.proofs.Common.{◌≡◌, ℕ, zero, suc, ◌<◌, ◌⊎◌, List, [], ◌∷◌, ◌++◌, length, get_or, refl, subst, inl, inr, ⊎_elim, arith}
use Rattle.std.specs.List.{ContainsAt as Has, AllByRecursion}
use Rattle.std.proofs.lemmas.List.Elements.{Contains-from_at, at_from_Contains, Contains-append_left, Contains-append_right, Contains-append_cases}

pub has_none : (x : ℕ) → Has [] x → ⊥
has_none x h = omega (arith, h.1)

pub has_here : (x : ℕ) (xs : List ℕ) → Has (x ∷ xs) x
has_here x xs = (0, omega arith, λ d. refl)

pub has_there : (x y : ℕ) (xs : List ℕ) → Has xs x → Has (y ∷ xs) x
has_there x y xs h = (suc h.0, omega (arith, h.1), h.2)

pub has_cons : (x y : ℕ) (xs : List ℕ) → Has (y ∷ xs) x → (y ≡ x) ⊎ Has xs x
has_cons x y xs h = go h.0 h.1 (λ d. h.2 d)
  where
    go : (k : ℕ) → k < length (y ∷ xs) → ((d : ℕ) → get_or (y ∷ xs) k d ≡ x) → (y ≡ x) ⊎ Has xs x
    go zero l e = inl (e 0)
    go (suc k) l e = inr (k, omega (arith, l), e)

pub has_left : (x : ℕ) (xs ys : List ℕ) → Has xs x → Has (xs ++ ys) x
has_left x xs ys h = at_from_Contains (xs ++ ys) x (Contains-append_left xs ys x (Contains-from_at xs x h))

pub has_right : (x : ℕ) (xs ys : List ℕ) → Has ys x → Has (xs ++ ys) x
has_right x xs ys h = at_from_Contains (xs ++ ys) x (Contains-append_right xs ys x (Contains-from_at ys x h))

pub has_cases : (x : ℕ) (xs ys : List ℕ) → Has (xs ++ ys) x → Has xs x ⊎ Has ys x
has_cases x xs ys h =
    ⊎_elim (λ a. inl (at_from_Contains xs x a)) (λ b. inr (at_from_Contains ys x b)) (Contains-append_cases xs ys x (Contains-from_at (xs ++ ys) x h))

-- what is said of each
pub each_at : (P : ℕ → Type 0) (xs : List ℕ) (x : ℕ) → AllByRecursion P xs → Has xs x → P x
each_at P [] x e h = absurd (has_none x h)
each_at P (y ∷ xs) x e h = go (has_cons x y xs h) (each_at P xs x e.1)
  where
    go : (y ≡ x) ⊎ Has xs x → (Has xs x → P x) → P x
    go (inl q) f = subst P q e.0
    go (inr k) f = f k

pub each_both : (P Q R : ℕ → Type 0) (xs : List ℕ) → ((x : ℕ) → P x → Q x → R x) → AllByRecursion P xs → AllByRecursion Q xs → AllByRecursion R xs
each_both P Q R [] f p q = tt
each_both P Q R (x ∷ xs) f p q = (f x p.0 q.0, each_both P Q R xs f p.1 q.1)

pub each_more : (P Q : ℕ → Type 0) (xs : List ℕ) → ((x : ℕ) → P x → Q x) → AllByRecursion P xs → AllByRecursion Q xs
each_more P Q [] f p = tt
each_more P Q (x ∷ xs) f p = (f x p.0, each_more P Q xs f p.1)
