-- Least and first places put together.
use Rattle.std.proofs.Common.{◌≡◌, ℕ, zero, suc, ◌+◌, ◌<◌, ◌≤◌, min, ◌⊎◌, List, [], ◌∷◌, length, get_or, take, Some, None, Option, sym, refl, ◌∙◌, subst, inl, inr, ⊎_elim, arith, lit<, zero-add}
use Rattle.std.proofs.lemmas.List.{length-take, get_or-map}
use Rattle.std.proofs.lemmas.List.FromFn.{get_or-range_with_len}
use Rattle.std.specs.Option.{option_or}
use Rattle.std.specs.List.{slice_get}
use Rattle.std.proofs.lemmas.Bool.{cases_lt}
use Rattle.std.proofs.lemmas.Option.{slice_get_past}
use Rattle.places.specs.declared.TableName.{TableName}
use Rattle.places.specs.declared.TableName.TheVariants.{GlobalEntries, GlobalOperands, Constants, Overrides, VariableInits, BodyEntries, BodyOperands, Records, RecordOperands, LocalInits, NamedHandles, Sizes, HandleTable, OverridesConstants, Kinds}
use Rattle.places.specs.First.{Least, Holds, Over, lesser_of, number_of}

-- some item below n brings F at k
abbrev pub SomeBelow : ℕ → (ℕ → ℕ → Type 0) → ℕ → Type 0
SomeBelow n F k = (i : ℕ) × (i < n) × F i k

-- the same indices, the same least
pub least_iff : (P Q : ℕ → Type 0) → ((k : ℕ) → P k → Q k) → ((k : ℕ) → Q k → P k) → (r : Option ℕ) → Least P r → Least Q r
least_iff P Q f g None h = λ k q. h k (g k q)
least_iff P Q f g (Some k) h = (f k h.0, λ j l q. h.1 j l (g j q))

pub least_or : (P Q : ℕ → Type 0) (a b : Option ℕ) → Least P a → Least Q b → Least (λ k. P k ⊎ Q k) (lesser_of a b)
least_or P Q None None p q = λ k. ⊎_elim (p k) (q k)
least_or P Q None (Some y) p q = (inr q.0, λ j l. ⊎_elim (p j) (q.1 j l))
least_or P Q (Some x) None p q = (inl p.0, λ j l. ⊎_elim (p.1 j l) (q j))
least_or P Q (Some x) (Some y) p q =
    let here : P (min x y) ⊎ Q (min x y) =
    ⊎_elim (λ (l : x < y). let e : x ≡ min x y = omega arith in inl (subst P e p.0))
    (λ (l : y ≤ x). let e : y ≡ min x y = omega arith in inr (subst Q e q.0)) (cases_lt x y) in
    (here, λ j l. ⊎_elim (p.1 j (omega arith)) (q.1 j (omega arith)))

-- one item more
pub least_none : (F : ℕ → ℕ → Type 0) → Least (SomeBelow 0 F) None
least_none F = λ k s. absurd (omega (arith, s.1))

pub least_more : (F : ℕ → ℕ → Type 0) (n : ℕ) (a b : Option ℕ) → Least (SomeBelow n F) a → Least (F n) b →
    Least (SomeBelow (n + 1) F) (lesser_of a b)
least_more F n a b p q =
    least_iff (λ k. SomeBelow n F k ⊎ F n k) (SomeBelow (n + 1) F)
    (λ k. ⊎_elim (λ s. (s.0, omega (arith, s.1), s.2)) (λ f. (n, omega arith, f)))
    (λ k s. let l = s.1 in
    ⊎_elim (λ (m : s.0 < n). inl (s.0, m, s.2))
    (λ (m : n ≤ s.0). let e : s.0 ≡ n = omega arith in inr (subst (λ i. F i k) e s.2)) (cases_lt s.0 n))
    (lesser_of a b) (least_or (SomeBelow n F) (F n) a b p q)

-- no table below t has a fault
abbrev pub Clear : (ℕ → ℕ → Type 0) → ℕ → Type 0
Clear F t = (s i : ℕ) → s < t → F s i → ⊥

pub clear_more : (F : ℕ → ℕ → Type 0) (t : ℕ) → Clear F t → Least (F t) None → Clear F (t + 1)
clear_more F t c h s i l f =
    ⊎_elim (λ (m : s < t). c s i m f) (λ (m : t ≤ s). let e : s ≡ t = omega arith in h i (subst (λ u. F u i) e f)) (cases_lt s t)

-- every table has a number below 15
pub numbered : (t : TableName) → number_of t < 15
numbered GlobalEntries = lit< tt
numbered GlobalOperands = lit< tt
numbered Constants = lit< tt
numbered Overrides = lit< tt
numbered VariableInits = lit< tt
numbered BodyEntries = lit< tt
numbered BodyOperands = lit< tt
numbered Records = lit< tt
numbered RecordOperands = lit< tt
numbered LocalInits = lit< tt
numbered NamedHandles = lit< tt
numbered Sizes = lit< tt
numbered HandleTable = lit< tt
numbered OverridesConstants = lit< tt
numbered Kinds = lit< tt

-- the tables in the order of their numbers
abbrev pub tables : List TableName
tables =
    GlobalEntries ∷ GlobalOperands ∷ Constants ∷ Overrides ∷ VariableInits ∷ BodyEntries ∷ BodyOperands ∷ Records ∷ RecordOperands ∷ LocalInits ∷ NamedHandles ∷ Sizes ∷ HandleTable ∷ OverridesConstants ∷ Kinds ∷ []

pub number_at : (i : ℕ) → i < 15 → number_of (get_or tables i GlobalEntries) ≡ i
number_at i l = sym (get_or-map number_of tables i GlobalEntries 0 l) ∙ get_or-range_with_len 0 15 i 0 l ∙ zero-add i

-- what stands in a list stands below its length
pub within : {A : Type 0} (xs : List A) (i : ℕ) (x : A) → slice_get xs i ≡ Some x → i < length xs
within xs i x e =
    ⊎_elim (λ l. l) (λ (m : length xs ≤ i). let p = slice_get_past xs i m in let z : ◌≡◌ {A = ℕ} 0 1 = cc in absurd (omega arith)) (cases_lt i (length xs))

-- what stands below a limit stands in the first items
pub nth_take : {A : Type 0} (l : ℕ) (xs : List A) (k : ℕ) → k < l → slice_get (take l xs) k ≡ slice_get xs k
nth_take zero xs k h = absurd (omega arith)
nth_take (suc l) [] k h = refl
nth_take (suc l) (x ∷ xs) zero h = refl
nth_take (suc l) (x ∷ xs) (suc k) h = nth_take l xs k (omega arith)

pub in_take : {A : Type 0} (l : ℕ) (xs : List A) (k : ℕ) (x : A) → slice_get (take l xs) k ≡ Some x → k < l
in_take l xs k x e = omega (arith, within (take l xs) k x e, length-take l xs)

module _ {A : Type 0} (P : ℕ → A → Type 0) (limit : ℕ) (xs : List A) where
  -- what stands in the first items stands in all of them, and the other way below the limit
  pub cut_in : (k : ℕ) → Holds P (take limit xs) k → Holds P xs k
  cut_in k h = (h.0, sym (nth_take limit xs k (in_take limit xs k h.0 h.1)) ∙ h.1, h.2)

  pub cut_out : (k : ℕ) → k < limit → Holds P xs k → Holds P (take limit xs) k
  cut_out k l h = (h.0, nth_take limit xs k l ∙ h.1, h.2)

-- P is Q below the limit, of a list of n items
pub record Cut (P Q : ℕ → Type 0) (limit n : ℕ) : Type 0 where
  pub into : (k : ℕ) → P k → Q k
  pub out : (k : ℕ) → k < limit → Q k → P k
  pub low : (k : ℕ) → P k → k < limit
  pub high : (k : ℕ) → Q k → k < n

pub cut_items : {A : Type 0} (P : ℕ → A → Type 0) (limit : ℕ) (xs : List A) → Cut (Holds P (take limit xs)) (Holds P xs) limit (length xs)
cut_items P limit xs =
    record {
      into = cut_in P limit xs;
      out = cut_out P limit xs;
      low = λ k h. in_take limit xs k h.0 h.1;
      high = λ k h. within xs k h.0 h.1;
    }

module _ (P Q : ℕ → Type 0) (limit n : ℕ) (c : Cut P Q limit n) where
  -- the first below the limit is the first of all
  pub limited_some : (k : ℕ) → Least P (Some k) → Least (λ k. Over limit n k ⊎ Q k) (Some k)
  limited_some k h =
      let small = c.low k h.0 in
      (inr (c.into k h.0), λ j m. ⊎_elim (λ o. absurd (omega (arith, o.0))) (λ q. h.1 j m (c.out j (omega arith) q)))

  -- where there is none below the limit, what is left is the limit itself
  pub limited_none : Least P None → (r : Option ℕ) → Least (Over limit n) r → Least (λ k. Over limit n k ⊎ Q k) r
  limited_none h None o =
      λ k. ⊎_elim (o k) (λ q.
      ⊎_elim (λ (l : k < limit). h k (c.out k l q))
      (λ (l : limit ≤ k). o limit (refl, omega (arith, c.high k q))) (cases_lt k limit))
  limited_none h (Some m) o =
      (inl o.0, λ j l. ⊎_elim (λ v. absurd (omega (arith, v.0, o.0.0))) (λ q. h j (c.out j (omega (arith, o.0.0)) q)))

  -- the first below the limit, or else the limit itself
  pub limited_or : (a b : Option ℕ) → Least P a → Least (Over limit n) b → Least (λ k. Over limit n k ⊎ Q k) (option_or a b)
  limited_or None b h o = limited_none h b o
  limited_or (Some k) b h o = limited_some k h

-- the least in a table that is known by its number
pub in_table : (F : ℕ → ℕ → Type 0) {t u : ℕ} → t ≡ u → (r : Option ℕ) → Least (F u) r → Least (F t) r
in_table F e r h = subst (λ n. Least (F n) r) (sym e) h
