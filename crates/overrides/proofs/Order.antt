-- Which of the refusals that apply comes first.
use Rattle.std.proofs.Common.{◌≡◌, ℕ, ◌<◌, ◌≤◌, ◌⊎◌, List, [], ◌∷◌, Some, None, Ok, Err, Result, MatchResult, refl, sym, ap, subst, inl, inr, arith, lit<, lit≤}
use Rattle.refusals.specs.declared.Refusal.{Refusal}
use Rattle.refusals.specs.declared.Refusal.TheVariants.{MalformedSettings, RepeatedKey, NotFound, Nameless}
use Rattle.refusals.specs.Codes.{code_of, Less, Earlier, FirstOf}
use Rattle.settings.specs.First.{Least}
use Rattle.settings.specs.Layout.{Given, Encodes, Repeats, Distinct}
use Rattle.settings.specs.Reading.{given, Read, Unreadable}
use Rattle.settings.specs.declared.file.Settings.{Settings}
use Rattle.settings.specs.declared.error.SettingsError.{SettingsError}
use Rattle.settings.specs.declared.error.SettingsError.TheVariants as Errors
use Rattle.ir.specs.declared.tables.Override.{Override}
use Rattle.ir.specs.Tables.{Global}
use Rattle.ir.specs.Checks.{SourceFaults}
use Rattle.overrides.specs.Keys.{Untaken}
use Rattle.overrides.specs.Settling.{KeyFaults, FileFaults, SettlingFaults, Settleable, FirstFault, CheckedSettling, CheckedKeys, CheckedTables, refusal_of}
use Rattle.overrides.proofs.Sorts.{of_file, of_source}

-- values of one number in order
less_one : (x y : ℕ) → Less (x ∷ []) (y ∷ []) → x < y
less_one x y (inl l) = l
less_one x y (inr e) = absurd e.1

-- a higher number comes no earlier
later : {a b : ℕ} {P Q : Type 0} → b < a → (a < b) ⊎ ((a ≡ b) × P) → Q
later l (inl m) = absurd (omega arith)
later l (inr e) = let s = e.0 in absurd (omega arith)

same : {a : ℕ} {P : Type 0} → (a < a) ⊎ ((a ≡ a) × P) → P
same (inl m) = absurd (omega arith)
same (inr e) = e.1

-- what comes before a 6 comes before a 7
before_7 : (a : ℕ) (P Q : Type 0) → (a < 6) ⊎ ((a ≡ 6) × P) → (a < 7) ⊎ ((a ≡ 7) × Q)
before_7 a P Q (inl l) = inl (omega (arith, l))
before_7 a P Q (inr e) = let s = e.0 in inl (omega (arith, s))

none_below_nothing : (xs : List ℕ) → Less xs [] → ⊥
none_below_nothing [] h = h
none_below_nothing (x ∷ xs) h = h

none_before_1 : (a : ℕ) (xs : List ℕ) → 1 ≤ a → (a < 1) ⊎ ((a ≡ 1) × Less xs []) → ⊥
none_before_1 a xs h (inl l) = omega (arith, h, l)
none_before_1 a xs h (inr e) = none_below_nothing xs e.1

none_before_3 : (a : ℕ) (P : Type 0) → 3 ≤ a → (a < 2) ⊎ ((a ≡ 2) × P) → ⊥
none_before_3 a P h (inl l) = omega (arith, h, l)
none_before_3 a P h (inr e) = let s = e.0 in omega (arith, h, s)

least_3 : (a : ℕ) → 3 ≤ a → 1 ≤ a
least_3 a h = omega (arith, h)

-- ---- the keys

module _ (names : List ℕ) (os : List Override) (ks : List (List ℕ)) where
  pub first_key : (k : ℕ) → Least (Untaken names os ks) (Some k) → CheckedKeys names os ks (Err (NotFound k))
  first_key k h = (
    (k, refl, h.0),
    λ r l f. h.1 f.0 (less_one f.0 k (same (subst (λ q. Earlier q (NotFound k)) f.1 l))) f.2,
  )

  pub no_key : Least (Untaken names os ks) None → CheckedKeys names os ks (Ok tt)
  no_key h = λ r f. h f.0 f.2

-- ---- the tables and the keys

module _ (ks : List (List ℕ)) (m : Global) where
  abbrev Keyed : Refusal → Type 0
  Keyed = KeyFaults m.names m.overrides ks

  key_before_name : (n k : ℕ) → FirstOf (SourceFaults m) (Err (Nameless n)) → FirstOf Keyed (Err (NotFound k)) → CheckedTables ks m (Err (NotFound k))
  key_before_name n k h f = (
    inl f.0,
    λ r l a. elim a [ inl key ↦ f.1 r l key | inr table ↦ h.1 r (before_7 (code_of r).0 _ _ l) table ],
  )

  -- a key that no override takes comes before an override with neither id nor name
  pub key_first : (n : ℕ) (r : Result (Unit {0}) Refusal) (e : Refusal) → FirstOf (SourceFaults m) (Err (Nameless n)) → FirstOf Keyed r → r ≡ Err e → CheckedTables ks m r
  key_first n (Ok u) e h f w = absurd cc
  key_first n (Err q) e h f w =
      subst (λ (x : Refusal). CheckedTables ks m (Err x)) (sym f.0.1)
      (key_before_name n f.0.0 h (subst (λ (x : Refusal). FirstOf Keyed (Err x)) f.0.1 f))

  pub name_first : (n : ℕ) (r : Result (Unit {0}) Refusal) (u : Unit {0}) → FirstOf (SourceFaults m) (Err (Nameless n)) → FirstOf Keyed r → r ≡ Ok u → CheckedTables ks m (Err (Nameless n))
  name_first n (Err q) u h f w = absurd cc
  name_first n (Ok v) u h f w = (inr h.0, λ r l a. elim a [ inl key ↦ f r key | inr table ↦ h.1 r l table ])

  pub keys_alone : (r : Result (Unit {0}) Refusal) → FirstOf (SourceFaults m) (Ok tt) → FirstOf Keyed r → CheckedTables ks m r
  keys_alone (Ok u) h f = λ r a. elim a [ inl key ↦ f r key | inr table ↦ h r table ]
  keys_alone (Err e) h f = (inl f.0, λ r l a. elim a [ inl key ↦ f.1 r l key | inr table ↦ h r table ])

-- ---- the file

module _ (file : List ℕ) (m : Global) where
  -- what applies to tables has a number from 3
  from_3 : (r : Refusal) → SourceFaults m r → 3 ≤ (code_of r).0
  from_3 = of_source m (λ r. 3 ≤ (code_of r).0) (λ p h. lit≤ tt) (λ p h. lit≤ tt) (λ k h. lit≤ tt)

  from_1 : (r : Refusal) → FileFaults file m r → 1 ≤ (code_of r).0
  from_1 = of_file file m (λ r. 1 ≤ (code_of r).0) (λ h. lit≤ tt) (λ k g h i. lit≤ tt) (λ k g h i. lit≤ tt)

  -- settings that a file encodes are those that it encodes
  one : (g h : Given) → Encodes file g → Encodes file h → h ≡ g
  one g h e f = e.only h f.valid f.is

  no_file : Unreadable file → FirstFault file m MalformedSettings
  no_file h =
      record {
        applies = inl h;
        first = λ r l a. elim a [
          | inl f ↦ none_before_1 (code_of r).0 (code_of r).1 (from_1 r f) l
          | inr t ↦ none_before_1 (code_of r).0 (code_of r).1 (least_3 (code_of r).0 (from_3 r t)) l
        ];
      }

  repeated : (k : ℕ) (g : Given) → Encodes file g → Least (Repeats g.keys) (Some k) → FirstFault file m (RepeatedKey k)
  repeated k g e h =
      record {
        applies = inl (g, e, h.0);
        first = λ r l a. elim a [
          | inl f ↦ of_file file m (λ q. Earlier q (RepeatedKey k) → ⊥) (λ u l. u g e.valid e.is)
              (λ j i d at l. h.1 j (less_one j k (same l)) (subst (λ (x : Given). Repeats x.keys j) (one g i e d) at)) (λ j i d at l. later (lit< tt) l) r f l
          | inr t ↦ none_before_3 (code_of r).0 _ (from_3 r t) l
        ];
      }

  -- what a settings file is refused with comes first
  pub refused : (e : SettingsError) → Read file (Err e) → FirstFault file m (refusal_of e)
  refused Errors.Malformed (inl h) = no_file h.1
  refused Errors.Malformed (inr h) = let e = ap (λ p. p.0) h.2 in absurd (omega (arith, e))
  refused (Errors.RepeatedKey k) (inl h) = let e = ap (λ p. p.0) h.0 in absurd (omega (arith, e))
  refused (Errors.RepeatedKey k) (inr h) =
      let e = ap (λ p. p.1) h.2 in let is : k ≡ h.0 = cc in
      repeated k h.1 h.3 (subst (λ j. Least (Repeats h.1.keys) (Some j)) (sym is) h.4)
  refused (Errors.NotFound k) (inl h) = let e = ap (λ p. p.0) h.0 in absurd (omega (arith, e))
  refused (Errors.NotFound k) (inr h) = let e = ap (λ p. p.0) h.2 in absurd (omega (arith, e))

  -- the same where the refusal is one among all
  pub refused_as : (r : Result Settings SettingsError) (q : Result Settings Refusal) (e : Refusal) → Read file r →
      MatchResult r (λ s. q ≡ Ok s) (λ d. q ≡ Err (refusal_of d)) → q ≡ Err e → CheckedSettling file m q
  refused_as (Ok s) q e h made w = absurd cc
  refused_as (Err d) q e h made w = subst (CheckedSettling file m) (sym made) (refused d h)

  module _ (s : Settings) (read : Encodes file (given s) × Distinct (given s).keys) where
    abbrev Keys : Refusal → Type 0
    Keys = KeyFaults m.names m.overrides (given s).keys

    of_key : (r : Refusal) → Keys r → FileFaults file m r
    of_key r h = subst (FileFaults file m) (sym h.1) (given s, read.0, h.2)

    -- of a file that is read only the keys that no override takes are left
    key_of : (r : Refusal) → FileFaults file m r → Keys r
    key_of =
        of_file file m Keys (λ u. absurd (u (given s) read.0.valid read.0.is))
        (λ k g e at. absurd (read.1 k (subst (λ (x : Given). Repeats x.keys k) (one (given s) g read.0 e) at)))
        (λ k g e at. (k, refl, subst (λ (x : Given). Untaken m.names m.overrides x.keys k) (one (given s) g read.0 e) at))

    left : (r : Refusal) → SettlingFaults file m r → Keys r ⊎ SourceFaults m r
    left r a = elim a [ inl f ↦ inl (key_of r f) | inr t ↦ inr t ]

    back : (r : Refusal) → Keys r ⊎ SourceFaults m r → SettlingFaults file m r
    back r a = elim a [ inl k ↦ inl (of_key r k) | inr t ↦ inr t ]

    pub tables_refused : (r : Result (Unit {0}) Refusal) (e : Refusal) → CheckedTables (given s).keys m r → r ≡ Err e → FirstFault file m e
    tables_refused (Ok u) e h w = absurd cc
    tables_refused (Err q) e h w =
        let is : q ≡ e = cc in
        subst (FirstFault file m) is (record { applies = back q h.0; first = λ r l a. h.1 r l (left r a) })

    pub settled : (r : Result (Unit {0}) Refusal) (u : Unit {0}) → CheckedTables (given s).keys m r → r ≡ Ok u → Settleable file m s
    settled (Err q) u h w = absurd cc
    settled (Ok v) u h w = record { clean = λ r a. h r (left r a); encodes = read.0; distinct = read.1 }
