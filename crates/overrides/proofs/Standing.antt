-- What a walk can rely on.
use Rattle.std.proofs.Common.{◌≡◌, ℕ, ◌<◌, ◌≤◌, ◌⊎◌, T, false, List, length, get_or, Some, None, Ok, Err, Option, option_and_then, refl, sym, ◌∙◌, subst, inl, inr, arith}
use lib.Ieee as Ieee
use lib.Ieee.Bits.{of_bits-fits}
use Rattle.std.specs.List.{slice_get}
use Rattle.std.specs.Option.{option_map}
use Rattle.std.proofs.lemmas.Option.{slice_get_cases, slice_get_within, none-some, same_Some}
use Rattle.settings.specs.First.{Least, Holds}
use Rattle.settings.specs.Layout.{Given, Valid}
use Rattle.settings.specs.Reading.{value_at}
use Rattle.rounding.specs.declared.scalars.Scalar.{Scalar}
use Rattle.rounding.specs.declared.literals.Literal.{Literal}
use Rattle.rounding.specs.Literals.{type_of, literal_bits_of}
use Rattle.rounding.specs.Conversion.{Answer}
use Rattle.ir.specs.Faults.{malformed}
use Rattle.ir.specs.declared.tables.Override.{Override}
use Rattle.walking.specs.declared.overrides.Valued.{Valued}
use Rattle.walking.specs.Laws.{literal_if, given_at, init_at}
use Rattle.overrides.specs.Keys.{TakesKey}
use Rattle.overrides.specs.Values.{ConvertedIf, ValuedAs, ValuedFor}
use Rattle.overrides.specs.Standing.{NoneWithoutKey, SettlingAccepts, ValuedIsValues}
use Rattle.overrides.proofs.Literals.{FineIf, becomes_fine}

pub settling_accepts : SettlingAccepts
settling_accepts file m s c r h = c.clean r (inr h)

-- ---- the literals

-- a value of a settings file is a double
double_at : (vs : List ℕ) (i : ℕ) (x : Ieee.Float) → option_map (Ieee.of_bits Ieee.binary64) (slice_get vs i) ≡ Some x → T (Ieee.fits Ieee.binary64 x)
double_at vs i x = go (slice_get vs i)
  where
    go : (o : Option ℕ) → option_map (Ieee.of_bits Ieee.binary64) o ≡ Some x → T (Ieee.fits Ieee.binary64 x)
    go None e = absurd (none-some x e)
    go (Some n) e = subst (λ y. T (Ieee.fits Ieee.binary64 y)) (same_Some _ x e) (of_bits-fits Ieee.binary64 n)

double_of : (g : Given) (k : Option ℕ) (x : Ieee.Float) → value_at g k ≡ Some x → T (Ieee.fits Ieee.binary64 x)
double_of g None x e = absurd (none-some x e)
double_of g (Some i) x e = double_at g.values i x e

abbrev fine_if : Option (Answer Literal) → Type 0
fine_if None = Unit {0}
fine_if (Some r) = FineIf r

converted_fine : (g : Given) (k : Option ℕ) (scalar : Scalar) (x : Option Ieee.Float) (r : Option (Answer Literal)) → x ≡ value_at g k → ConvertedIf scalar x r → fine_if r
converted_fine g k scalar None r e c = subst fine_if (sym c) tt
converted_fine g k scalar (Some x) r e c = subst fine_if (sym c.1) (becomes_fine scalar x c.0 (double_of g k x (sym e)) c.2)

literal_fine : (r : Option (Answer Literal)) (l : Literal) → fine_if r → literal_if r ≡ Some l → malformed (type_of l) (literal_bits_of l) 0 ≡ false
literal_fine None l f e = absurd (none-some l e)
literal_fine (Some (Ok k)) l f e = subst (λ x. FineIf (Ok x)) (same_Some k l e) f
literal_fine (Some (Err d)) l f e = absurd (none-some l e)

-- ---- the values of a module

module _ (g : Given) (names : List ℕ) (os : List Override) (vs : List Valued) (h : ValuedFor g names os vs) where
  -- at a place there is an override and its values, or neither
  abbrev Beside : ℕ → Type 0
  Beside p =
      ((slice_get os p ≡ None) × (slice_get vs p ≡ None))
      ⊎ ((o : Override) × (v : Valued) × (slice_get os p ≡ Some o) × (slice_get vs p ≡ Some v) × ValuedAs g names o v)

  beside : (p : ℕ) → Beside p
  beside p = elim (slice_get_cases os p).1 [
    | inl a ↦ elim (slice_get_cases vs p).1 [
      | inl b ↦ inr (a.0, b.0, a.2, b.2, h.each p a.0 b.0 a.2 b.2)
      | inr b ↦ absurd (apart (length os) (length vs) h.every a.1 b.0)
    ]
    | inr a ↦ elim (slice_get_cases vs p).1 [ inl b ↦ absurd (apart (length vs) (length os) (sym h.every) b.1 a.0) | inr b ↦ inl (a.1, b.1) ]
  ]
    where
      apart : (n k : ℕ) → k ≡ n → p < n → k ≤ p → ⊥
      apart n k e l m = omega (arith, e, l, m)

  inits : (p : ℕ) → init_at vs p ≡ option_and_then (λ (o : Override). o.init) (slice_get os p)
  inits p = elim (beside p) [
    | inl n ↦ rw n.0 (rw n.1 refl)
    | inr b ↦ rw b.2 (rw b.3 b.4.init)
  ]

  literals : (p : ℕ) (l : Literal) → given_at vs p ≡ Some l → malformed (type_of l) (literal_bits_of l) 0 ≡ false
  literals p l e = elim (beside p) [
    | inl n ↦ absurd (none-some l (subst (λ (o : Option Valued). option_and_then (λ (v : Valued). literal_if v.given) o ≡ Some l) n.1 e))
    | inr b ↦ literal_fine b.1.given l (converted_fine g b.4.given.key b.0.scalar b.4.value b.1.given b.4.given.value b.4.converted)
        (subst (λ (o : Option Valued). option_and_then (λ (v : Valued). literal_if v.given) o ≡ Some l) b.3 e)
  ]

pub valued_is_values : ValuedIsValues
valued_is_values g m vs h = record { every = h.every; inits = inits g m.names m.overrides vs h; given = literals g m.names m.overrides vs h }

-- ---- without a value

-- beside each key there is a value
value_there : (g : Given) (i : ℕ) → Valid g → i < length g.keys → value_at g (Some i) ≡ None → ⊥
value_there g i valid l = go (slice_get g.values i) (slice_get_cases g.values i).1
  where
    far : (n m : ℕ) → n ≡ m → i < m → n ≤ i → ⊥
    far n m e l k = omega (arith, e, l, k)

    go : (o : Option ℕ) → ((y : ℕ) × (i < length g.values) × (o ≡ Some y) × (get_or g.values i y ≡ y)) ⊎ ((length g.values ≤ i) × (o ≡ None)) →
        option_map (Ieee.of_bits Ieee.binary64) o ≡ None → ⊥
    go (Some n) c e = none-some _ (sym e)
    go None (inl c) e = none-some c.0 c.2
    go None (inr c) e = far (length g.values) (length g.keys) valid.paired l c.0

given_none : (scalar : Scalar) (x : Option Ieee.Float) (r : Option (Answer Literal)) → ConvertedIf scalar x r → r ≡ None → x ≡ None
given_none scalar None r c e = refl
given_none scalar (Some x) r c e = absurd (none-some c.0 (sym e ∙ c.1))

untaken : (g : Given) (P : List ℕ → Type 0) (k : Option ℕ) → Valid g → Least (Holds P g.keys) k → value_at g k ≡ None → (i : ℕ) → Holds P g.keys i → ⊥
untaken g P None valid h e = h
untaken g P (Some j) valid h e = absurd (value_there g j valid (slice_get_within g.keys j h.0.0 h.0.1) e)

pub none_without_key : NoneWithoutKey
none_without_key g names o v valid h e =
    untaken g (TakesKey names o) h.given.key valid h.given.taken.first (sym h.given.value ∙ given_none o.scalar h.value v.given h.converted e)
