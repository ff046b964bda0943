-- Which keys an override takes.
use Rattle.std.proofs.Common.{◌≡◌, ℕ, ◌≤◌, Bool, eqb, List, Some, None, decimal, Decides, Option, sym, ap, ◌∙◌, arith, Bor}
use Rattle.std.specs.Option.{option_map}
use Rattle.std.proofs.lemmas.Fmt.{decimal_injective}
use Rattle.std.proofs.lemmas.Bool.Decides.{Decides-eqb, Decides-like}
use Rattle.settings.specs.First.{Least, Holds}
use Rattle.settings.specs.Layout.{Distinct}
use Rattle.settings.specs.Keys.{TakenBy, Takes, name_of}
use Rattle.settings.specs.Reading.{Only}
use Rattle.settings.proofs.Places.{same_place}
use Rattle.settings.specs.declared.naming.Identifier.{Identifier}

pub decimal_same : (m n : ℕ) → m ≤ 65535 → n ≤ 65535 → decimal m ≡ decimal n → m ≡ n
decimal_same m n k l = decimal_injective m n (omega (arith, k)) (omega (arith, l))

-- the keys that one override takes are equal
taken_same : (o : Option ℕ) (s : Option (List ℕ)) (a b : List ℕ) → TakenBy o s a → TakenBy o s b → a ≡ b
taken_same (Some n) s a b p q = p ∙ sym q
taken_same None (Some s) a b p q = sym p ∙ q
taken_same None None a b p q = absurd p

pub takes_same : (w : Identifier) (a b : List ℕ) → Takes w a → Takes w b → a ≡ b
takes_same w = taken_same w.id (name_of w)

by_id : (o : Option ℕ) (s : Option (List ℕ)) (m n : ℕ) (bs : List ℕ) → o ≡ Some m → m ≤ 65535 → (n ≤ 65535) × (bs ≡ decimal n) → Decides (eqb n m) (TakenBy o s bs)
by_id None s m n bs e l h = absurd (cc)
by_id (Some k) s m n bs e l h =
    let q : k ≡ m = cc in
    Decides-like (eqb n m) (λ p. h.1 ∙ ap decimal (p ∙ sym q)) (λ t. decimal_same n m h.0 l (sym h.1 ∙ t ∙ ap decimal q)) (Decides-eqb n m)

pub takes_by_id : (w : Identifier) (m n : ℕ) (bs : List ℕ) → w.id ≡ Some m → m ≤ 65535 → (n ≤ 65535) × (bs ≡ decimal n) → Decides (eqb n m) (Takes w bs)
takes_by_id w m n bs = by_id w.id (name_of w) m n bs

by_name : (o : Option ℕ) (s : Option (Bor (List ℕ))) (r : Bor (List ℕ)) (bs : List ℕ) (b : Bool) → o ≡ None → s ≡ Some r → Decides b (r.now ≡ bs) → Decides b (TakenBy o (option_map (λ x. x.now) s) bs)
by_name (Some k) s r bs b e f d = absurd (cc)
by_name None None r bs b e f d = absurd (cc)
by_name None (Some t) r bs b e f d =
    let q : t.now ≡ r.now = cc in Decides-like b (λ p. q ∙ p) (λ p. sym q ∙ p) d

pub takes_by_name : (w : Identifier) (r : Bor (List ℕ)) (bs : List ℕ) (b : Bool) → w.id ≡ None → w.name ≡ Some r → Decides b (r.now ≡ bs) → Decides b (Takes w bs)
takes_by_name w r bs b = by_name w.id w.name r bs b

-- of distinct keys, the first that is taken by an id or a name is the only one
pub only_taken : (o : Option ℕ) (s : Option (List ℕ)) (ks : List (List ℕ)) (r : Option ℕ) → Least (Holds (TakenBy o s) ks) r → Distinct ks → Only (Holds (TakenBy o s) ks) r
only_taken o s ks None h d = h
only_taken o s ks (Some i) h d =
    (h.0, λ j t. same_place ks j i h.0.0 d (t.1 ∙ ap Some (taken_same o s t.0 h.0.0 t.2 h.0.2)) h.0.1)

pub only_taker : (w : Identifier) (ks : List (List ℕ)) (r : Option ℕ) → Least (Holds (Takes w) ks) r → Distinct ks → Only (Holds (Takes w) ks) r
only_taker w = only_taken w.id (name_of w)
