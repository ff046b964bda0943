-- Which keys are numbers, and which key an override takes.
use Rattle.std.specs.Prelude.{◌≡◌, ℕ, ◌+◌, ◌-◌, ◌*◌, ◌<◌, ◌≤◌, true, List, [], ◌∷◌, length, Some, None, decimal, Option, ◌≢◌, slice_index}
use Rattle.std.specs.Str.{all_ascii_digits}
use Rattle.std.specs.Option.{option_map}
use Rattle.settings.specs.First.{Holds}
use Rattle.settings.specs.declared.naming.Key.{Key}
use Rattle.settings.specs.declared.naming.Key.TheVariants.{Number, Name}
use Rattle.settings.specs.declared.naming.Identifier.{Identifier}

-- A key is a number exactly if it is how that number is written in decimal, and the number is no more than 65,535.
abbrev pub Keyed : List ℕ → Key → Type 0
Keyed bs (Number n) = (n ≤ 65535) × (bs ≡ decimal n)
Keyed bs (Name s) = (s.now ≡ bs) × ((n : ℕ) → n ≤ 65535 → bs ≢ decimal n)

-- An override with an id takes the key that is its number; one without, the key that is its name; one with neither takes none.
abbrev pub TakenBy : Option ℕ → Option (List ℕ) → List ℕ → Type 0
TakenBy (Some n) name bs = bs ≡ decimal n
TakenBy None (Some name) bs = name ≡ bs
TakenBy None None bs = ⊥

-- the bytes of the name
abbrev pub name_of : Identifier → Option (List ℕ)
name_of w = option_map (λ s. s.now) w.name

-- what is known by these takes the key
abbrev pub Takes : Identifier → List ℕ → Type 0
Takes w bs = TakenBy w.id (name_of w) bs

-- some override takes the key
abbrev pub Taken : List Identifier → List ℕ → Type 0
Taken ws bs = (j : ℕ) × Holds (λ w. Takes w bs) ws j

-- the number that digits write after those of n
abbrev pub read_on : ℕ → List ℕ → ℕ
read_on n [] = n
read_on n (c ∷ cs) = read_on (10 * n + (c - 48)) cs

-- bytes, with no zero in front of others
abbrev pub Plain : List ℕ → Type 0
Plain bs = (0 < length bs) × (slice_index bs 0 ≡ 48 → length bs ≡ 1)

-- the number of digits, where they are digits and it is no more than 65,535
abbrev pub Valued : List ℕ → Option ℕ → Type 0
Valued bs (Some n) = (n ≤ 65535) × (all_ascii_digits bs ≡ true) × (read_on 0 bs ≡ n)
Valued bs None = all_ascii_digits bs ≡ true → read_on 0 bs ≤ 65535 → ⊥
