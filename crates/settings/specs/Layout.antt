-- A settings file: a count, so many lengths of keys, the keys, so many values.
use Rattle.std.specs.Prelude.{◌≡◌, ℕ, zero, suc, ◌+◌, ◌*◌, ◌/◌, ◌%◌, ◌^◌, ◌<◌, ◌≤◌, List, [], ◌∷◌, ◌++◌, map, length, take, drop, Some, None}
use Rattle.std.specs.List.{slice_get, flat_map, AllByRecursion}
use Rattle.settings.specs.First.{Least, Holds}

-- k bytes of a number, the lowest first
abbrev pub bytes_of : ℕ → ℕ → List ℕ
bytes_of zero n = []
bytes_of (suc k) n = n % 256 ∷ bytes_of k (n / 256)

-- the number that bytes make, the lowest first
abbrev pub number_of : List ℕ → ℕ
number_of [] = 0
number_of (b ∷ bs) = b + 256 * number_of bs

-- the keys, and the bits of the double that each is given
pub record Given : Type 0 where
  pub keys : List (List ℕ)
  pub values : List ℕ

-- what a file has room for
pub record Valid (g : Given) : Type 0 where
  pub few : length g.keys ≤ 4096
  pub paired : length g.values ≡ length g.keys
  pub short : AllByRecursion (λ k. length k < 256) g.keys
  pub doubles : AllByRecursion (λ v. v < 2 ^ 64) g.values

-- the bytes of the file
abbrev pub encode : Given → List ℕ
encode g =
    bytes_of 2 (length g.keys) ++ (map length g.keys ++ (flat_map (λ k. k) g.keys ++ flat_map (bytes_of 8) g.values))

-- The file is the encoding of these settings, and of no others.
pub record Encodes (bs : List ℕ) (g : Given) : Type 0 where
  pub valid : Valid g
  pub is : encode g ≡ bs
  pub only : (h : Given) → Valid h → encode h ≡ bs → h ≡ g

-- k is one of the keys
abbrev pub Among : List ℕ → List (List ℕ) → Type 0
Among k ks = (j : ℕ) × (slice_get ks j ≡ Some k)

-- the key at i is equal to an earlier one
abbrev pub Repeats : List (List ℕ) → ℕ → Type 0
Repeats ks i = Holds (λ k. Among k (take i ks)) ks i

-- no key is equal to an earlier one
abbrev pub Distinct : List (List ℕ) → Type 0
Distinct ks = Least (Repeats ks) None

-- bytes cut into pieces of these lengths
abbrev pub pieces : List ℕ → List ℕ → List (List ℕ)
pieces [] bs = []
pieces (n ∷ ns) bs = take n bs ∷ pieces ns (drop n bs)
