-- How a name is written as one word.
use Rattle.std.specs.Prelude.{◌≡◌, ℕ, ◌/◌, ◌%◌, ◌<◌, Bool, cond, not, ◌&&◌, T, ◌⊎◌, List, [], ◌∷◌, ◌++◌, length, ◌==◌, ◌≢◌, nat_le, slice_index}
use Rattle.std.specs.Char.{digit_char}
use Rattle.std.specs.List.{flat_map}

-- printable and no space, and neither " nor \
abbrev pub shown_byte : ℕ → Bool
shown_byte b = (nat_le 33 b && nat_le b 126) && (not (b == 34) && not (b == 92))

-- \xNN
abbrev pub escape : ℕ → List ℕ
escape b = 92 ∷ 120 ∷ digit_char (b / 16) ∷ digit_char (b % 16) ∷ []

abbrev pub byte_text : ℕ → List ℕ
byte_text b = cond (shown_byte b) (b ∷ []) (escape b)

-- what stands between the quotes
abbrev pub inner : List ℕ → List ℕ
inner bs = flat_map byte_text bs

abbrev pub Bytes : List ℕ → Type 0
Bytes bs = (k : ℕ) → slice_index bs k < 256

-- something, not - alone, with no @ and no # in front
abbrev pub BareEnds : List ℕ → Type 0
BareEnds name = (0 < length name) × (name ≢ 45 ∷ []) × (slice_index name 0 ≢ 64) × (slice_index name 0 ≢ 35)

abbrev pub Bare : List ℕ → Type 0
Bare name = BareEnds name × ((k : ℕ) → k < length name → T (shown_byte (slice_index name k)))

-- bs is name in quotes
abbrev pub Quoted : List ℕ → List ℕ → Type 0
Quoted name bs = bs ≡ 34 ∷ (inner name ++ (34 ∷ []))

-- bs is the text of name: the name itself only where it is bare
abbrev pub Shown : List ℕ → List ℕ → Type 0
Shown name bs = ((bs ≡ name) × Bare name) ⊎ Quoted name bs
