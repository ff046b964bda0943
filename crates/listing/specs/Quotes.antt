-- How a key is written as text.
use Rattle.std.specs.Prelude.{◌≡◌, ℕ, ◌-◌, ◌/◌, ◌%◌, ◌<◌, Bool, cond, not, ◌&&◌, T, ◌⊎◌, List, [], ◌∷◌, ◌++◌, length, ◌==◌, ◌≢◌, nat_le, slice_index}
use Rattle.std.specs.Char.{digit_char}
use Rattle.std.specs.List.{flat_map}

-- printable, and neither = nor "
abbrev pub plain_byte : ℕ → Bool
plain_byte b = (nat_le 32 b && nat_le b 126) && (not (b == 61) && not (b == 34))

-- and not a backslash
abbrev pub shown_byte : ℕ → Bool
shown_byte b = plain_byte b && not (b == 92)

-- \xNN
abbrev pub escape : ℕ → List ℕ
escape b = 92 ∷ 120 ∷ digit_char (b / 16) ∷ digit_char (b % 16) ∷ []

abbrev pub byte_text : ℕ → List ℕ
byte_text b = cond (shown_byte b) (b ∷ []) (escape b)

-- what stands between the quotes
abbrev pub inner : List ℕ → List ℕ
inner bs = flat_map byte_text bs

abbrev pub Bytes : List ℕ → Type 0
Bytes bs = (k : ℕ) → slice_index bs k < 256

-- something, with no space at either end and no # in front
abbrev pub PlainEnds : List ℕ → Type 0
PlainEnds key = (0 < length key) × (slice_index key 0 ≢ 32) × (slice_index key 0 ≢ 35) × (slice_index key (length key - 1) ≢ 32)

abbrev pub Plain : List ℕ → Type 0
Plain key = PlainEnds key × ((k : ℕ) → k < length key → T (plain_byte (slice_index key k)))

-- bs is the text of key: the key itself only where it is plain
abbrev pub Shown : List ℕ → List ℕ → Type 0
Shown key bs = ((bs ≡ key) × Plain key) ⊎ (bs ≡ 34 ∷ (inner key ++ (34 ∷ [])))
