-- The text of a name, written and read.
use Rattle.std.proofs.Common.{◌≡◌, ℕ, suc, ◌+◌, ◌-◌, ◌*◌, ◌/◌, ◌%◌, ◌<◌, Bool, true, false, cond, List, [], ◌∷◌, ◌++◌, length, get_or, take, drop, sym, refl, ap, ◌∙◌, append_assoc, arith, length-append}
use Rattle.std.proofs.lemmas.List.{take_rest}
use Rattle.std.proofs.lemmas.Str.{digit_value-digit_char}
use Rattle.std.specs.Char.{digit_value}
use Rattle.shader_text.specs.NameTexts.{shown_byte, escape, byte_text, inner, Bytes}

-- an escape
pub escape_rest : (text : List ℕ) (b : ℕ) (rest : List ℕ) → text ≡ escape b ++ rest → take (length text - 4) (drop 4 text) ≡ rest
escape_rest text b rest e = take_rest text 4 ∙ ap (λ l. drop 4 l) e

pub escape_value : (text : List ℕ) (b high low : ℕ) (rest : List ℕ) → b < 256 → text ≡ escape b ++ rest → high ≡ digit_value (get_or text 2 0) → low ≡ digit_value (get_or text 3 0) → 16 * high + low ≡ b
escape_value text b high low rest small e is_high is_low =
    let first : high ≡ b / 16 = is_high ∙ ap (λ l. digit_value (get_or l 2 0)) e ∙ digit_value-digit_char (b / 16) (omega (arith, small)) in
    let second : low ≡ b % 16 = is_low ∙ ap (λ l. digit_value (get_or l 3 0)) e ∙ digit_value-digit_char (b % 16) (omega arith) in
    omega (arith, first, second)

-- the first byte of what is left
byte_text_some : (v : Bool) (b : ℕ) → 0 < length (cond v (b ∷ []) (escape b))
byte_text_some true b = omega arith
byte_text_some false b = omega arith

pub next : (rest left : List ℕ) → 0 < length rest → Bytes left → rest ≡ inner left → (b : ℕ) × (bs : List ℕ) × (left ≡ b ∷ bs) × (b < 256) × (rest ≡ byte_text b ++ inner bs) × Bytes bs
next rest [] some small e = let no : ⊥ = omega (arith, some, ap length e) in elim no [ ]
next rest (b ∷ bs) some small e = (b, bs, refl, small 0, e, λ k. small (suc k))

pub none_left : (rest left : List ℕ) → length rest ≡ 0 → rest ≡ inner left → left ≡ []
none_left rest [] none e = refl
none_left rest (b ∷ bs) none e =
    let no : ⊥ = omega (arith, none, ap length e, length-append (byte_text b) (inner bs), byte_text_some (shown_byte b) b) in
    elim no [ ]

pub joined_more : (name name' xs left bs : List ℕ) (b byte : ℕ) → name ≡ xs ++ left → left ≡ b ∷ bs → byte ≡ b → name' ≡ xs ++ (byte ∷ []) → name ≡ name' ++ bs
joined_more name name' xs left bs b byte e is same more =
    e ∙ ap (λ l. xs ++ l) is ∙ ap (λ n. xs ++ (n ∷ bs)) (sym same) ∙ sym (append_assoc xs (byte ∷ []) bs) ∙ ap (λ l. l ++ bs) (sym more)
