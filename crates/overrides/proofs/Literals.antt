-- A literal that a value becomes holds the bits of its type.
use Rattle.std.proofs.Common.{◌≡◌, ℕ, ◌+◌, ◌-◌, ◌^◌, ◌<◌, ◌≤◌, Bool, true, false, cond, ◌&&◌, T, eqb, ltb, ℤ, pos, negsuc, nat_abs, Ok, Err, refl, sym, subst, arith}
use lib.Signed.{le_z}
use lib.Ieee as Ieee
use lib.Ieee.Bits.{to_bits-lt}
use Rattle.std.proofs.lemmas.Bool.{le-ltb, leb-true, ltb-true}
use Rattle.std.specs.Float.{float_is_finite, is_sign_negative}
use Rattle.rounding.specs.declared.scalars.Scalar.{Scalar}
use Rattle.rounding.specs.declared.scalars.ScalarKind.{ScalarKind}
use Rattle.rounding.specs.declared.scalars.ScalarKind.TheVariants as Kinds
use Rattle.rounding.specs.declared.literals.Literal.{Literal}
use Rattle.rounding.specs.declared.literals.Literal.TheVariants as Literals
use Rattle.rounding.specs.Formats.{Format, half, single, infinity, sign_bit_of}
use Rattle.rounding.specs.Doubles.{whole, truth}
use Rattle.rounding.specs.Literals.{type_of, literal_bits_of}
use Rattle.rounding.specs.Conversion.{Answer, Refused, Whole, Rounds, OfKind, Becomes}
use Rattle.ir.specs.Faults.{malformed}

abbrev Fine : Literal → Type 0
Fine l = malformed (type_of l) (literal_bits_of l) 0 ≡ false

-- of an answer that is a literal
abbrev pub FineIf : Answer Literal → Type 0
FineIf (Ok l) = Fine l
FineIf (Err e) = Unit {0}

refused : (r : Answer Literal) (code : ℕ) → Refused r code → FineIf r
refused (Ok l) code h = absurd h
refused (Err e) code h = tt

by : (b : Bool) (P Q F : Type 0) → (P → F) → (Q → F) → cond b P Q → F
by true P Q F p q h = p h
by false P Q F p q h = q h

where_true : (b : Bool) (P Q F : Type 0) → (b ≡ true → P → F) → (Q → F) → cond b P Q → F
where_true true P Q F p q h = p refl h
where_true false P Q F p q h = q h

is : (l : Literal) (r : Answer Literal) → Fine l → r ≡ Ok l → FineIf r
is l r f e = subst FineIf (sym e) f

right : (a b : Bool) → (a && b) ≡ true → b ≡ true
right true b h = h
right false b h = absurd cc

-- ---- each type

bool_fine : (b : Bool) → Fine (Literals.Bool b)
bool_fine true = le-ltb 1 1 (omega arith)
bool_fine false = le-ltb 1 0 (omega arith)

i16_fine : (z : ℤ) → (le_z (negsuc (2 ^ 15 - 1)) z && le_z z (pos (2 ^ 15 - 1))) ≡ true → Fine (Literals.I16 z)
i16_fine (pos n) h = le-ltb 65535 (n + 0) (omega (arith, leb-true n 32767 h))
i16_fine (negsuc n) h = le-ltb 65535 (65535 - n + 0) (omega arith)

i32_fine : (z : ℤ) → (le_z (negsuc (2 ^ 31 - 1)) z && le_z z (pos (2 ^ 31 - 1))) ≡ true → Fine (Literals.I32 z)
i32_fine (pos n) h = le-ltb 4294967295 (n + 0) (omega (arith, leb-true n 2147483647 h))
i32_fine (negsuc n) h = le-ltb 4294967295 (4294967295 - n + 0) (omega arith)

u16_fine : (z : ℤ) → (le_z (pos 0) z && le_z z (pos (2 ^ 16 - 1))) ≡ true → Fine (Literals.U16 (nat_abs z))
u16_fine (pos n) h = le-ltb 65535 (n + 0) (omega (arith, leb-true n 65535 (right (le_z (pos 0) (pos n)) _ h)))
u16_fine (negsuc n) h = absurd cc

u32_fine : (z : ℤ) → (le_z (pos 0) z && le_z z (pos (2 ^ 32 - 1))) ≡ true → Fine (Literals.U32 (nat_abs z))
u32_fine (pos n) h = le-ltb 4294967295 (n + 0) (omega (arith, leb-true n 4294967295 (right (le_z (pos 0) (pos n)) _ h)))
u32_fine (negsuc n) h = absurd cc

-- a sign, which is clear or set, and a pattern below the infinity's
signed : (b : Bool) (s q m : ℕ) → q + s ≤ m → cond b s 0 + q ≤ m
signed true s q m l = omega (arith, l)
signed false s q m l = omega (arith, l)

f16_fine : (b : Bool) (q : ℕ) → ltb q (infinity half) ≡ true → Fine (Literals.F16 (cond b (sign_bit_of half) 0 + q))
f16_fine b q h =
    let l : q < 31744 = ltb-true q 31744 h in
    let k : cond b 32768 0 + q ≤ 65535 = signed b 32768 q 65535 (omega (arith, l)) in
    le-ltb 65535 (cond b 32768 0 + q + 0) (omega (arith, k))

f32_fine : (b : Bool) (q : ℕ) → ltb q (infinity single) ≡ true → Fine (Literals.F32 (cond b (sign_bit_of single) 0 + q))
f32_fine b q h =
    let l : q < 2139095040 = ltb-true q 2139095040 h in
    let k : cond b 2147483648 0 + q ≤ 4294967295 = signed b 2147483648 q 4294967295 (omega (arith, l)) in
    le-ltb 4294967295 (cond b 2147483648 0 + q + 0) (omega (arith, k))

f64_fine : (x : Ieee.Float) → T (Ieee.fits Ieee.binary64 x) → Fine (Literals.F64 (Ieee.to_bits Ieee.binary64 x))
f64_fine x f =
    let l : Ieee.to_bits Ieee.binary64 x < 18446744073709551616 = to_bits-lt Ieee.binary64 x f in
    le-ltb 18446744073709551615 (Ieee.to_bits Ieee.binary64 x + 0) (omega (arith, l))

-- ---- each kind of answer

whole_fine : (x : Ieee.Float) (low high : ℤ) (make : ℤ → Literal) (r : Answer Literal) →
    ((z : ℤ) → (le_z low z && le_z z high) ≡ true → Fine (make z)) → Whole x r low high make → FineIf r
whole_fine x low high make r fine =
    by (float_is_finite x) _ _ (FineIf r) (where_true (le_z low (whole x) && le_z (whole x) high) _ _ (FineIf r) (λ t. is (make (whole x)) r (fine (whole x) t)) (refused r 10)) (refused r 9)

rounded_fine : (x : Ieee.Float) (f : Format) (make : ℕ → Literal) (r : Answer Literal) →
    ((b : Bool) (q : ℕ) → ltb q (infinity f) ≡ true → Fine (make (cond b (sign_bit_of f) 0 + q))) → Rounds x r f make → FineIf r
rounded_fine x f make r fine =
    by (float_is_finite x) _ _ (FineIf r)
    (λ h. where_true (ltb h.0 (infinity f)) _ _ (FineIf r) (λ t. is (make (cond (is_sign_negative x) (sign_bit_of f) 0 + h.0)) r (fine (is_sign_negative x) h.0 t)) (refused r 10) h.2)
    (refused r 9)

of_kind : (k : ScalarKind) (w : ℕ) (x : Ieee.Float) (r : Answer Literal) → T (Ieee.fits Ieee.binary64 x) → OfKind k w x r → FineIf r
of_kind Kinds.Bool w x r f = by (eqb w 1) _ _ (FineIf r) (is (Literals.Bool (truth x)) r (bool_fine (truth x))) (refused r 11)
of_kind Kinds.Sint w x r f =
    by (eqb w 2) _ _ (FineIf r) (whole_fine x (negsuc (2 ^ 15 - 1)) (pos (2 ^ 15 - 1)) Literals.I16 r i16_fine)
    (by (eqb w 4) _ _ (FineIf r) (whole_fine x (negsuc (2 ^ 31 - 1)) (pos (2 ^ 31 - 1)) Literals.I32 r i32_fine) (refused r 11))
of_kind Kinds.Uint w x r f =
    by (eqb w 2) _ _ (FineIf r) (whole_fine x (pos 0) (pos (2 ^ 16 - 1)) (λ z. Literals.U16 (nat_abs z)) r u16_fine)
    (by (eqb w 4) _ _ (FineIf r) (whole_fine x (pos 0) (pos (2 ^ 32 - 1)) (λ z. Literals.U32 (nat_abs z)) r u32_fine) (refused r 11))
of_kind Kinds.Float w x r f =
    by (eqb w 2) _ _ (FineIf r) (rounded_fine x half Literals.F16 r f16_fine)
    (by (eqb w 4) _ _ (FineIf r) (rounded_fine x single Literals.F32 r f32_fine)
    (by (eqb w 8) _ _ (FineIf r) (by (float_is_finite x) _ _ (FineIf r) (is (Literals.F64 (Ieee.to_bits Ieee.binary64 x)) r (f64_fine x f)) (refused r 9)) (refused r 11)))

pub becomes_fine : (scalar : Scalar) (x : Ieee.Float) (r : Answer Literal) → T (Ieee.fits Ieee.binary64 x) → Becomes scalar x r → FineIf r
becomes_fine scalar x r f = of_kind scalar.kind scalar.width x r f
