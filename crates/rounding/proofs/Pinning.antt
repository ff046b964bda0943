-- The rule allows one answer. Assumes nothing.
use Rattle.std.proofs.Common.{◌≡◌, ℕ, ◌+◌, ◌-◌, ◌^◌, ◌≤◌, Bool, true, false, cond, ◌&&◌, eqb, ltb, ℤ, pos, negsuc, nat_abs, Ok, Err, sym, ◌∙◌, subst, arith, lit≤}
use lib.Signed.{le_z}
use lib.Ieee as Ieee
use Rattle.std.specs.Float.{float_is_finite, is_sign_negative}
use Rattle.rounding.specs.declared.scalars.Scalar.{Scalar}
use Rattle.rounding.specs.declared.scalars.ScalarKind.{ScalarKind}
use Rattle.rounding.specs.declared.scalars.ScalarKind.TheVariants as Kinds
use Rattle.rounding.specs.declared.literals.Literal.{Literal}
use Rattle.rounding.specs.declared.literals.Literal.TheVariants as Literals
use Rattle.rounding.specs.Formats.{Format, half, single, infinity, sign_bit_of}
use Rattle.rounding.specs.Doubles.{units, whole}
use Rattle.rounding.specs.Conversion.{Answer, Refused, Whole, Rounds, OfKind, Becomes, Pinned}
use Rattle.rounding.proofs.Choosing.{nearest_is_one}

refused_one : {X : Type 0} (r s : Answer X) (code : ℕ) → Refused r code → Refused s code → s ≡ r
refused_one (Ok v) s code h k = absurd h
refused_one (Err e) (Ok v) code h k = absurd k
refused_one (Err e) (Err d) code h k = grind arith

choose_one : {X : Type 0} (b : Bool) (P Q P' Q' : Type 0) (r s : Answer X) → (P → P' → s ≡ r) → (Q → Q' → s ≡ r) → cond b P Q → cond b P' Q' → s ≡ r
choose_one true P Q P' Q' r s p q h k = p h k
choose_one false P Q P' Q' r s p q h k = q h k

whole_one : (x : Ieee.Float) (low high : ℤ) (make : ℤ → Literal) (r s : Answer Literal) → Whole x r low high make → Whole x s low high make → s ≡ r
whole_one x low high make r s =
    choose_one (float_is_finite x) _ _ _ _ r s (choose_one (le_z low (whole x) && le_z (whole x) high) _ _ _ _ r s (λ p q. q ∙ sym p) (refused_one r s 10)) (refused_one r s 9)

rounds_one : (x : Ieee.Float) (f : Format) → 2 ≤ f.digits → (make : ℕ → Literal) (r s : Answer Literal) → Rounds x r f make → Rounds x s f make → s ≡ r
rounds_one x f two make r s =
    choose_one (float_is_finite x) _ _ _ _ r s
    (λ p q.
    let e : q.0 ≡ p.0 = nearest_is_one f two (units x) q.0 p.0 q.1 p.1 in
    let k : cond (ltb p.0 (infinity f)) (s ≡ Ok (make (cond (is_sign_negative x) (sign_bit_of f) 0 + p.0))) (Refused s 10) =
    subst (λ (z : ℕ). cond (ltb z (infinity f)) (s ≡ Ok (make (cond (is_sign_negative x) (sign_bit_of f) 0 + z))) (Refused s 10)) e q.2 in
    choose_one (ltb p.0 (infinity f)) _ _ _ _ r s (λ p q. q ∙ sym p) (refused_one r s 10) p.2 k)
    (refused_one r s 9)

one_answer : (k : ScalarKind) (w : ℕ) (x : Ieee.Float) (r s : Answer Literal) → OfKind k w x r → OfKind k w x s → s ≡ r
one_answer Kinds.Bool w x r s = choose_one (eqb w 1) _ _ _ _ r s (λ p q. q ∙ sym p) (refused_one r s 11)
one_answer Kinds.Sint w x r s =
    choose_one (eqb w 2) _ _ _ _ r s (whole_one x (negsuc (2 ^ 15 - 1)) (pos (2 ^ 15 - 1)) Literals.I16 r s)
    (choose_one (eqb w 4) _ _ _ _ r s (whole_one x (negsuc (2 ^ 31 - 1)) (pos (2 ^ 31 - 1)) Literals.I32 r s) (refused_one r s 11))
one_answer Kinds.Uint w x r s =
    choose_one (eqb w 2) _ _ _ _ r s (whole_one x (pos 0) (pos (2 ^ 16 - 1)) (λ z. Literals.U16 (nat_abs z)) r s)
    (choose_one (eqb w 4) _ _ _ _ r s (whole_one x (pos 0) (pos (2 ^ 32 - 1)) (λ z. Literals.U32 (nat_abs z)) r s) (refused_one r s 11))
one_answer Kinds.Float w x r s =
    choose_one (eqb w 2) _ _ _ _ r s (rounds_one x half (lit≤ tt) Literals.F16 r s)
    (choose_one (eqb w 4) _ _ _ _ r s (rounds_one x single (lit≤ tt) Literals.F32 r s)
    (choose_one (eqb w 8) _ _ _ _ r s (choose_one (float_is_finite x) _ _ _ _ r s (λ p q. q ∙ sym p) (refused_one r s 9)) (refused_one r s 11)))

pub pinned : (scalar : Scalar) (x : Ieee.Float) (r : Answer Literal) → Becomes scalar x r → Pinned scalar x r
pinned scalar x r h = record { becomes = h; only = λ s k. one_answer scalar.kind scalar.width x r s h k }
