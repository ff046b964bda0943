-- What the operators give, and that a literal can hold it.
use Rattle.std.proofs.Common.{◌≡◌, ℕ, ◌+◌, ◌-◌, ◌*◌, ◌%◌, ◌^◌, ◌<◌, Bool, true, false, cond, eqb, ◌&&◌, Some, None, refl, ap, ◌∙◌, ⊎_elim, arith}
use Rattle.std.specs.Option.{option_map, unwrap_or}
use Rattle.std.proofs.lemmas.Bool.{or_cases, eqb-true, eq-eqb, le-ltb}
use Rattle.std.proofs.lemmas.Option.{none-some, same_Some}
use Rattle.arena.specs.Nodes.{Node}
use Rattle.ir.specs.Faults.{malformed}
use Rattle.evaluator.specs.Trees.{Tree, leaf, node, none, arg, operated, has_operators, combined, binary, worked_out, Reading, args_of, word, tree_of}

-- every result fits 32 bits
pub operated_small : (op a b n : ℕ) → operated op a b ≡ Some n → n < 4294967296
unfolding operated
operated_small op a b n = go (eqb op 0) (eqb op 1) (eqb op 2)
  where
    is : (m : ℕ) → Some (m % 4294967296) ≡ Some n → n < 4294967296
    is m e = let q : m % 4294967296 ≡ n = same_Some _ _ e in omega (arith, q)

    go : (p q r : Bool) → cond p (Some ((a + b) % 2 ^ 32)) (cond q (Some ((a + (2 ^ 32 - b % 2 ^ 32)) % 2 ^ 32)) (cond r (Some ((a * b) % 2 ^ 32)) None)) ≡ Some n → n < 4294967296
    go true q r e = is (a + b) e
    go false true r e = is (a + (2 ^ 32 - b % 2 ^ 32)) e
    go false false true e = is (a * b) e
    go false false false e = absurd (none-some n e)

-- an operator on two values of one type
pub combined_leaf : (op t a b n : ℕ) → has_operators t ≡ true → operated op a b ≡ Some n → combined op t a t b ≡ Some (leaf t n)
unfolding combined
combined_leaf op t a b n h e = ap (λ s. cond (s && has_operators t) (option_map (leaf t) (operated op a b)) None) (eq-eqb t t refl) ∙ ap (λ s. cond s (option_map (leaf t) (operated op a b)) None) h ∙ ap (option_map (leaf t)) e

-- the tree of a Binary over two leaves that are worked out
pub binary_tree : (r : Reading) (e : Node) (t a u b : ℕ) (x : Tree) → e.kind ≡ binary → args_of r.operand e.operands ≡ arg (leaf t a) (arg (leaf u b) none) → combined (word e 0) t a u b ≡ Some x → tree_of r e ≡ x
unfolding tree_of worked_out
binary_tree r e t a u b x k args c =
    rw (k, args) (ap (λ o. unwrap_or o (node binary e.words (arg (leaf t a) (arg (leaf u b) none)))) c)

-- a literal of such a type holds every result
pub result_formed : (t n : ℕ) → has_operators t ≡ true → n < 4294967296 → malformed t n 0 ≡ false
result_formed t n h l = ⊎_elim (λ (q : eqb t 3 ≡ true). by (eqb-true _ _ q) (le-ltb _ _ (omega (arith, l)))) (λ (q : eqb t 4 ≡ true). by (eqb-true _ _ q) (le-ltb _ _ (omega (arith, l)))) (or_cases (eqb t 3) (eqb t 4) h)
  where
    by : {k : ℕ} → t ≡ k → malformed k n 0 ≡ false → malformed t n 0 ≡ false
    by e m = ap (λ x. malformed x n 0) e ∙ m
