-- Blocks read one record after the other. A stack has, for each open block from the innermost and last for the whole body, how many
-- blocks are still to come there. It begins as 1, and ends as 0.
use Rattle.std.specs.Prelude.{◌≡◌, ℕ, zero, suc, cond, List, [], ◌∷◌, length, reverse, Some, None, Option, nat_lt}
use Rattle.arena.specs.Nodes.{Node}
use Rattle.blocks.specs.declared.Role.{Role}
use Rattle.blocks.specs.declared.Role.TheVariants.{Opening, Closing, Doing}
use Rattle.blocks.specs.declared.Nest.{Nest}
use Rattle.blocks.specs.Blocks.{role_given_to}

-- at most `limit` blocks are nested
abbrev pub step : ℕ → Role → List ℕ → Option (List ℕ)
step limit Opening [] = None
step limit Opening (zero ∷ s) = None
step limit Opening (suc p ∷ s) = cond (nat_lt (length s) limit) (Some (0 ∷ p ∷ s)) None
step limit Closing [] = None
step limit Closing (p ∷ []) = None
step limit Closing (zero ∷ (q ∷ s)) = Some (q ∷ s)
step limit Closing (suc p ∷ (q ∷ s)) = None
step limit (Doing n) [] = None
step limit (Doing n) (p ∷ []) = None
step limit (Doing n) (zero ∷ (q ∷ s)) = Some (n ∷ q ∷ s)
step limit (Doing n) (suc p ∷ (q ∷ s)) = None

abbrev pub stepped : ℕ → Node → Option (List ℕ) → Option (List ℕ)
stepped limit e None = None
stepped limit e (Some s) = step limit (role_given_to e) s

abbrev pub run : ℕ → Option (List ℕ) → List Node → Option (List ℕ)
run limit o [] = o
run limit o (e ∷ es) = run limit (stepped limit e o) es

-- ---- the stack as the program holds it

abbrev pub stack : Nest → List ℕ
stack n = n.owed ∷ reverse n.around.items

-- a record was taken, or refused
abbrev pub Taken : Role → Nest → Nest → Option Unit → Type 0
Taken r n m (Some _) = step 64 r (stack n) ≡ Some (stack m)
Taken r n m None = step 64 r (stack n) ≡ None
