-- Small tables: what the folders say of an expression over them.
use Rattle.std.specs.Prelude.{◌≡◌, ℕ, List, [], ◌∷◌, ◌++◌, map, None, Some, true, pos, negsuc}
use Rattle.arena.specs.Nodes.{Node}
use Rattle.rounding.specs.declared.literals.Literal.{Literal}
use Rattle.rounding.specs.declared.literals.Literal.TheVariants.{I32, U32, F32}
use Rattle.rounding.specs.Literals.{words_of}
use Rattle.evaluator.specs.declared.expression_kind.ExpressionKind.TheVariants.{Const}
use Rattle.evaluator.specs.Tables.{Tables}
use Rattle.evaluator.specs.Verdicts.{folds, declines, faults, Meaning}
use Rattle.layers.specs.Layers.{keep, whole, find}

-- a Literal that stands in a table, and one that is asked about or added for what was asked
abbrev pub standing : Literal → Node
standing l = record { kind = 18; words = words_of l ++ 0 ∷ []; operands = []; span = record { start = 1; end = 2 } }

abbrev pub asked : ℕ → List ℕ → List ℕ → Node
asked kind words operands = record { kind = kind; words = words; operands = operands; span = record { start = 5; end = 9 } }

abbrev pub answer : Literal → Node
answer l = asked 18 (words_of l ++ 0 ∷ []) []

-- Add is 0, Subtract 1 and Multiply 2
abbrev pub operation : ℕ → ℕ → ℕ → Node
operation operator left right = asked 10 (operator ∷ 0 ∷ 0 ∷ 0 ∷ []) (left ∷ right ∷ [])

-- an entry that names a constant by its number
abbrev pub naming : ℕ → Node
naming number = asked 24 (number ∷ 0 ∷ 0 ∷ 0 ∷ []) []

-- tables of Const entries, with constants of these inits
abbrev pub over : List Node → List ℕ → Tables
over es inits =
    record {
      entries = es;
      kinds = map (λ _. Const) es;
      constants = record { list = map (λ i. record { init = i; mapped = true }) inits; globals = None };
    }

-- the same as a body's, whose constants have their inits among the globals
abbrev pub in_body : List Node → List ℕ → List Node → Tables
in_body gs inits es =
    record {
      entries = es;
      kinds = map (λ _. Const) es;
      constants = record { list = map (λ i. record { init = i; mapped = true }) inits; globals = Some gs };
    }

-- I32 2,147,483,647 and I32 1
abbrev pub largest_and_one : Tables
largest_and_one = over (standing (I32 (pos 2147483647)) ∷ standing (I32 (pos 1)) ∷ []) []

-- U32 0 and U32 1
abbrev pub zero_and_one : Tables
zero_and_one = over (standing (U32 0) ∷ standing (U32 1) ∷ []) []

-- a constant whose init is a constant whose init is I32 20
abbrev pub chain : List Node
chain = standing (I32 (pos 20)) ∷ naming 0 ∷ naming 1 ∷ []

-- faults with code 7 as layer 1, whatever it is asked
abbrev pub faulty : Meaning
faulty t e = faults 1 7

pub record Examples : Type 0 where
  -- I32 2,147,483,647 + 1 is -2,147,483,648
  pub sum : whole keep largest_and_one (operation 0 0 1) ≡ folds (answer (I32 (negsuc 2147483647)) ∷ []) 2
  pub sum_words : words_of (I32 (negsuc 2147483647)) ≡ 3 ∷ 2147483648 ∷ 0 ∷ []
  pub difference : whole keep largest_and_one (operation 1 0 1) ≡ folds (answer (I32 (pos 2147483646)) ∷ []) 2
  -- 1 - 2,147,483,647 is -2,147,483,646
  pub swapped : whole keep largest_and_one (operation 1 1 0) ≡ folds (answer (I32 (negsuc 2147483645)) ∷ []) 2
  -- 2,147,483,647 squared is 1, modulo 2^32
  pub product : whole keep largest_and_one (operation 2 0 0) ≡ folds (answer (I32 (pos 1)) ∷ []) 2
  -- U32 0 - 1 is 4,294,967,295
  pub below_zero : whole keep zero_and_one (operation 1 0 1) ≡ folds (answer (U32 4294967295) ∷ []) 2
  -- neither Divide, nor I32 with U32, nor F32 1 and 1
  pub divide : whole keep zero_and_one (operation 3 0 1) ≡ declines
  pub mixed : whole keep (over (standing (I32 (pos 1)) ∷ standing (U32 1) ∷ []) []) (operation 0 0 1) ≡ declines
  pub floats : whole keep (over (standing (F32 1065353216) ∷ standing (F32 1065353216) ∷ []) []) (operation 0 0 1) ≡ declines
  -- 20 + 20 through two constants, in a module's table and from a body's
  pub through : whole keep (over chain (0 ∷ 1 ∷ [])) (operation 0 2 0) ≡ folds (answer (I32 (pos 40)) ∷ []) 3
  pub from_body : whole keep (in_body chain (0 ∷ 1 ∷ 2 ∷ []) (naming 2 ∷ [])) (operation 0 0 0) ≡ folds (answer (I32 (pos 40)) ∷ []) 1
  -- the first Literal equal in all four words answers; another is added
  pub found : find (whole keep) largest_and_one (answer (I32 (pos 2147483647))) ≡ folds [] 0
  pub fourth_word : find (whole keep) largest_and_one (asked 18 (3 ∷ 1 ∷ 0 ∷ 9 ∷ []) []) ≡ folds (asked 18 (3 ∷ 1 ∷ 0 ∷ 9 ∷ []) [] ∷ []) 2
  pub not_found : find (whole keep) largest_and_one (answer (U32 1)) ≡ folds (answer (U32 1) ∷ []) 2
  pub kept : keep largest_and_one (asked 0 (0 ∷ 0 ∷ 0 ∷ 0 ∷ []) (1 ∷ 0 ∷ [])) ≡ folds (asked 0 (0 ∷ 0 ∷ 0 ∷ 0 ∷ []) (1 ∷ 0 ∷ []) ∷ []) 2
  pub not_kept : keep largest_and_one (operation 0 0 1) ≡ declines
  -- a fault from below comes up as it is, where nothing above folds
  pub fault : whole (find faulty) largest_and_one (operation 3 0 1) ≡ faults 1 7
  pub no_fault : whole faulty largest_and_one (operation 0 0 1) ≡ folds (answer (I32 (negsuc 2147483647)) ∷ []) 2
