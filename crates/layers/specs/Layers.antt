-- What the shipped folders say, over what the folder below says.
use Rattle.std.specs.Prelude.{ℕ, Bool, cond, ◌&&◌, List, [], ◌∷◌, length, Some, None, Option, option_map, position, nat_lt, ◌==◌}
use lib.Pointwise.{pointwise}
use Rattle.std.specs.Prelude.{nat_eq}
use Rattle.arena.specs.Nodes.{Node}
use Rattle.arena.specs.declared.entry.Entry.{Entry}
use Rattle.blocks.specs.Sight.{one_of, pre_emit}
use Rattle.ir.specs.Faults.{literal}
use Rattle.evaluator.specs.Trees.{operated, has_operators, binary, word}
use Rattle.evaluator.specs.Tables.{Tables}
use Rattle.evaluator.specs.Verdicts.{Verdict, folds, declines, Meaning}
use Rattle.layers.specs.declared.values.Value.{Value}
use Rattle.layers.specs.declared.whole.BinaryOperator.{BinaryOperator}
use Rattle.layers.specs.declared.whole.BinaryOperator.TheVariants.{Add, Subtract, Multiply}
use Rattle.layers.specs.Values.{behind}

-- ---- Keep

-- Compose, Literal, Constant, ZeroValue
abbrev pub is_kept : ℕ → Bool
is_kept = one_of (0 ∷ 18 ∷ 24 ∷ 26 ∷ [])

-- adds these as they are, and declines the rest
abbrev pub keep : Meaning
keep t e = cond (is_kept e.kind) (folds (e ∷ []) (length t.entries)) declines

-- ---- Whole

-- the number of an operator, and the operator of a number
abbrev pub number_of : BinaryOperator → ℕ
number_of Add = 0
number_of Subtract = 1
number_of Multiply = 2

abbrev pub operator_numbered : ℕ → Option BinaryOperator
operator_numbered n = cond (n == 0) (Some Add) (cond (n == 1) (Some Subtract) (cond (n == 2) (Some Multiply) None))

abbrev pub value : ℕ → ℕ → Value
value ty bits = record { ty = ty; bits = bits }

-- two 32-bit values of one type that has operators
abbrev pub paired : Value → Value → Bool
paired a b = (a.ty == b.ty && has_operators a.ty) && (nat_lt a.bits 4294967296 && nat_lt b.bits 4294967296)

abbrev pub worked : BinaryOperator → Value → Value → Option Value
worked op a b = cond (paired a b) (option_map (value a.ty) (operated (number_of op) a.bits b.bits)) None

abbrev pub worked_if : Option BinaryOperator → Option Value → Option Value → Option Value
worked_if (Some op) (Some a) (Some b) = worked op a b
worked_if _ _ _ = None

abbrev pub worked_over : Tables → ℕ → List ℕ → Option Value
worked_over t op (a ∷ (b ∷ [])) = worked_if (operator_numbered op) (behind t a) (behind t b)
worked_over t op _ = None

-- the result of a Binary over two literals
abbrev pub result_of : Tables → Node → Option Value
result_of t e = cond (e.kind == binary) (worked_over t (word e 0) e.operands) None

-- a 32-bit literal with the span of an entry
abbrev pub literal_like : Node → Value → Node
literal_like e v = record { kind = literal; words = v.ty ∷ v.bits ∷ 0 ∷ 0 ∷ []; operands = []; span = e.span }

abbrev pub adding_or : Tables → Node → Verdict → Option Value → Verdict
adding_or t e v None = v
adding_or t e v (Some l) = folds (literal_like e l ∷ []) (length t.entries)

-- adds the Literal that a Binary is worked out to, and passes the rest on
abbrev pub whole : Meaning → Meaning
whole below t e = adding_or t e (below t e) (result_of t e)

-- ---- Find

-- equal in kind and words
abbrev pub same : ℕ → List ℕ → ℕ → List ℕ → Bool
same kind words k ws = (k == kind) && pointwise nat_eq ws words

abbrev pub is_like : Node → Node → Bool
is_like e x = same e.kind e.words x.kind x.words

-- the same of an entry, wherever its operands lie
abbrev pub is_like_entry : Node → Entry → Bool
is_like_entry e x = same e.kind e.words x.kind x.words

abbrev pub found_or : Verdict → Option ℕ → Verdict
found_or v None = v
found_or v (Some h) = folds [] h

-- the first entry like a pre-emit one
abbrev pub found_in : List Node → Node → Option ℕ
found_in es e = cond (pre_emit (Some e)) (position (is_like e) es) None

-- answers a pre-emit entry by the first like it, and passes the rest on
abbrev pub find : Meaning → Meaning
find below t e = found_or (below t e) (found_in t.entries e)
