-- What a folder is asked over, and where there is no room.
use Rattle.std.specs.Prelude.{ℕ, ◌+◌, cond, List, ◌++◌, length, replicate, Some, None, Option, nat_lt}
use Rattle.arena.specs.Nodes.{Node, operand_total}
use Rattle.evaluator.specs.declared.expression_kind.ExpressionKind.{ExpressionKind}
use Rattle.evaluator.specs.declared.tables.NewConstant.{NewConstant}
use Rattle.evaluator.specs.declared.tables.FullTable.{FullTable}
use Rattle.evaluator.specs.declared.tables.FullTable.TheVariants.{Entries, Operands, Kinds}

-- The constants: their inits, which of them are mapped, and in a body the finished global entries that the inits name. With no
-- globals the inits name the table's own entries.
pub record Constants : Type 0 where
  pub list : List NewConstant
  pub globals : Option (List Node)

-- The entries so far, their kinds, and the constants.
pub record Tables : Type 0 where
  pub entries : List Node
  pub kinds : List ExpressionKind
  pub constants : Constants

-- how many entries, operands and kinds there may be
pub record Room : Type 0 where
  pub entries : ℕ
  pub operands : ℕ
  pub kinds : ℕ

-- the first table that has no room, after these entries and kinds, for so many entries more with so many operands
abbrev pub full_for : Room → List Node → List ExpressionKind → ℕ → ℕ → Option FullTable
full_for r es ks count operands =
    cond (nat_lt r.entries (length es + count)) (Some Entries)
    (cond (nat_lt r.operands (operand_total es + operands)) (Some Operands)
    (cond (nat_lt r.kinds (length ks + count)) (Some Kinds) None))

-- the first that has none for these, their operands and their kinds
abbrev pub full : Room → List Node → List ExpressionKind → List Node → Option FullTable
full r es ks more = full_for r es ks (length more) (operand_total more)

-- so many kinds for so many entries
abbrev pub kinds_for : ExpressionKind → List Node → List ExpressionKind
kinds_for k es = replicate (length es) k

-- the tables with these entries, of this kind, at their end
abbrev pub adding : ExpressionKind → List Node → Tables → Tables
adding k es t = record { entries = t.entries ++ es; kinds = t.kinds ++ kinds_for k es; constants = t.constants }
