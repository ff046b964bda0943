-- A walk over a module in the finished tables.
use Rattle.std.specs.Prelude.{◌≡◌, ℕ, List, length, map, take, vec_items}
use Rattle.arena.specs.Appends.{nodes_of}
use Rattle.arena.specs.Items.{items}
use Rattle.arena.specs.Nodes.{nodes, operand_total}
use Rattle.arena.specs.Tiles.{Tiled}
use Rattle.arena.specs.declared.arena.Arena.{Arena}
use Rattle.arena.specs.declared.table.Table.{Table}
use Rattle.ir.specs.declared.tables.Source.{Source}
use Rattle.evaluator.specs.declared.expression_kind.ExpressionKind.{ExpressionKind}
use Rattle.evaluator.specs.declared.tables.NewConstant.{NewConstant}
use Rattle.evaluator.specs.Verdicts.{Meaning}
use Rattle.walking.specs.declared.overrides.Valued.{Valued}
use Rattle.walking.specs.declared.modules.Old.{Old as Read}
use Rattle.walking.specs.declared.modules.Walked.{Walked}
use Rattle.walking.specs.Laws.{Old}
use Rattle.walking.specs.Modules.{WalkedAs, room_of_slices}
use Rattle.pipeline_constants.specs.declared.finished.Finished.{Finished}
use Rattle.pipeline_constants.specs.Views.{state_of, content_of, limits_of}

-- what is read of a module, with constants that have these inits
abbrev pub old_in : Read → List NewConstant → Old
old_in o cs =
    record {
      entries = nodes o.entries.now o.operands.now;
      inits = map (λ (c : NewConstant). c.init) cs;
      overrides = o.overrides.now;
    }

-- A walk from tables a, ks and cs, with images and overrides' constants in these slots, left them as b, ls, ds, js and ts.
abbrev pub WalkedOver : Meaning → Read → Arena → List ExpressionKind → Table NewConstant → List ℕ → List ℕ → Arena → Table ExpressionKind → Table NewConstant → List ℕ → List ℕ → Walked → Type 0
WalkedOver f o a ks cs is ss b ls ds js ts w =
    WalkedAs f (room_of_slices a ks cs is ss) (old_in o (items cs)) (items cs) (state_of (nodes_of b) (items ds) (take w.images js) (take w.settled ts) (items ls)) w.ended

-- what is read of a module with these values, with constants that have these inits
abbrev pub old_of : Source → List Valued → List NewConstant → Old
old_of m values cs =
    record {
      entries = nodes (vec_items m.entries) (vec_items m.operands);
      inits = map (λ (c : NewConstant). c.init) cs;
      overrides = values;
    }

-- A walk over a module in finished tables a left them as b.
pub record Walking (f : Meaning) (m : Source) (values : List Valued) (a b : Finished) (w : Walked) : Type 0 where
  pub walked : WalkedAs f (limits_of a).walk (old_of m values (items a.constants)) (items a.constants) (content_of b).walk w.ended
  pub tiled : Tiled (items b.entries) (length (items b.operands))
  pub total : length (items b.operands) ≡ operand_total (nodes (items b.entries) (items b.operands))
  pub limits : limits_of b ≡ limits_of a
  pub overrides : b.overrides ≡ a.overrides
  pub variables : b.variables ≡ a.variables
