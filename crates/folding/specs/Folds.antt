-- What folding the entries of a module gives.
use Rattle.std.specs.Prelude.{◌≡◌, ℕ, ◌⊎◌, List, [], length, map, false, None, Ok, Err, Result, vec_items}
use Rattle.arena.specs.Appends.{nodes_of}
use Rattle.arena.specs.Items.{items}
use Rattle.arena.specs.Nodes.{nodes}
use Rattle.refusals.specs.declared.Refusal.{Refusal}
use Rattle.refusals.specs.Codes.{code_of}
use Rattle.ir.specs.declared.tables.Constant.{Constant}
use Rattle.ir.specs.declared.tables.Source.{Source}
use Rattle.ir.specs.declared.tables.Sizes.{Sizes}
use Rattle.ir.specs.Tables.{global}
use Rattle.ir.specs.Checks.{CheckedSource}
use Rattle.evaluator.specs.declared.expression_kind.ExpressionKind.{ExpressionKind}
use Rattle.evaluator.specs.declared.tables.NewConstant.{NewConstant}
use Rattle.evaluator.specs.Verdicts.{Meaning}
use Rattle.walking.specs.States.{Room, State, Outcome, goes, stops}
use Rattle.walking.specs.Modules.{begun, walk_module}
use Rattle.walking.specs.Laws.{Old, CheckedOld, KeepsTrees}
use Rattle.walking.specs.Accepted.{Accepted}
use Rattle.folding.specs.declared.folds.FoldError.{FoldError}
use Rattle.folding.specs.declared.folds.FoldError.TheVariants.{Refused, HasOverrides, OutOfMemory}
use Rattle.folding.specs.declared.folds.Folded.{Folded}
use Rattle.folding.specs.declared.folds.Memory.{Memory}
use Rattle.walking.specs.declared.modules.Walked.{Walked as Walk}
use Rattle.walking.specs.Modules.{Unfit, WalkedAs, finished, room_of_slices}
use Rattle.walking.specs.declared.modules.Old.{Old as Read}
use Rattle.arena.specs.declared.arena.Arena.{Arena}
use Rattle.arena.specs.declared.table.Table.{Table}
use Rattle.arena.specs.Items.{limit}
use Rattle.arena.specs.Appends.{entry_limit, operand_limit}
use Rattle.std.specs.Prelude.{Option, MatchOption, take}

-- constants that are not yet mapped
abbrev pub unmapped : List Constant → List NewConstant
unmapped cs = map (λ (c : Constant). record { init = c.init; mapped = false }) cs

-- as much room as a format has, and an image for each entry
abbrev pub room_of : Source → Room
room_of s =
    record {
      tables = record { entries = 65536; operands = 262144; kinds = 65536 };
      constants = length (vec_items s.constants);
      images = length (vec_items s.entries);
      settled = 0;
    }

-- what a walk reads where there are no overrides
abbrev pub old_of : Source → Old
old_of s =
    record {
      entries = nodes (vec_items s.entries) (vec_items s.operands);
      inits = map (λ (c : Constant). c.init) (vec_items s.constants);
      overrides = [];
    }

-- the walk over the entries, with no override to settle
abbrev pub folding : Meaning → Source → Outcome
folding m s = walk_module m (room_of s) [] (nodes (vec_items s.entries) (vec_items s.operands)) (begun (unmapped (vec_items s.constants)))

-- what is finished, with these kinds and overrides' constants
abbrev pub state_of : Folded → List ExpressionKind → List ℕ → State
state_of f ks ss =
    record {
      tables = record {
        entries = nodes_of f.entries;
        kinds = ks;
        constants = record { list = items f.constants; globals = None };
      };
      images = vec_items f.images;
      settled = ss;
    }

-- The walk went to its end, and where the tables are well formed the trees are kept; or it stopped with the refusal. Of memory nothing is
-- said.
abbrev pub FoldedBy : Meaning → Source → Result Folded FoldError → Type 0
FoldedBy m s (Ok f) =
    (ks : List ExpressionKind) × (ss : List ℕ) × (folding m s ≡ goes (state_of f ks ss)) × (CheckedOld (old_of s) → KeepsTrees (old_of s) (state_of f ks ss))
FoldedBy m s (Err (Refused e)) =
    (t : State) × (code : ℕ) × (values : List ℕ) × (folding m s ≡ stops t code values) × (code_of e ≡ (code, values))
FoldedBy m s (Err HasOverrides) = ⊥
FoldedBy m s (Err OutOfMemory) = Unit {0}

-- Ok: the tables are well formed and without overrides, what is finished is what the walk gives, and every handle's image has the handle's
-- own tree. Refused with the first refusal that applies to the tables, or with that of the walk over well-formed ones.
abbrev pub Gave : Meaning → Source → Sizes → Result Folded FoldError → Type 0
Gave m s z (Ok f) =
    Accepted (global s z) × (vec_items s.overrides ≡ [])
    × ((ks : List ExpressionKind) × (ss : List ℕ) × (folding m s ≡ goes (state_of f ks ss)) × KeepsTrees (old_of s) (state_of f ks ss))
Gave m s z (Err (Refused e)) =
    CheckedSource (global s z) (Err e) ⊎ (Accepted (global s z) × (vec_items s.overrides ≡ []) × FoldedBy m s (Err (Refused e)))
Gave m s z (Err HasOverrides) = Accepted (global s z) × (vec_items s.overrides ≡ [] → ⊥)
Gave m s z (Err OutOfMemory) = Accepted (global s z) × (vec_items s.overrides ≡ [])

-- memory for a walk over a module: nothing is written, and its constants are copied
pub record Reserved (s : Source) (m : Memory) : Type 0 where
  pub entries : entry_limit m.expressions ≡ 65536
  pub operands : operand_limit m.expressions ≡ 262144
  pub kinds : length (vec_items m.kinds) ≡ 65536
  pub recorded : limit m.recorded ≡ 65536
  pub constants : items m.constants ≡ unmapped (vec_items s.constants)
  pub constant_limit : limit m.constants ≡ length (vec_items s.constants)
  pub images : length (vec_items m.images) ≡ length (vec_items s.entries)
  pub scratch : limit m.scratch ≡ length (vec_items s.operands)

-- what a walk with these tables leaves in them; of overrides' constants there are none to keep
abbrev pub WalkedBy : Meaning → Read → Table ℕ → Arena → List ExpressionKind → Table ExpressionKind → Table NewConstant → List ℕ → Arena → Table ExpressionKind → Table NewConstant → List ℕ → Option Walk → Type 0
WalkedBy f old scratch a ks recorded cs is b ls ds js r =
    MatchOption r (Unfit old scratch ks recorded cs is)
    (λ w. (ss : List ℕ) × WalkedAs f (room_of_slices a ks cs is [])
    (record { entries = nodes old.entries.now old.operands.now; inits = map (λ (c : NewConstant). c.init) (items cs); overrides = old.overrides.now })
    (items cs) (finished b ls ds js ss w) w.ended)

-- the same in memory a, which it leaves as b
abbrev pub WalkedIn : Meaning → Read → Memory → Memory → Option Walk → Type 0
WalkedIn f old a b r =
    WalkedBy f old a.scratch a.expressions (vec_items a.kinds) a.recorded a.constants (vec_items a.images) b.expressions b.recorded b.constants (vec_items b.images) r

-- what is finished in memory m after a walk, or why it stopped
abbrev pub FinishedAs : Memory → Walk → Result (Unit {0}) Refusal → Result Folded FoldError → Type 0
FinishedAs m w (Ok u) (Ok f) =
    (f.entries ≡ m.expressions) × (f.constants ≡ m.constants) × (vec_items f.images ≡ take w.images (vec_items m.images))
FinishedAs m w (Ok u) (Err x) = ⊥
FinishedAs m w (Err e) (Ok f) = ⊥
FinishedAs m w (Err e) (Err x) = x ≡ Refused e

abbrev pub Finished : Memory → Walk → Result Folded FoldError → Type 0
Finished m w r = FinishedAs m w w.ended r
