-- A whole walk over a module's entries, from empty tables.
use Rattle.std.specs.Prelude.{ℕ, ◌<◌, List, [], ◌⊎◌, length, take, None, ◌≡◌, Ok, Result}
use Rattle.arena.specs.Nodes.{Node}
use Rattle.arena.specs.Appends.{nodes_of, entry_limit, operand_limit}
use Rattle.arena.specs.Items.{items, limit}
use Rattle.arena.specs.declared.arena.Arena.{Arena}
use Rattle.arena.specs.declared.table.Table.{Table}
use Rattle.arena.specs.Held.{held, slots}
use Rattle.arena.specs.declared.handle_vec.HandleVec.{HandleVec}
use Rattle.evaluator.specs.declared.expression_kind.ExpressionKindTracker.{ExpressionKindTracker}
use Rattle.evaluator.specs.declared.tables.NewConstant.{NewConstant}
use Rattle.evaluator.specs.Verdicts.{Meaning}
use Rattle.walking.specs.declared.overrides.Valued.{Valued}
use Rattle.evaluator.specs.declared.expression_kind.ExpressionKind.{ExpressionKind}
use Rattle.walking.specs.declared.modules.Old.{Old}
use Rattle.walking.specs.declared.modules.Walked.{Walked}
use Rattle.walking.specs.States.{Room, State, Outcome, goes, then}
use Rattle.walking.specs.Images.{map_rest}
use Rattle.walking.specs.Walks.{walk_all}
use Rattle.walking.specs.Works.{Went}
use Rattle.refusals.specs.declared.Refusal.{Refusal}
use Rattle.walking.specs.Laws.{Old as Module, CheckedOld, KeepsTrees, start}

-- the walk, and then the constants that are left
abbrev pub walk_module : Meaning → Room → List Valued → List Node → State → Outcome
walk_module m r os es s = then (walk_all m r os es s) (λ f. goes (map_rest f))

-- nothing written, over these constants
abbrev pub begun : List NewConstant → State
begun cs =
    record {
      tables = record { entries = []; kinds = []; constants = record { list = cs; globals = None } };
      images = [];
      settled = [];
    }

-- what is written in these tables, over constants that are being mapped
abbrev pub written : Arena → ExpressionKindTracker → Table NewConstant → HandleVec ℕ → HandleVec ℕ → State
written a ks cs images settled =
    record {
      tables = record { entries = nodes_of a; kinds = held ks.inner; constants = record { list = items cs; globals = None } };
      images = held images;
      settled = held settled;
    }

abbrev pub room_for : Arena → ExpressionKindTracker → Table NewConstant → HandleVec ℕ → HandleVec ℕ → Room
room_for a ks cs images settled =
    record {
      tables = record { entries = entry_limit a; operands = operand_limit a; kinds = length (slots ks.inner) };
      constants = limit cs;
      images = length (slots images);
      settled = length (slots settled);
    }

-- the room of tables whose slices are lent
abbrev pub room_of_slices : Arena → List ExpressionKind → Table NewConstant → List ℕ → List ℕ → Room
room_of_slices a ks cs images settled =
    record {
      tables = record { entries = entry_limit a; operands = operand_limit a; kinds = length ks };
      constants = limit cs;
      images = length images;
      settled = length settled;
    }

-- what tables hold of which so many images and so many overrides' constants are written
abbrev pub finished : Arena → Table ExpressionKind → Table NewConstant → List ℕ → List ℕ → Walked → State
finished a ks cs images settled w =
    record {
      tables = record { entries = nodes_of a; kinds = items ks; constants = record { list = items cs; globals = None } };
      images = take w.images images;
      settled = take w.settled settled;
    }

-- no walk begins in these: there are more operands than room to map them, or more kinds than room to record them, or images or
-- constants past the last number
abbrev pub Unfit : Old → Table ℕ → List ExpressionKind → Table ExpressionKind → Table NewConstant → List ℕ → Type 0
Unfit old scratch ks recorded cs images =
    (limit scratch < length old.operands.now) ⊎ (limit recorded < length ks) ⊎ (4294967295 < length images) ⊎ (4294967295 < limit cs)

-- A walk over these from constants none of which is mapped.
abbrev pub Begins : Module → List NewConstant → Type 0
Begins o cs = cs ≡ (start o).tables.constants.list

-- The walk ended as the rules have it; and where it went to its end over tables that are well formed, the trees are kept.
pub record WalkedAs (m : Meaning) (r : Room) (o : Module) (cs : List NewConstant) (s : State) (e : Result (Unit {0}) Refusal) : Type 0 where
  pub went : Went (walk_module m r o.overrides o.entries (begun cs)) s e
  pub keeps : Begins o cs → CheckedOld o → (u : Unit {0}) → e ≡ Ok u → KeepsTrees o s
