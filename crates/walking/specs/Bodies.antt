-- A whole walk over a body's entries, from empty tables.
use Rattle.std.specs.Prelude.{◌≡◌, ℕ, ◌<◌, ◌≤◌, List, [], ◌⊎◌, length, take, Ok, Result}
use Rattle.arena.specs.Nodes.{Node}
use Rattle.arena.specs.Appends.{nodes_of, entry_limit, operand_limit}
use Rattle.arena.specs.Items.{limit}
use Rattle.arena.specs.declared.arena.Arena.{Arena}
use Rattle.arena.specs.declared.table.Table.{Table}
use Rattle.arena.specs.Held.{held, slots}
use Rattle.arena.specs.declared.handle_vec.HandleVec.{HandleVec}
use Rattle.refusals.specs.declared.Refusal.{Refusal}
use Rattle.evaluator.specs.declared.expression_kind.ExpressionKind.{ExpressionKind}
use Rattle.evaluator.specs.declared.expression_kind.ExpressionKindTracker.{ExpressionKindTracker}
use Rattle.evaluator.specs.Verdicts.{Meaning}
use Rattle.evaluator.specs.Views.{nodes_in}
use Rattle.walking.specs.declared.body_work.SettledModule.{SettledModule}
use Rattle.walking.specs.declared.bodies.OldBody.{OldBody}
use Rattle.walking.specs.declared.bodies.WalkedBody.{WalkedBody}
use Rattle.walking.specs.States.{Room, State}
use Rattle.walking.specs.Works.{Went}
use Rattle.walking.specs.Laws.{Old, KeepsTrees}
use Rattle.walking.specs.BodyWalks.{body_walk}
use Rattle.walking.specs.BodyWorks.{constants_in}
use Rattle.walking.specs.BodyLaws.{CheckedBody, KeepsBody}

-- nothing written, over this settled module
abbrev pub body_begun : SettledModule → State
body_begun m = record { tables = record { entries = []; kinds = []; constants = constants_in m }; images = []; settled = m.settled.now }

-- what is written in these tables
abbrev pub body_written : SettledModule → Arena → ExpressionKindTracker → HandleVec ℕ → State
body_written m a ks images =
    record { tables = record { entries = nodes_of a; kinds = held ks.inner; constants = constants_in m }; images = held images; settled = m.settled.now }

abbrev pub body_room_for : Arena → ExpressionKindTracker → HandleVec ℕ → Room
body_room_for a ks images =
    record {
      tables = record { entries = entry_limit a; operands = operand_limit a; kinds = length (slots ks.inner) };
      constants = 0;
      images = length (slots images);
      settled = 0;
    }

-- the room of tables whose slices are lent
abbrev pub body_room_of_slices : Arena → List ExpressionKind → List ℕ → Room
body_room_of_slices a ks images =
    record {
      tables = record { entries = entry_limit a; operands = operand_limit a; kinds = length ks };
      constants = 0;
      images = length images;
      settled = 0;
    }

-- what tables hold of which so many images are written
abbrev pub body_finished : SettledModule → Arena → List ExpressionKind → List ℕ → WalkedBody → State
body_finished m a ks images w =
    record { tables = record { entries = nodes_of a; kinds = ks; constants = constants_in m }; images = take w.images images; settled = m.settled.now }

-- so many kinds, and so many images, are written
abbrev pub Counted : List ExpressionKind → List ℕ → WalkedBody → Type 0
Counted ks images w = (length ks ≡ w.kinds) × (w.images ≤ length images)

-- no walk begins in these: there are more operands than room to map them, or images past the last number
abbrev pub UnfitBody : OldBody → Table ℕ → List ℕ → Type 0
UnfitBody old scratch images = (limit scratch < length old.operands.now) ⊎ (4294967295 < length images)

-- m lends the finished tables of f
pub record Lends (m : SettledModule) (f : State) : Type 0 where
  pub constants : m.constants.now ≡ f.tables.constants.list
  pub globals : nodes_in m.globals ≡ f.tables.entries
  pub settled : m.settled.now ≡ f.settled

-- The walk ended as the rules have it; and where it went to its end over a body that is well formed, under a module whose settling kept
-- the trees, the body is kept.
pub record BodyWalkedAs (m : Meaning) (r : Room) (settled : SettledModule) (es : List Node) (s : State) (e : Result (Unit {0}) Refusal) : Type 0 where
  pub went : Went (body_walk m r es (body_begun settled)) s e
  pub keeps : (o : Old) (f : State) (reach : ℕ) → Lends settled f → KeepsTrees o f → CheckedBody o reach es → (u : Unit {0}) → e ≡ Ok u → KeepsBody o f es s
