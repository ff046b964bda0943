-- The tables as the program holds them in a walk over a body.
use Rattle.std.specs.Prelude.{◌≡◌, ℕ, List, length, Result, Some}
use Rattle.arena.specs.Nodes.{Node, nodes}
use Rattle.arena.specs.Held.{held, slots}
use Rattle.arena.specs.Appends.{nodes_of, entry_limit, operand_limit}
use Rattle.refusals.specs.declared.Refusal.{Refusal}
use Rattle.evaluator.specs.Tables.{Constants}
use Rattle.evaluator.specs.Views.{nodes_in}
use Rattle.walking.specs.declared.body_work.SettledModule.{SettledModule}
use Rattle.walking.specs.declared.body_work.BodyWork.{BodyWork}
use Rattle.walking.specs.States.{Room, State, Outcome}
use Rattle.walking.specs.Walks.{Reply}
use Rattle.walking.specs.Works.{Went, Gave}

-- the constants of a settled module, whose inits are its finished entries
abbrev pub constants_in : SettledModule → Constants
constants_in m = record { list = m.constants.now; globals = Some (nodes_in m.globals) }

-- The tables of the settled module are read; the body's are written.
abbrev pub body_state_of : BodyWork → State
body_state_of w =
    record {
      tables = record { entries = nodes_of w.expressions.now; kinds = held w.kinds.now.inner; constants = constants_in w.over };
      images = held w.images.now;
      settled = w.over.settled.now;
    }

-- No constant is added, and no override settled.
abbrev pub body_room : BodyWork → Room
body_room w =
    record {
      tables = record {
        entries = entry_limit w.expressions.now;
        operands = operand_limit w.expressions.now;
        kinds = length (slots w.kinds.now.inner);
      };
      constants = 0;
      images = length (slots w.images.now);
      settled = 0;
    }

-- the nodes of the old entries
abbrev pub body_of : BodyWork → List Node
body_of w = nodes w.entries.now w.operands.now

-- what is read stays, and the tables are those that were lent
pub record BodyLenders (a b : BodyWork) : Type 0 where
  pub entries : b.entries ≡ a.entries
  pub operands : b.operands ≡ a.operands
  pub over : b.over ≡ a.over
  pub scratch : b.scratch.ghost_name ≡ a.scratch.ghost_name
  pub expressions : b.expressions.ghost_name ≡ a.expressions.ghost_name
  pub kinds : b.kinds.ghost_name ≡ a.kinds.ghost_name
  pub kinds_slots : b.kinds.now.inner.slots.ghost_name ≡ a.kinds.now.inner.slots.ghost_name
  pub images : b.images.ghost_name ≡ a.images.ghost_name
  pub images_slots : b.images.now.slots.ghost_name ≡ a.images.now.slots.ghost_name

-- what a step made of a, in the same room
pub record BodyStepped {A : Type 0} (o : Room → State → Outcome) (a b : BodyWork) (r : Result A Refusal) : Type 0 where
  pub went : Went (o (body_room a) (body_state_of a)) (body_state_of b) r
  pub room : body_room b ≡ body_room a
  pub lenders : BodyLenders a b

-- the same where nothing is written
pub record BodyKept (a b : BodyWork) : Type 0 where
  pub state : body_state_of b ≡ body_state_of a
  pub room : body_room b ≡ body_room a
  pub lenders : BodyLenders a b

-- what stands for an entry, and what was made of a
pub record BodyGave (o : Room → State → Reply) (a b : BodyWork) (r : Result ℕ Refusal) : Type 0 where
  pub gave : Gave (o (body_room a) (body_state_of a)) (body_state_of b) r
  pub room : body_room b ≡ body_room a
  pub lenders : BodyLenders a b
