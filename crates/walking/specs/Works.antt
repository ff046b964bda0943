-- The tables as the program holds them in a walk.
use Rattle.std.specs.Prelude.{◌≡◌, ℕ, List, length, Ok, Err, Result, None}
use Rattle.arena.specs.Nodes.{Node, nodes}
use Rattle.arena.specs.Held.{held, slots}
use Rattle.arena.specs.Items.{items, limit}
use Rattle.arena.specs.Appends.{nodes_of, entry_limit, operand_limit}
use Rattle.refusals.specs.declared.Refusal.{Refusal}
use Rattle.refusals.specs.Codes.{code_of}
use Rattle.walking.specs.declared.work.Work.{Work}
use Rattle.evaluator.specs.Verdicts.{Meaning}
use Rattle.walking.specs.States.{Room, State, Outcome, goes, stops}
use Rattle.walking.specs.Walks.{Reply, answers, refuses, asked}

abbrev pub state_of : Work → State
state_of w =
    record {
      tables = record {
        entries = nodes_of w.expressions.now;
        kinds = held w.kinds.now.inner;
        constants = record { list = items w.constants.now; globals = None };
      };
      images = held w.images.now;
      settled = held w.settled.now;
    }

abbrev pub walk_room : Work → Room
walk_room w =
    record {
      tables = record {
        entries = entry_limit w.expressions.now;
        operands = operand_limit w.expressions.now;
        kinds = length (slots w.kinds.now.inner);
      };
      constants = limit w.constants.now;
      images = length (slots w.images.now);
      settled = length (slots w.settled.now);
    }

-- the nodes of the old entries
abbrev pub old_of : Work → List Node
old_of w = nodes w.entries.now w.operands.now

-- what is read stays, and the tables are those that were lent
pub record Lenders (a b : Work) : Type 0 where
  pub entries : b.entries ≡ a.entries
  pub operands : b.operands ≡ a.operands
  pub scratch : b.scratch.ghost_name ≡ a.scratch.ghost_name
  pub expressions : b.expressions.ghost_name ≡ a.expressions.ghost_name
  pub kinds : b.kinds.ghost_name ≡ a.kinds.ghost_name
  pub kinds_slots : b.kinds.now.inner.slots.ghost_name ≡ a.kinds.now.inner.slots.ghost_name
  pub constants : b.constants.ghost_name ≡ a.constants.ghost_name
  pub images : b.images.ghost_name ≡ a.images.ghost_name
  pub images_slots : b.images.now.slots.ghost_name ≡ a.images.now.slots.ghost_name
  pub settled : b.settled.ghost_name ≡ a.settled.ghost_name
  pub settled_slots : b.settled.now.slots.ghost_name ≡ a.settled.now.slots.ghost_name

-- a step that goes on is answered by Ok, and one that stops by its refusal; the tables are as the rules have them
abbrev pub Went : {A : Type 0} → Outcome → State → Result A Refusal → Type 0
Went (goes s) t (Ok _) = t ≡ s
Went (goes s) t (Err _) = ⊥
Went (stops s code values) t (Ok _) = ⊥
Went (stops s code values) t (Err e) = (t ≡ s) × (code_of e ≡ (code, values))

-- what a step made of a, in the same room
pub record Stepped {A : Type 0} (o : Room → State → Outcome) (a b : Work) (r : Result A Refusal) : Type 0 where
  pub went : Went (o (walk_room a) (state_of a)) (state_of b) r
  pub room : walk_room b ≡ walk_room a
  pub lenders : Lenders a b

-- the same of a step that always goes on
pub record Mapped (f : State → State) (a b : Work) : Type 0 where
  pub went : state_of b ≡ f (state_of a)
  pub room : walk_room b ≡ walk_room a
  pub lenders : Lenders a b

-- an answer is given, or a refusal
abbrev pub Gave : Reply → State → Result ℕ Refusal → Type 0
Gave (answers h s) t (Ok x) = (x ≡ h) × (t ≡ s)
Gave (answers h s) t (Err _) = ⊥
Gave (refuses s code values) t (Ok _) = ⊥
Gave (refuses s code values) t (Err e) = (t ≡ s) × (code_of e ≡ (code, values))

pub record Consulted (m : Meaning) (e : Node) (a b : Work) (r : Result ℕ Refusal) : Type 0 where
  pub gave : Gave (asked m (walk_room a) e (state_of a)) (state_of b) r
  pub room : walk_room b ≡ walk_room a
  pub lenders : Lenders a b
