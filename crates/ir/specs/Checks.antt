-- What the checks of a module's and of a body's tables answer.
use Rattle.std.specs.Prelude.{Result}
use Rattle.refusals.specs.declared.Refusal.{Refusal}
use Rattle.refusals.specs.Codes.{FirstOf, Faulty}
use Rattle.arena.specs.Nodes.{nodes}
use Rattle.blocks.specs.Blocks.{Fault}
use Rattle.ir.specs.Tables.{Global, Local, global_shape, global_range, local_shape, local_range, Nameless}

-- the refusals that apply to a module's tables: 3, 4 and 7
abbrev pub SourceFaults : Global → Refusal → Type 0
SourceFaults m = Faulty (global_shape m) (global_range m) (λ _. ⊥) (Nameless m.overrides)

-- the refusals that apply to a body: 3, 4 and 5
abbrev pub BodyFaults : Local → Refusal → Type 0
BodyFaults b = Faulty (local_shape b) (local_range b) (Fault (nodes b.records b.record_operands)) (λ _. ⊥)

abbrev pub CheckedSource : Global → Result (Unit {0}) Refusal → Type 0
CheckedSource m = FirstOf (SourceFaults m)

abbrev pub CheckedBody : Local → Result (Unit {0}) Refusal → Type 0
CheckedBody b = FirstOf (BodyFaults b)
