-- That settling has one answer.
use Rattle.std.specs.Prelude.{◌≡◌, ℕ, List, Ok, Err, Result}
use Rattle.refusals.specs.Codes.{code_of}
use Rattle.evaluator.specs.Verdicts.{Meaning}
use Rattle.pipeline_constants.specs.declared.module.Module.{Module}
use Rattle.pipeline_constants.specs.declared.settled.Settled.{Settled}
use Rattle.pipeline_constants.specs.declared.settled.Refused.{Refused}
use Rattle.pipeline_constants.specs.Laws.{Settles}
use Rattle.pipeline_constants.specs.Views.{content_of, room_of, tables_of}

-- two modules with the same tables and sizes, the same finished tables, and the same room for them
pub record SameModule (a b : Module) : Type 0 where
  pub tables : tables_of b ≡ tables_of a
  pub content : content_of b.finished ≡ content_of a.finished
  pub room : room_of b ≡ room_of a

-- two refusals of one number with the same values, and as much written
pub record SameRefusal (d e : Refused) : Type 0 where
  pub modules : SameModule d.module e.module
  pub refusal : code_of e.refusal ≡ code_of d.refusal
  pub written : e.written ≡ d.written

-- both settled, or both refused, and alike
abbrev pub SameAnswer : Result Settled Refused → Result Settled Refused → Type 0
SameAnswer (Ok s) (Ok t) = SameModule s.module t.module
SameAnswer (Ok s) (Err e) = ⊥
SameAnswer (Err e) (Ok s) = ⊥
SameAnswer (Err d) (Err e) = SameRefusal d e

-- A file and a module have one answer. Where the runs of finished entries lie is no part of it.
abbrev pub SettlesOnce : Type 0
SettlesOnce = (f : Meaning) (file : List ℕ) (a : Module) (r s : Result Settled Refused) → Settles f file a r → Settles f file a s → SameAnswer r s
