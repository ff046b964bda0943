-- The refusals for full tables.
use Rattle.places.specs.declared.TableName.TheVariants.{GlobalEntries, GlobalOperands, BodyEntries, BodyOperands, Kinds as KindsTable}
use Rattle.refusals.specs.declared.Refusal.{Refusal}
use Rattle.std.specs.Prelude.{ℕ}
use Rattle.refusals.specs.declared.Refusal.TheVariants.{ConstantEvaluatorError, Full}
use Rattle.evaluator.specs.declared.folder.Fault.{Fault}
use Rattle.evaluator.specs.declared.folder.Fault.TheVariants.{Layer, Full as FullOf}
use Rattle.evaluator.specs.declared.tables.FullTable.{FullTable}
use Rattle.evaluator.specs.declared.tables.FullTable.TheVariants.{Entries, Operands, Kinds}

abbrev pub global_full : FullTable → Refusal
global_full Entries = Full GlobalEntries
global_full Operands = Full GlobalOperands
global_full Kinds = Full KindsTable

-- the refusal for a folder's fault, at an old handle
abbrev pub refusal_of : ℕ → Fault → Refusal
refusal_of h (Layer layer code) = ConstantEvaluatorError h layer code
refusal_of h (FullOf table) = global_full table

-- ---- of a body's tables

abbrev pub body_full : FullTable → Refusal
body_full Entries = Full BodyEntries
body_full Operands = Full BodyOperands
body_full Kinds = Full KindsTable

abbrev pub body_refusal_of : ℕ → Fault → Refusal
body_refusal_of h (Layer layer code) = ConstantEvaluatorError h layer code
body_refusal_of h (FullOf table) = body_full table
