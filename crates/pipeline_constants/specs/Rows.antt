-- What the refusals of a settling that has begun mean, of the module, the values given to its overrides and what was written by then.
use Rattle.std.specs.Prelude.{◌≡◌, ℕ, ◌+◌, ◌<◌, List, Some}
use Rattle.std.specs.List.{slice_get}
use Rattle.places.specs.First.{number_of}
use Rattle.arena.specs.Nodes.{nodes}
use Rattle.refusals.specs.declared.Refusal.{Refusal}
use Rattle.refusals.specs.declared.Refusal.TheVariants.{MissingValue, SrcNeedsToBeFinite, DstRangeTooSmall, UnsupportedScalar, InitNotMapped, ConstantEvaluatorError, RuntimeExpr, NegativeWorkgroupSize, NegativeMeshOutputMax, Full}
use Rattle.refusals.specs.Codes.{axis_number, output_number}
use Rattle.ir.specs.declared.tables.Size.{Size}
use Rattle.ir.specs.Tables.{Global}
use Rattle.evaluator.specs.Verdicts.{Meaning}
use Rattle.layers.specs.declared.values.Value.{Value}
use Rattle.layers.specs.Values.{behind}
use Rattle.walking.specs.declared.overrides.Valued.{Valued}
use Rattle.walking.specs.States.{State}
use Rattle.walking.specs.Images.{image_of}
use Rattle.walking.specs.Stops.{ValueMissing, NotConverted, InitNotYetMapped, NotFolded, NotConst, NoRoom}
use Rattle.pipeline_constants.specs.Carried.{Counting}
use Rattle.pipeline_constants.specs.Settlings.{Limits}

-- The literal behind the image of h, seen through constants, is v, which may be the size at this place.
pub record Gives (s : State) (at h : ℕ) (v : Value) : Type 0 where
  pub there : behind s.tables (image_of s.images h) ≡ Some v
  pub counts : Counting v.ty v.bits
  pub above : at < 3 → 0 < v.bits

-- The size at this place has a handle that gives no number, and each size before it that has a handle gives one.
pub record SizeMissing (s : State) (zs : List Size) (at : ℕ) : Type 0 where
  pub size : Size
  pub there : slice_get zs at ≡ Some size
  pub handle : ℕ
  pub has : size.handle ≡ Some handle
  pub none : (v : Value) → Gives s at handle v → ⊥
  pub before : (k h : ℕ) (z : Size) → k < at → slice_get zs k ≡ Some z → z.handle ≡ Some h → (v : Value) × Gives s k h v

-- what a refusal means; there is no other once a settling has begun
abbrev pub RowOf : Meaning → Limits → Global → List Valued → State → Refusal → Type 0
RowOf f r m os s (MissingValue p) = ValueMissing os s p
RowOf f r m os s (SrcNeedsToBeFinite p) = NotConverted os s 9 p
RowOf f r m os s (DstRangeTooSmall p) = NotConverted os s 10 p
RowOf f r m os s (UnsupportedScalar p) = NotConverted os s 11 p
RowOf f r m os s (InitNotMapped p) = InitNotYetMapped os s p
RowOf f r m os s (ConstantEvaluatorError h layer code) = NotFolded f (nodes m.entries m.operands) s h layer code
RowOf f r m os s (RuntimeExpr h) = NotConst (nodes m.entries m.operands) s h
RowOf f r m os s (NegativeWorkgroupSize axis) = SizeMissing s m.sizes (axis_number axis)
RowOf f r m os s (NegativeMeshOutputMax which) = SizeMissing s m.sizes (3 + output_number which)
RowOf f r m os s (Full table) = NoRoom f r.walk os (nodes m.entries m.operands) s (number_of table)
RowOf f r m os s _ = ⊥
