-- Of which sorts are the refusals that apply.
use Rattle.std.proofs.Common.{ℕ, List}
use Rattle.places.specs.declared.Place.{Place}
use Rattle.places.specs.First.{At}
use Rattle.refusals.specs.declared.Refusal.{Refusal}
use Rattle.refusals.specs.declared.Refusal.TheVariants.{MalformedSettings, RepeatedKey, Misshapen, OutOfRange, NotOneBlock, NotFound, Nameless, MissingValue, SrcNeedsToBeFinite, DstRangeTooSmall, UnsupportedScalar, InitNotMapped, ConstantEvaluatorError, RuntimeExpr, NegativeWorkgroupSize, NegativeMeshOutputMax, Full}
use Rattle.settings.specs.Layout.{Given, Encodes, Repeats}
use Rattle.settings.specs.Reading.{Unreadable}
use Rattle.ir.specs.Tables.{Global, global_shape, global_range, Nameless as NamelessAt}
use Rattle.ir.specs.Checks.{SourceFaults}
use Rattle.overrides.specs.Keys.{Untaken}
use Rattle.overrides.specs.Settling.{FileFaults}

-- those of a settings file
pub of_file : (file : List ℕ) (m : Global) (P : Refusal → Type 0) → (Unreadable file → P MalformedSettings) →
    ((k : ℕ) (g : Given) → Encodes file g → Repeats g.keys k → P (RepeatedKey k)) →
    ((k : ℕ) (g : Given) → Encodes file g → Untaken m.names m.overrides g.keys k → P (NotFound k)) → (r : Refusal) → FileFaults file m r → P r
of_file file m P a b c MalformedSettings h = a h
of_file file m P a b c (RepeatedKey k) h = b k h.0 h.1 h.2
of_file file m P a b c (NotFound k) h = c k h.0 h.1 h.2
of_file file m P a b c (Misshapen p) h = absurd h
of_file file m P a b c (OutOfRange p) h = absurd h
of_file file m P a b c (NotOneBlock x) h = absurd h
of_file file m P a b c (Nameless x) h = absurd h
of_file file m P a b c (MissingValue x) h = absurd h
of_file file m P a b c (SrcNeedsToBeFinite x) h = absurd h
of_file file m P a b c (DstRangeTooSmall x) h = absurd h
of_file file m P a b c (UnsupportedScalar x) h = absurd h
of_file file m P a b c (InitNotMapped x) h = absurd h
of_file file m P a b c (ConstantEvaluatorError x y z) h = absurd h
of_file file m P a b c (RuntimeExpr x) h = absurd h
of_file file m P a b c (NegativeWorkgroupSize x) h = absurd h
of_file file m P a b c (NegativeMeshOutputMax x) h = absurd h
of_file file m P a b c (Full x) h = absurd h

-- those of tables
pub of_source : (m : Global) (P : Refusal → Type 0) → ((p : Place) → At (global_shape m) p → P (Misshapen p)) →
    ((p : Place) → At (global_range m) p → P (OutOfRange p)) → ((k : ℕ) → NamelessAt m.overrides k → P (Nameless k)) → (r : Refusal) → SourceFaults m r → P r
of_source m P a b c (Misshapen p) h = a p h
of_source m P a b c (OutOfRange p) h = b p h
of_source m P a b c (Nameless k) h = c k h
of_source m P a b c MalformedSettings h = absurd h
of_source m P a b c (RepeatedKey x) h = absurd h
of_source m P a b c (NotOneBlock x) h = absurd h
of_source m P a b c (NotFound x) h = absurd h
of_source m P a b c (MissingValue x) h = absurd h
of_source m P a b c (SrcNeedsToBeFinite x) h = absurd h
of_source m P a b c (DstRangeTooSmall x) h = absurd h
of_source m P a b c (UnsupportedScalar x) h = absurd h
of_source m P a b c (InitNotMapped x) h = absurd h
of_source m P a b c (ConstantEvaluatorError x y z) h = absurd h
of_source m P a b c (RuntimeExpr x) h = absurd h
of_source m P a b c (NegativeWorkgroupSize x) h = absurd h
of_source m P a b c (NegativeMeshOutputMax x) h = absurd h
of_source m P a b c (Full x) h = absurd h
