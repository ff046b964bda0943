-- What a settling changed, counted.
use Rattle.std.specs.Prelude.{◌≡◌, ℕ, Bool, ◌&&◌, not, true, false, ◌==◌, List, length, count_by, Ok, Err, Some, None, Option, Result}
use Rattle.std.specs.List.{slice_get, zip}
use Rattle.arena.specs.declared.entry.Entry.{Entry}
use Rattle.ir.specs.Faults.{overriding}
use Rattle.report.specs.declared.outcomes.Outcome.{Outcome}
use Rattle.report.specs.declared.outcomes.Outcome.TheVariants.{Made, Kept}
use Rattle.report.specs.declared.outcomes.Unresolved.{Unresolved}
use Rattle.settle_report.specs.declared.tables.FinishedTables.{FinishedTables}
use Rattle.settle_report.specs.declared.changes.Changes.{Changes}

-- an expression that was of this kind, and no Override, is of another one now
abbrev pub other_kind : ℕ → Option Entry → Bool
other_kind k None = false
other_kind k (Some now) = not (k == overriding) && not (now.kind == k)

-- how many expressions that were no Overrides have an image of another kind
abbrev pub changed : List Entry → List Entry → List ℕ → ℕ
changed before after images = count_by (λ p. other_kind p.0.kind (slice_get after p.1)) (zip before images)

-- a value was given, and became a literal
abbrev pub is_made : Result Outcome Unresolved → Bool
is_made (Ok (Made k x l)) = true
is_made (Ok (Kept i)) = false
is_made (Err e) = false

-- The counts are those of these old expressions, of what became of the overrides, and of these finished tables. What `shared` counts is not said.
pub record Counted (before : List Entry) (rs : List (Result Outcome Unresolved)) (t : FinishedTables) (c : Changes) : Type 0 where
  pub entries_before : c.before ≡ length before
  pub entries_after : c.after ≡ length t.entries.now
  pub made : c.literals ≡ count_by is_made rs
  pub other_kinds : c.changed ≡ changed before t.entries.now t.images.now
