-- What is told of each override of a module.
use Rattle.std.specs.Prelude.{◌≡◌, ℕ, ◌+◌, List, length, slice_range, cond, nat_le, Some, None, Option, Result}
use Rattle.std.specs.List.{AllZip}
use Rattle.std.specs.Option.{option_map}
use Rattle.arena.specs.declared.entry.Run.{Run}
use Rattle.ir.specs.declared.tables.Override.{Override}
use Rattle.settings.specs.declared.naming.Identifier.{Identifier}
use Rattle.settings.specs.Layout.{Given}
use Rattle.report.specs.declared.outcomes.Outcome.{Outcome}
use Rattle.report.specs.declared.outcomes.Unresolved.{Unresolved}
use Rattle.report.specs.Outcomes.{Resolved}

-- the stretch of the name bytes that is an override's name, if it lies in them
abbrev pub name_in : List ℕ → Option Run → Option (List ℕ)
name_in names None = None
name_in names (Some r) = cond (nat_le (r.at + r.len) (length names)) (Some (slice_range names r.at (r.at + r.len))) None

-- an override takes keys by its own id and by its own name
pub record Known (names : List ℕ) (o : Override) (who : Identifier) : Type 0 where
  pub by_id : who.id ≡ o.id
  pub by_name : option_map (λ n. n.now) who.name ≡ name_in names o.name

-- what becomes of an override by the rule
pub record Became (g : Given) (names : List ℕ) (o : Override) (r : Result Outcome Unresolved) : Type 0 where
  pub who : Identifier
  pub known : Known names o who
  pub resolved : Resolved g who o.scalar o.init r

-- what becomes of each, place by place
abbrev pub AllBecame : Given → List ℕ → List Override → List (Result Outcome Unresolved) → Type 0
AllBecame g names os rs = AllZip (Became g names) os rs
