-- What is said of a shader's tables, and how it is counted.
use Rattle.std.specs.Prelude.{◌≡◌, ℕ, ◌+◌, Bool, ◌&&◌, min, List, length, vec_items, Some, Result, nat_le, nat_lt, count_by, cond, is_err}
use Rattle.std.specs.List.{slice_get}
use Rattle.arena.specs.declared.entry.Run.{Run}
use Rattle.refusals.specs.declared.Refusal.{Refusal}
use Rattle.ir.specs.declared.tables.Body.{Body}
use Rattle.ir.specs.declared.tables.Source.{Source}
use Rattle.ir.specs.Tables.{global, local}
use Rattle.ir.specs.Checks.{CheckedSource, CheckedBody}
use Rattle.shader_text.specs.declared.shader.Shader.{Shader}
use Rattle.inspection.specs.declared.verdicts.Verdicts.{Verdicts}
use Rattle.inspection.specs.declared.verdicts.Tally.{Tally}

abbrev pub Verdict : Type 0
Verdict = Result (Unit {0}) Refusal

-- as many verdicts as bodies, and each is what the check says of the body at its place
pub record JudgedBodies (bodies : List Body) (m : Source) (verdicts : List Verdict) : Type 0 where
  pub as_many : length verdicts ≡ length bodies
  pub each : (k : ℕ) (b : Body) (v : Verdict) → slice_get bodies k ≡ Some b → slice_get verdicts k ≡ Some v → CheckedBody (local b m) v

pub record Judged (s : Shader) (v : Verdicts) : Type 0 where
  pub module_checked : CheckedSource (global s.source s.sizes) v.module
  pub bodies_checked : JudgedBodies (vec_items s.bodies) s.source (vec_items v.bodies)

-- how many verdicts there are, up to the largest count, and how many are refusals
abbrev pub more : ℕ → ℕ → ℕ
more n m = min (n + m) 18446744073709551615

abbrev pub refusal_count : Verdict → ℕ
refusal_count v = cond (is_err v) 1 0

abbrev pub tally_of : Verdicts → Tally
tally_of v =
    record {
      verdicts = more (length (vec_items v.bodies)) 1;
      refusals = more (count_by (λ r. is_err r) (vec_items v.bodies)) (refusal_count v.module);
    }

-- what is counted of a shader is what the checks say of it
abbrev pub Counted : Shader → Tally → Type 0
Counted s t = (v : Verdicts) × Judged s v × (t ≡ tally_of v)

-- the operand at an index of its list stands in a run
abbrev pub covers : ℕ → Run → Bool
covers k r = nat_le r.at k && nat_lt k (r.at + r.len)
