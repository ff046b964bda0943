-- What the finished tables of a module hold.
use Rattle.std.specs.Prelude.{ℕ, zero, suc, ◌+◌, Bool, true, List, [], ◌∷◌, map, length, Some, None, Option, option_map, option_and_then}
use Rattle.std.specs.List.{slice_get}
use Rattle.arena.specs.Nodes.{nodes}
use Rattle.ir.specs.declared.tables.Constant.{Constant}
use Rattle.ir.specs.declared.tables.Override.{Override}
use Rattle.ir.specs.Tables.{Global}
use Rattle.evaluator.specs.declared.tables.NewConstant.{NewConstant}
use Rattle.walking.specs.States.{State}
use Rattle.walking.specs.Images.{image_of}
use Rattle.walking.specs.Modules.{begun}

-- What a walk writes, the overrides, and the variables' inits.
pub record Content : Type 0 where
  pub walk : State
  pub overrides : List Override
  pub variables : List (Option ℕ)

-- the constants of a walk
abbrev pub inits_in : State → List NewConstant
inits_in s = s.tables.constants.list

-- nothing is written
abbrev pub no_content : Content
no_content = record { walk = begun []; overrides = []; variables = [] }

-- the constants of a module as they come: all of them mapped, or none
abbrev pub new_constants : Bool → List Constant → List NewConstant
new_constants mapped cs = map (λ (c : Constant). record { init = c.init; mapped = mapped }) cs

-- ---- a module without overrides

-- so many numbers, from k on
abbrev pub numbers : ℕ → ℕ → List ℕ
numbers k zero = []
numbers k (suc n) = k ∷ numbers (k + 1) n

-- The tables as they are: each handle is its own image, each constant counts as mapped, and no kind is written.
abbrev pub copies : Global → Content
copies m =
    record {
      walk = record {
        tables = record { entries = nodes m.entries m.operands; kinds = []; constants = record { list = new_constants true m.constants; globals = None } };
        images = numbers 0 (length m.entries);
        settled = [];
      };
      overrides = [];
      variables = m.variables;
    }

-- ---- a module with overrides

-- an override with this init
abbrev pub with_init : Override → Option ℕ → Override
with_init o init = record { id = o.id; name = o.name; scalar = o.scalar; init = init }

-- the init of the constant of override p, once it is settled
abbrev pub init_taken : List NewConstant → List ℕ → ℕ → Option ℕ
init_taken cs settled p = option_and_then (λ c. option_map (λ (k : NewConstant). k.init) (slice_get cs c)) (slice_get settled p)

-- the first, or else the second
abbrev pub init_or : Option ℕ → Option ℕ → Option ℕ
init_or (Some h) init = Some h
init_or None init = init

-- An override that is settled takes its constant's init.
abbrev pub taken : List NewConstant → List ℕ → ℕ → Override → Override
taken cs settled p o = with_init o (init_or (init_taken cs settled p) o.init)

-- overrides from number p on
abbrev pub taken_from : List NewConstant → List ℕ → ℕ → List Override → List Override
taken_from cs settled p [] = []
taken_from cs settled p (o ∷ os) = taken cs settled p o ∷ taken_from cs settled (p + 1) os

-- all of them
abbrev pub all_taken : State → List Override → List Override
all_taken s os = taken_from (inits_in s) s.settled 0 os

-- the variables' inits sent to their images
abbrev pub variables_mapped : List ℕ → List (Option ℕ) → List (Option ℕ)
variables_mapped images vs = map (option_map (image_of images)) vs

-- what is written by a walk that stopped: the variables have their old inits
abbrev pub stopped : Global → State → Content
stopped m s = record { walk = s; overrides = all_taken s m.overrides; variables = m.variables }

-- and by one that went to its end
abbrev pub ended : Global → State → Content
ended m s =
    record { walk = s; overrides = all_taken s m.overrides; variables = variables_mapped s.images m.variables }
