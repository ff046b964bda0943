-- Where sizes are looked up, and what is answered of them.
use Rattle.std.specs.Prelude.{◌≡◌, ℕ, [], Ok, Err, Some, None, Option, Result}
use Rattle.refusals.specs.declared.Refusal.{Refusal}
use Rattle.refusals.specs.Codes.{code_of}
use Rattle.ir.specs.declared.tables.Size.{Size}
use Rattle.ir.specs.declared.tables.Sizes.{Sizes}
use Rattle.ir.specs.Tables.{sizes_of}
use Rattle.evaluator.specs.Views.{nodes_in}
use Rattle.walking.specs.States.{State}
use Rattle.pipeline_constants.specs.declared.sizes.Lookup.{Lookup}
use Rattle.pipeline_constants.specs.Sizings.{Sizing, sized, unsized}
use Rattle.pipeline_constants.specs.Views.{state_of}

-- what a lookup reads of a walk
abbrev pub looked_in : Lookup → State
looked_in l = state_of (nodes_in l.nodes) l.constants.now l.images.now [] []

-- one size with its number, or its refusal
abbrev pub SizeAs : Refusal → Size → Option ℕ → Result Size Refusal → Type 0
SizeAs refusal z (Some n) (Ok y) = y ≡ record { value = n; handle = z.handle }
SizeAs refusal z (Some n) (Err e) = ⊥
SizeAs refusal z None (Ok y) = ⊥
SizeAs refusal z None (Err e) = e ≡ refusal

-- the sizes, or the refusal of one
abbrev pub SizedAs : Sizing → Result Sizes Refusal → Type 0
SizedAs (sized zs) (Ok z) = sizes_of z ≡ zs
SizedAs (sized zs) (Err e) = ⊥
SizedAs (unsized code values) (Ok z) = ⊥
SizedAs (unsized code values) (Err e) = code_of e ≡ (code, values)
