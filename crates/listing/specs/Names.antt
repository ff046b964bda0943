-- The name of each scalar.
use Rattle.std.specs.Prelude.{ℕ, cond, List, ◌++◌, Some, None, codes, decimal, Option, ◌==◌, unwrap_or}
use Rattle.rounding.specs.declared.scalars.Scalar.{Scalar}
use Rattle.rounding.specs.declared.scalars.ScalarKind.{ScalarKind}
use Rattle.rounding.specs.declared.scalars.ScalarKind.TheVariants.{Sint, Uint, Float, Bool}

-- what stands before a width
abbrev pub kind_word : ScalarKind → List ℕ
kind_word Sint = codes "sint"
kind_word Uint = codes "uint"
kind_word Float = codes "float"
kind_word Bool = codes "bool"

-- the name by which literals have the type
abbrev pub short_name : ScalarKind → ℕ → Option (List ℕ)
short_name Sint w = cond (w == 2) (Some (codes "i16")) (cond (w == 4) (Some (codes "i32")) None)
short_name Uint w = cond (w == 2) (Some (codes "u16")) (cond (w == 4) (Some (codes "u32")) None)
short_name Float w = cond (w == 2) (Some (codes "f16")) (cond (w == 4) (Some (codes "f32")) (cond (w == 8) (Some (codes "f64")) None))
short_name Bool w = cond (w == 1) (Some (codes "bool")) None

-- and where there is none, the kind's word and the width
abbrev pub kind_name : ScalarKind → ℕ → List ℕ
kind_name k w = unwrap_or (short_name k w) (kind_word k ++ decimal w)

abbrev pub scalar_name : Scalar → List ℕ
scalar_name s = kind_name s.kind s.width
