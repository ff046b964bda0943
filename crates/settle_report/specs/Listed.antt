-- What is listed of a settling, and what is counted of it.
use Rattle.std.specs.Prelude.{◌≡◌, ℕ, List, [], map, vec_items, None}
use Rattle.evaluator.specs.declared.tables.NewConstant.{NewConstant}
use Rattle.ir.specs.declared.tables.Constant.{Constant}
use Rattle.ir.specs.declared.tables.Size.{Size}
use Rattle.ir.specs.declared.tables.Sizes.{Sizes}
use Rattle.ir.specs.Tables.{sizes_of}
use Rattle.shader_text.specs.declared.shader.Shader.{Shader}
use Rattle.settle_report.specs.declared.tables.FinishedTables.{FinishedTables}

-- the constants with their inits
abbrev pub listed_constants : List NewConstant → List Constant
listed_constants cs = map (λ c. record { init = c.init }) cs

-- the size as its value, with no expression that gives it
abbrev pub valued : Size → Size
valued z = record { value = z.value; handle = None }

-- The shader's tables are the finished ones, with the module's name bytes, with sizes that no expression gives, and without bodies.
pub record Listed (t : FinishedTables) (names : List ℕ) (z : Sizes) (s : Shader) : Type 0 where
  pub entries : vec_items s.source.entries ≡ t.entries.now
  pub operands : vec_items s.source.operands ≡ t.operands.now
  pub constants : vec_items s.source.constants ≡ listed_constants t.constants.now
  pub overrides : vec_items s.source.overrides ≡ t.overrides.now
  pub name_bytes : vec_items s.source.names ≡ names
  pub variables : vec_items s.source.variables ≡ t.variables.now
  pub sizes : sizes_of s.sizes ≡ map valued (sizes_of z)
  pub bodies : vec_items s.bodies ≡ []
