-- The tables of a module and of a body, and which of their places are at fault. Tables go by their numbers: 0 global entries, 1 their
-- operands, 2 constants, 3 overrides, 4 variable inits, 5 body entries, 6 their operands, 7 records, 8 their operands, 9 local inits,
-- 10 named handles, 11 sizes.
use Rattle.std.specs.Prelude.{◌≡◌, ℕ, Bool, true, false, ◌⊎◌, List, [], ◌∷◌, length, vec_items, MatchBool, Option, Some, None, ◌==◌, slice_index_or}
use Rattle.places.specs.First.{Holds, Over}
use Rattle.operands.specs.declared.Sort.{Sort}
use Rattle.operands.specs.declared.Sort.TheVariants.{Expressions, Records}
use Rattle.operands.specs.Operands.{Lacking, NotBelow, Beyond}
use Rattle.arena.specs.declared.entry.Entry.{Entry}
use Rattle.ir.specs.declared.tables.Constant.{Constant}
use Rattle.ir.specs.declared.tables.Override.{Override}
use Rattle.ir.specs.declared.tables.Size.{Size}
use Rattle.ir.specs.declared.tables.Sizes.{Sizes}
use Rattle.ir.specs.declared.tables.Source.{Source}
use Rattle.ir.specs.declared.tables.Body.{Body}
use Rattle.ir.specs.Faults.{misshapen, name_outside, misnamed, past, emits_past, nameless}

-- what a module's tables hold
pub record Global : Type 0 where
  pub entries : List Entry
  pub operands : List ℕ
  pub constants : List Constant
  pub overrides : List Override
  pub names : List ℕ
  pub variables : List (Option ℕ)
  pub sizes : List Size

abbrev pub no_size : Size
no_size = record { value = 0; handle = None }

-- the five sizes in the order of their places: workgroup x, y and z, mesh vertices, mesh primitives
abbrev pub sizes_of : Sizes → List Size
sizes_of s =
    slice_index_or s.workgroup 0 no_size ∷ slice_index_or s.workgroup 1 no_size ∷ slice_index_or s.workgroup 2 no_size ∷ s.vertices ∷ s.primitives ∷ []

abbrev pub global : Source → Sizes → Global
global m s =
    record {
      entries = vec_items m.entries;
      operands = vec_items m.operands;
      constants = vec_items m.constants;
      overrides = vec_items m.overrides;
      names = vec_items m.names;
      variables = vec_items m.variables;
      sizes = sizes_of s;
    }

-- what a body's tables hold, and the constants and the number of overrides of its module
pub record Local : Type 0 where
  pub entries : List Entry
  pub operands : List ℕ
  pub records : List Entry
  pub record_operands : List ℕ
  pub locals : List (Option ℕ)
  pub named : List ℕ
  pub constants : List Constant
  pub overrides : ℕ

abbrev pub local : Body → Source → Local
local b m =
    record {
      entries = vec_items b.entries;
      operands = vec_items b.operands;
      records = vec_items b.records;
      record_operands = vec_items b.record_operands;
      locals = vec_items b.locals;
      named = vec_items b.named;
      constants = vec_items m.constants;
      overrides = length (vec_items m.overrides);
    }

-- ---- refusal 3: unknown kind, wrong number of operands, needed operand absent, run outside its list, table over its limit

-- the entry at k is misshapen, or k is the limit that the table passes
abbrev pub Misshapen : Sort → List Entry → List ℕ → ℕ → Type 0
Misshapen sort es os k = Over 65536 (length es) k ⊎ Holds (λ _ e. misshapen sort (length os) e ≡ true) es k

-- the operand at k is absent and some entry needs it, or k is the limit that the list passes
abbrev pub Lacks : Sort → List Entry → List ℕ → ℕ → Type 0
Lacks sort es os k = Over 262144 (length os) k ⊎ Lacking sort es os k

-- the name of the override at k lies outside the name bytes, or k is the limit that the table passes
abbrev pub Unnamable : ℕ → List Override → ℕ → Type 0
Unnamable n overrides k = Over 4096 (length overrides) k ⊎ Holds (λ _ o. name_outside n o.name ≡ true) overrides k

abbrev pub global_shape : Global → ℕ → ℕ → Type 0
global_shape m t k =
    MatchBool (t == 0) (Misshapen Expressions m.entries m.operands k)
    (MatchBool (t == 1) (Lacks Expressions m.entries m.operands k)
    (MatchBool (t == 2) (Over 65536 (length m.constants) k)
    (MatchBool (t == 3) (Unnamable (length m.names) m.overrides k) ⊥)))

abbrev pub local_shape : Local → ℕ → ℕ → Type 0
local_shape b t k =
    MatchBool (t == 5) (Misshapen Expressions b.entries b.operands k)
    (MatchBool (t == 6) (Lacks Expressions b.entries b.operands k)
    (MatchBool (t == 7) (Misshapen Records b.records b.record_operands k)
    (MatchBool (t == 8) (Lacks Records b.records b.record_operands k) ⊥)))

-- ---- refusal 4: a handle or a number out of range, a malformed literal, an Emit past the entries

-- the expression at k names what is not there, is a malformed literal, or is global and names a constant whose init is not below it
abbrev pub Misnamed : Bool → List Constant → ℕ → List Entry → ℕ → Type 0
Misnamed is_global constants overrides es = Holds (λ i e. misnamed constants overrides is_global i e ≡ true) es

-- the handle of the item at k, where it has one, is not below the bound
abbrev pub Outside : {A : Type 0} → ℕ → (A → Option ℕ) → List A → ℕ → Type 0
Outside bound handle xs = Holds (λ _ x. past bound (handle x) ≡ true) xs

-- the record at k is an Emit that is not empty and ends past the entries
abbrev pub EmitsPast : ℕ → List Entry → ℕ → Type 0
EmitsPast n = Holds (λ _ e. emits_past n e ≡ true)

abbrev pub global_range : Global → ℕ → ℕ → Type 0
global_range m t k =
    MatchBool (t == 0) (Misnamed true m.constants (length m.overrides) m.entries k)
    (MatchBool (t == 1) (NotBelow m.entries m.operands k)
    (MatchBool (t == 2) (Outside (length m.entries) (λ c. Some c.init) m.constants k)
    (MatchBool (t == 3) (Outside (length m.entries) (λ o. o.init) m.overrides k)
    (MatchBool (t == 4) (Outside (length m.entries) (λ h. h) m.variables k)
    (MatchBool (t == 11) (Outside (length m.entries) (λ s. s.handle) m.sizes k) ⊥)))))

abbrev pub local_range : Local → ℕ → ℕ → Type 0
local_range b t k =
    MatchBool (t == 5) (Misnamed false b.constants b.overrides b.entries k)
    (MatchBool (t == 6) (NotBelow b.entries b.operands k)
    (MatchBool (t == 7) (EmitsPast (length b.entries) b.records k)
    (MatchBool (t == 8) (Beyond (length b.entries) b.records b.record_operands k)
    (MatchBool (t == 9) (Outside (length b.entries) (λ h. h) b.locals k)
    (MatchBool (t == 10) (Outside (length b.entries) (λ h. Some h) b.named k) ⊥)))))

-- ---- refusal 7

-- the override at k has neither id nor name
abbrev pub Nameless : List Override → ℕ → Type 0
Nameless = Holds (λ _ o. nameless o.id o.name ≡ true)
