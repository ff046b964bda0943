-- Five sizes, one after the other.
use Rattle.std.proofs.Common.{◌≡◌, ℕ, [], ◌∷◌, refl, sym, ap, ◌∙◌, Some, None, Option, Ok, Err}
use Rattle.refusals.specs.declared.Refusal.{Refusal}
use Rattle.ir.specs.declared.tables.Size.{Size}
use Rattle.walking.specs.States.{State}
use Rattle.pipeline_constants.specs.Sizings.{Sizing, sized, unsized, refused_at, before, size_then, size_at, sizing}
use Rattle.pipeline_constants.specs.Lookups.{SizeAs}

-- a size that has its number
pub goes_on : (r : Refusal) (at : ℕ) (z y : Size) (o : Option ℕ) (rest : Sizing) → SizeAs r z o (Ok y) → size_then at z o rest ≡ before y rest
goes_on r at z y (Some n) rest h = ap (λ (x : Size). before x rest) (sym h)
goes_on r at z y None rest h = absurd h

-- one that has none
pub ends : (r e : Refusal) (at : ℕ) (z : Size) (o : Option ℕ) (rest : Sizing) → SizeAs r z o (Err e) → (size_then at z o rest ≡ refused_at at) × (e ≡ r)
ends r e at z (Some n) rest h = absurd h
ends r e at z None rest h = (refl, h)

pub all_five : (s : State) (rx ry rz rv rp : Refusal) (x y z v p xx yy zz vv pp : Size) → SizeAs rx x (size_at s 1 x) (Ok xx) → SizeAs ry y (size_at s 1 y) (Ok yy) →
    SizeAs rz z (size_at s 1 z) (Ok zz) → SizeAs rv v (size_at s 0 v) (Ok vv) → SizeAs rp p (size_at s 0 p) (Ok pp) →
    sizing s 0 (x ∷ y ∷ z ∷ v ∷ p ∷ []) ≡ sized (xx ∷ yy ∷ zz ∷ vv ∷ pp ∷ [])
all_five s rx ry rz rv rp x y z v p xx yy zz vv pp hx hy hz hv hp =
    goes_on rx 0 x xx (size_at s 1 x) (sizing s 1 (y ∷ z ∷ v ∷ p ∷ [])) hx
    ∙ ap (before xx) (goes_on ry 1 y yy (size_at s 1 y) (sizing s 2 (z ∷ v ∷ p ∷ [])) hy
    ∙ ap (before yy) (goes_on rz 2 z zz (size_at s 1 z) (sizing s 3 (v ∷ p ∷ [])) hz
    ∙ ap (before zz) (goes_on rv 3 v vv (size_at s 0 v) (sizing s 4 (p ∷ [])) hv
    ∙ ap (before vv) (goes_on rp 4 p pp (size_at s 0 p) (sized []) hp))))

pub four_and_none : (s : State) (rx ry rz rv rp e : Refusal) (x y z v p xx yy zz vv : Size) → SizeAs rx x (size_at s 1 x) (Ok xx) → SizeAs ry y (size_at s 1 y) (Ok yy) →
    SizeAs rz z (size_at s 1 z) (Ok zz) → SizeAs rv v (size_at s 0 v) (Ok vv) → SizeAs rp p (size_at s 0 p) (Err e) →
    (sizing s 0 (x ∷ y ∷ z ∷ v ∷ p ∷ []) ≡ unsized 16 (1 ∷ [])) × (e ≡ rp)
four_and_none s rx ry rz rv rp e x y z v p xx yy zz vv hx hy hz hv hp =
    let last = ends rp e 4 p (size_at s 0 p) (sized []) hp in (
      goes_on rx 0 x xx (size_at s 1 x) (sizing s 1 (y ∷ z ∷ v ∷ p ∷ [])) hx
          ∙ ap (before xx) (goes_on ry 1 y yy (size_at s 1 y) (sizing s 2 (z ∷ v ∷ p ∷ [])) hy
          ∙ ap (before yy) (goes_on rz 2 z zz (size_at s 1 z) (sizing s 3 (v ∷ p ∷ [])) hz
          ∙ ap (before zz) (goes_on rv 3 v vv (size_at s 0 v) (sizing s 4 (p ∷ [])) hv
          ∙ ap (before vv) last.0))),
      last.1,
    )

pub three_and_none : (s : State) (rx ry rz rv e : Refusal) (x y z v p xx yy zz : Size) → SizeAs rx x (size_at s 1 x) (Ok xx) → SizeAs ry y (size_at s 1 y) (Ok yy) →
    SizeAs rz z (size_at s 1 z) (Ok zz) → SizeAs rv v (size_at s 0 v) (Err e) →
    (sizing s 0 (x ∷ y ∷ z ∷ v ∷ p ∷ []) ≡ unsized 16 (0 ∷ [])) × (e ≡ rv)
three_and_none s rx ry rz rv e x y z v p xx yy zz hx hy hz hv =
    let last = ends rv e 3 v (size_at s 0 v) (sizing s 4 (p ∷ [])) hv in (
      goes_on rx 0 x xx (size_at s 1 x) (sizing s 1 (y ∷ z ∷ v ∷ p ∷ [])) hx
          ∙ ap (before xx) (goes_on ry 1 y yy (size_at s 1 y) (sizing s 2 (z ∷ v ∷ p ∷ [])) hy
          ∙ ap (before yy) (goes_on rz 2 z zz (size_at s 1 z) (sizing s 3 (v ∷ p ∷ [])) hz
          ∙ ap (before zz) last.0)),
      last.1,
    )
