-- A list up to one of its items, and the nodes of a list of entries.
use Rattle.std.proofs.Common.{◌≡◌, ℕ, zero, suc, ◌+◌, ◌<◌, List, [], ◌∷◌, ◌++◌, take, drop, Some, None, Option, sym, ap, ◌∙◌, add-one, arith}
use Rattle.std.specs.List.{slice_get}
use Rattle.std.specs.Option.{option_map}
use Rattle.std.proofs.Math.Seq.{take-suc}
use Rattle.std.proofs.lemmas.List.{take-append-drop}
use Rattle.std.proofs.lemmas.Option.{none-some, slice_get_within, slice_get-map, get_or_from_slice_get}
use Rattle.arena.specs.declared.entry.Entry.{Entry}
use Rattle.arena.specs.Nodes.{node, nodes}

pub nothing : {A X : Type 0} {x : A} → ◌≡◌ {A = Option A} None (Some x) → X
nothing {x} e = absurd (none-some x e)

pub front : {A : Type 0} (rs : List A) (i j : ℕ) (e : A) → j < i → slice_get rs j ≡ Some e →
    (r : List A) × (take i rs ≡ (take j rs ++ (e ∷ [])) ++ r)
front [] i j e l n = nothing n
front (x ∷ rs) zero j e l n = absurd (omega arith)
front (x ∷ rs) (suc i) zero e l n = let q : x ≡ e = cc in (take i rs, ap (λ y. y ∷ take i rs) q)
front (x ∷ rs) (suc i) (suc j) e l n = let r = front rs i j e (omega arith) n in (r.0, ap (λ t. x ∷ t) r.1)

pub one_more : {A : Type 0} (rs : List A) (k : ℕ) (e : A) → slice_get rs k ≡ Some e → take (k + 1) rs ≡ take k rs ++ (e ∷ [])
one_more rs k e n = rw add-one (take-suc rs k e (slice_get_within rs k e n) ∙ ap (λ y. take k rs ++ (y ∷ [])) (get_or_from_slice_get rs k e e n))

pub split : {A : Type 0} (rs : List A) (k : ℕ) (e : A) → slice_get rs k ≡ Some e → (take k rs ++ (e ∷ [])) ++ drop (suc k) rs ≡ rs
split rs k e n = ap (λ t. t ++ drop (suc k) rs) (sym (one_more rs k e n)) ∙ rw (sym (add-one k)) (take-append-drop (k + 1) rs)

pub node_at : (os : List ℕ) (es : List Entry) (k : ℕ) (e : Entry) → slice_get es k ≡ Some e → slice_get (nodes es os) k ≡ Some (node os e)
node_at os es k e n = slice_get-map (node os) es k ∙ ap (option_map (node os)) n
