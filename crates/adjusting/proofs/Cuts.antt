-- What one entry more, over a longer operand list, leaves of the nodes.
use Rattle.std.proofs.Common.{◌≡◌, ℕ, zero, suc, ◌+◌, ◌≤◌, List, [], ◌∷◌, ◌++◌, length, take, drop, sym, refl, ap, ◌∙◌, arith}
use Rattle.std.proofs.lemmas.List.{drop-append-le, take-append-le, length-drop, drop_at, take_all}
use Rattle.std.proofs.lemmas.Grind.{common_steps}
use Rattle.std.proofs.lemmas.Option.{gets}
use Rattle.arena.specs.declared.entry.Run.{Run}
use Rattle.arena.specs.declared.entry.Entry.{Entry}
use Rattle.arena.specs.Nodes.{cut, node_with, node, nodes, Within}

-- more operands leave a cut as it was
cut_kept : (r : Run) (os more : List ℕ) → r.at + r.len ≤ length os → cut r (os ++ more) ≡ cut r os
cut_kept r os more h =
    let at : r.at ≤ length os = omega arith in
    let len : r.len ≤ length (drop r.at os) = simp length-drop (omega arith) in
    ap (take r.len) (drop-append-le r.at os more at) ∙ take-append-le r.len (drop r.at os) more len

pub nodes_kept : (es : List Entry) (os more : List ℕ) → Within es (length os) → nodes es (os ++ more) ≡ nodes es os
nodes_kept [] os more w = refl
nodes_kept (e ∷ es) os more w =
    ap (λ c. node_with e c ∷ nodes es (os ++ more)) (cut_kept e.run os more (w zero e refl))
    ∙ ap (λ ns. node os e ∷ ns) (nodes_kept es os more (λ k d h. w (suc k) d h))

-- the run of what was just appended
pub cut_new : (r : Run) (os more : List ℕ) → r.at ≡ length os → r.len ≡ length more → cut r (os ++ more) ≡ more
cut_new r os more a l =
    ap (take r.len) (drop_at os more r.at (sym a)) ∙ take_all r.len more (omega arith)

pub within_push : (es : List Entry) (e : Entry) (n m : ℕ) → n ≤ m → Within es n → e.run.at + e.run.len ≤ m → Within (es ++ e ∷ []) m
within_push es e n m l w f k d h = grind (arith, common_steps, gets)
