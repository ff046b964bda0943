-- An arena with one entry more, whose run lies at the end of the operand list.
use Rattle.std.proofs.Common.{◌≡◌, ℕ, zero, suc, ◌+◌, ◌<◌, ◌≤◌, cond, List, [], ◌∷◌, ◌++◌, length, refl, ap, ◌∙◌, ⊎_elim, arith}
use Rattle.std.proofs.lemmas.Bool.{cases_lt}
use Rattle.std.proofs.lemmas.List.{length-append, map_push}
use Rattle.std.proofs.lemmas.List.Sums.{sum_by-cons, sum_by_push}
use Rattle.std.proofs.lemmas.Bool.Decides.{nat_tests}
use Rattle.arena.specs.declared.entry.Entry.{Entry}
use Rattle.arena.specs.Nodes.{Node, node, node_with, nodes, operand_total, Within}
use Rattle.arena.specs.Tiles.{lies, owners, Tiled}
use Rattle.adjusting.proofs.Cuts.{nodes_kept, cut_new, within_push}

-- past the end there is no owner
owners_past : (es : List Entry) (n p : ℕ) → Within es n → n ≤ p → owners es p ≡ 0
owners_past [] n p w l = refl
owners_past (e ∷ es) n p w l =
    grind (arith, nat_tests, sum_by-cons (λ (d : Entry). cond (lies p d.run) 1 0) e es, w zero e refl, owners_past es n p (λ k d h. w (suc k) d h) l)

module _ (es : List Entry) (os more : List ℕ) (e : Entry) (a : e.run.at ≡ length os) (l : e.run.len ≡ length more) where
  tiled_push : Tiled es (length os) → Tiled (es ++ e ∷ []) (length os + length more)
  tiled_push t = (
    within_push es e (length os) (length os + length more) (omega arith) t.0 (omega arith),
    λ k h. let count : owners (es ++ e ∷ []) k ≡ owners es k + cond (lies k e.run) 1 0 = sum_by_push (λ (d : Entry). cond (lies k d.run) 1 0) es e in
        ⊎_elim
        (λ (b : k < length os). grind (arith, nat_tests, count, t.1 k b))
        (λ (b : length os ≤ k). grind (arith, nat_tests, count, owners_past es (length os) k t.0 b))
        (cases_lt k (length os)),
  )

  nodes_push : Within es (length os) → nodes (es ++ e ∷ []) (os ++ more) ≡ nodes es os ++ node_with e more ∷ []
  nodes_push w =
      map_push (node (os ++ more)) es e
      ∙ ap (λ ns. ns ++ node (os ++ more) e ∷ []) (nodes_kept es os more w)
      ∙ ap (λ c. nodes es os ++ node_with e c ∷ []) (cut_new e.run os more a l)

-- after is es with e at its end, and now is os with the operands of e at its end
pub record Longer (es after : List Entry) (os more now : List ℕ) (e : Entry) : Type 0 where
  pub total : length now ≡ operand_total (nodes after now)
  pub tiled : Tiled after (length now)
  pub nodes : nodes after now ≡ nodes es os ++ node_with e more ∷ []

pub longer : (es after : List Entry) (os more now : List ℕ) (e : Entry) → after ≡ es ++ e ∷ [] → now ≡ os ++ more →
    e.run.at ≡ length os → e.run.len ≡ length more → length os ≡ operand_total (nodes es os) → Tiled es (length os) →
    Longer es after os more now e
longer es after os more now e p q a l t d =
    let n = nodes_push es os more e a l d.0 in
    rw (p, q) (record {
      total = omega (arith, length-append os more, t, ap operand_total n, sum_by_push (λ (n : Node). length n.operands) (nodes es os) (node_with e more));
      tiled = rw (length-append os more) (tiled_push es os more e a l d);
      nodes = n;
    })
