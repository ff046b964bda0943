-- A module without overrides keeps its trees where its tables are copied.
use Rattle.std.proofs.Common.{rules, ◌≡◌, ℕ, zero, suc, ◌+◌, ◌<◌, true, List, [], ◌∷◌, length, map, refl, sym, ap, ◌∙◌, Some}
use Rattle.std.specs.List.{slice_get}
use Rattle.std.proofs.lemmas.List.{length-map}
use Rattle.std.proofs.lemmas.Option.{none-some, same_Some}
use native.Mathlib.Omega.{arith}
use Rattle.arena.specs.Nodes.{node, nodes}
use Rattle.ir.specs.declared.tables.Constant.{Constant}
use Rattle.ir.specs.Tables.{Global}
use Rattle.evaluator.specs.declared.tables.NewConstant.{NewConstant}
use Rattle.evaluator.specs.Trees.{Tree, unread, tree_at, global_trees}
use Rattle.walking.specs.Laws.{CheckedOld, KeepsTrees, old_trees, new_trees}
use Rattle.walking.specs.Accepted.{old_of_global}
use Rattle.pipeline_constants.specs.Contents.{copies, numbers, new_constants}
use Rattle.pipeline_constants.proofs.Numbers.{numbers_count}

-- the number at a place
pub number_at : (k n h i : ℕ) → slice_get (numbers k n) h ≡ Some i → (i ≡ k + h) × (h < n)
number_at k zero h i e = absurd (none-some i e)
number_at k (suc n) zero i e =
    let here : k ≡ k + 0 = omega arith in (sym (same_Some k i e) ∙ here, omega arith)
number_at k (suc n) (suc h) i e =
    let next = number_at (k + 1) n h i e in (omega (arith, next.0), omega (arith, next.1))

-- the inits of the constants are those that they had
inits_of_copies : (cs : List Constant) → map (λ (k : NewConstant). k.init) (new_constants true cs) ≡ map (λ (c : Constant). c.init) cs
inits_of_copies [] = refl
inits_of_copies (c ∷ cs) = ap (λ (is : List ℕ). c.init ∷ is) (inits_of_copies cs)

copy_at : (cs : List Constant) (c i : ℕ) → slice_get (map (λ (c : Constant). c.init) cs) c ≡ Some i →
    slice_get (new_constants true cs) c ≡ Some (record { init = i; mapped = true })
copy_at [] c i e = absurd (none-some i e)
copy_at (d ∷ cs) zero i e = ap (λ (j : ℕ). Some (record { init = j; mapped = true })) (same_Some d.init i e)
copy_at (d ∷ cs) (suc c) i e = copy_at cs c i e

pub copies_keep : (m : Global) → CheckedOld (old_of_global m []) → KeepsTrees (old_of_global m []) (copies m).walk
copies_keep m checked =
    record {
      every_handle = numbers_count 0 (length m.entries) ∙ sym size;
      images = λ h i e. let at = number_at 0 (length m.entries) h i e in (inside h i at.0 at.1, same_tree h i at.0);
      constants = λ c i e. (
        record { init = i; mapped = true },
        copy_at m.constants c i e,
        refl,
        (checked.inits c i e, ap (λ (ts : List Tree). tree_at ts i) trees),
      );
      every_override = refl;
      overrides = λ p c e. absurd (none-some c e);
      no_override = λ k e at kind. below_none ((checked.entries k e at).override kind);
    }
  where
    size : length (nodes m.entries m.operands) ≡ length m.entries
    size = length-map m.entries (node m.operands)

    trees : new_trees (copies m).walk ≡ old_trees (old_of_global m [])
    trees = ap (λ (is : List ℕ). global_trees is unread (nodes m.entries m.operands)) (inits_of_copies m.constants)

    inside : (h i : ℕ) → i ≡ 0 + h → h < length m.entries → i < length (nodes m.entries m.operands)
    inside h i e l = omega (arith, e, l, size)

    same_tree : (h i : ℕ) → i ≡ 0 + h → tree_at (new_trees (copies m).walk) i ≡ tree_at (old_trees (old_of_global m [])) h
    same_tree h i e =
        let same : i ≡ h = omega (arith, e) in
        ap (λ (ts : List Tree). tree_at ts i) trees ∙ ap (tree_at (old_trees (old_of_global m []))) same

    below_none : {k : ℕ} → k < 0 → ⊥
    below_none l = search rules
