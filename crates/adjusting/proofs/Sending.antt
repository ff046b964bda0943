-- Where an emitted handle goes.
use Rattle.std.proofs.Common.{◌≡◌, ℕ, ◌<◌, ◌≤◌, Bool, true, false, cond, [], length, get_or, Some, None, Option, List, sym, refl, ap, ◌∙◌, arith}
use Rattle.std.specs.List.{slice_get}
use Rattle.std.proofs.lemmas.Option.{none-some, same_Some, slice_get_within, slice_get-get_or}
use Rattle.arena.specs.Nodes.{Node}
use Rattle.arena.specs.Appends.{entries_of, operands_of, nodes_of}
use Rattle.arena.specs.declared.arena.Arena.{Arena}
use Rattle.blocks.specs.Sight.{is_pre_emit, pre_emit}
use Rattle.walking.specs.Images.{image_of}
use Rattle.adjusting.specs.Emits.{emitted_if, sent_to}
use Rattle.adjusting.proofs.Adding.{length_nodes}

-- an arena has no entry at the absent handle
pub arena_small : (a : Arena) → length (nodes_of a) ≤ 4294967295
arena_small a = omega (arith, length_nodes (entries_of a) (operands_of a), a.small.0, a.entries.within)

-- what a handle is sent to
pub record Sent (images : List ℕ) (fs : List Node) (h i : ℕ) : Type 0 where
  pub image : i ≡ image_of images h
  pub emits : pre_emit (slice_get fs i) ≡ false
  pub within : i < length fs

pub sent_some : (images : List ℕ) (fs : List Node) (h i : ℕ) → sent_to images fs h ≡ Some i → Sent images fs h i
unfolding sent_to
sent_some images fs h i e = go (slice_get fs (image_of images h)) refl e
  where
    last : (n : Node) → slice_get fs (image_of images h) ≡ Some n → (b : Bool) → is_pre_emit n.kind ≡ b → cond b None (Some (image_of images h)) ≡ Some i → Sent images fs h i
    last n s true p q = absurd (none-some i q)
    last n s false p q =
        let same : i ≡ image_of images h = sym (same_Some (image_of images h) i q) in
        let there : slice_get fs i ≡ Some n = ap (slice_get fs) same ∙ s in
        record { image = same; emits = ap pre_emit there ∙ p; within = slice_get_within fs i n there }

    go : (o : Option Node) → slice_get fs (image_of images h) ≡ o → emitted_if (image_of images h) o ≡ Some i → Sent images fs h i
    go None s q = absurd (none-some i q)
    go (Some n) s q = last n s (is_pre_emit n.kind) refl q

-- what is read past the end
abbrev pub blank : Node
blank = record { kind = 0; words = []; operands = []; span = record { start = 0; end = 0 } }

pub sent_none : (images : List ℕ) (fs : List Node) (h : ℕ) → sent_to images fs h ≡ None → image_of images h < length fs → pre_emit (slice_get fs (image_of images h)) ≡ true
unfolding sent_to
sent_none images fs h e l = go (slice_get fs (image_of images h)) refl e
  where
    last : (n : Node) → slice_get fs (image_of images h) ≡ Some n → (b : Bool) → is_pre_emit n.kind ≡ b → cond b None (Some (image_of images h)) ≡ None → pre_emit (slice_get fs (image_of images h)) ≡ true
    last n s true p q = ap pre_emit s ∙ p
    last n s false p q = absurd (none-some (image_of images h) (sym q))

    go : (o : Option Node) → slice_get fs (image_of images h) ≡ o → emitted_if (image_of images h) o ≡ None → pre_emit (slice_get fs (image_of images h)) ≡ true
    go None s q = absurd (none-some (get_or fs (image_of images h) blank) (sym s ∙ slice_get-get_or fs (image_of images h) blank l))
    go (Some n) s q = last n s (is_pre_emit n.kind) refl q

-- what is emitted is below the absent handle
pub emitted_small : (images : List ℕ) (a : Arena) (h i : ℕ) → sent_to images (nodes_of a) h ≡ Some i → i < 4294967295
emitted_small images a h i e = let x = sent_some images (nodes_of a) h i e in omega (arith, x.within, arena_small a)
