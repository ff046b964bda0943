-- Order and counts of the finished records.
use Rattle.std.proofs.Common.{◌≡◌, ℕ, suc, ◌+◌, Bool, true, false, cond, List, [], ◌∷◌, ◌++◌, map, length, Some, None, Option, sym, refl, ap, ◌∙◌, append_assoc, arith}
use Rattle.std.specs.List.{flat_map, cons_option}
use Rattle.std.proofs.lemmas.List.{map-append}
use Rattle.arena.specs.declared.range.Range.{Range}
use Rattle.arena.specs.Nodes.{Node}
use Rattle.blocks.specs.Weave.{is_emit, emits, Item, emitted, other, items_of, weave}
use Rattle.adjusting.specs.Emits.{sent_to, kept, strikes, struck, numbers, stretches, emit_of, emits_of}
use Rattle.adjusting.specs.Rules.{adjusted, finished, emits_now}
use Rattle.adjusting.specs.Laws.{emitted_image, sent, emitted_count, struck_count}
use Rattle.adjusting.proofs.Stretches.{stretched}
use Rattle.adjusting.proofs.Written.{emitted_total, struck_total}

pub flat_map_append : {X Y : Type 0} (f : X → List Y) (xs ys : List X) → flat_map f (xs ++ ys) ≡ flat_map f xs ++ flat_map f ys
flat_map_append f [] ys = refl
flat_map_append f (x ∷ xs) ys = ap (λ l. f x ++ l) (flat_map_append f xs ys) ∙ sym (append_assoc (f x) (flat_map f xs) (flat_map f ys))

emitted_append : (xs ys : List Item) → emitted_count (xs ++ ys) ≡ emitted_count xs + emitted_count ys
emitted_append [] ys = omega arith
emitted_append (emitted h ∷ xs) ys = omega (arith, emitted_append xs ys)
emitted_append (other n ∷ xs) ys = emitted_append xs ys

emitted_map : (hs : List ℕ) → emitted_count (map emitted hs) ≡ length hs
emitted_map [] = refl
emitted_map (h ∷ hs) = ap suc (emitted_map hs)

-- new Emits, one by one
weave_emits : (n : Node) (rs : List Range) → weave (map (emit_of n) rs) ≡ map emitted (flat_map numbers rs)
weave_emits n [] = refl
weave_emits n (r ∷ rs) = ap (λ (l : List Item). map emitted (numbers r) ++ l) (weave_emits n rs) ∙ sym (map-append emitted (numbers r) (flat_map numbers rs))

module _ (images : List ℕ) (fs : List Node) where
  sent_emits : (hs : List ℕ) → flat_map (sent images fs) (map emitted hs) ≡ map emitted (kept images fs hs)
  sent_emits [] = refl
  sent_emits (h ∷ hs) = go (sent_to images fs h) (sent_emits hs)
    where
      go : (o : Option ℕ) → flat_map (sent images fs) (map emitted hs) ≡ map emitted (kept images fs hs) →
          emitted_image o ++ flat_map (sent images fs) (map emitted hs) ≡ map emitted (cons_option o (kept images fs hs))
      go None r = r
      go (Some image) r = ap (λ (l : List Item). emitted image ∷ l) r

  order_one : (n : Node) → weave (finished images fs n) ≡ flat_map (sent images fs) (items_of n)
  order_one n = go (is_emit n) refl
    where
      go : (b : Bool) → is_emit n ≡ b → weave (cond b (emits_of images fs n) (adjusted images n ∷ [])) ≡ flat_map (sent images fs) (cond b (map emitted (emits n)) (other n ∷ []))
      go true e =
          weave_emits n (stretches (kept images fs (emits n))) ∙ ap (map emitted) (stretched (kept images fs (emits n))).joins
          ∙ sym (sent_emits (emits n))
      go false e = ap (λ (b : Bool). cond b (map emitted (emits (adjusted images n))) (other (adjusted images n) ∷ []) ++ []) e

  pub order : (rs : List Node) → weave (flat_map (finished images fs) rs) ≡ flat_map (sent images fs) (weave rs)
  order [] = refl
  order (n ∷ rs) =
      flat_map_append items_of (finished images fs n) (flat_map (finished images fs) rs)
      ∙ ap (λ (l : List Item). l ++ weave (flat_map (finished images fs) rs)) (order_one n)
      ∙ ap (λ (l : List Item). flat_map (sent images fs) (items_of n) ++ l) (order rs)
      ∙ sym (flat_map_append (sent images fs) (items_of n) (weave rs))

  kept_struck : (hs : List ℕ) → length (kept images fs hs) + struck images fs hs ≡ length hs
  kept_struck [] = omega arith
  kept_struck (h ∷ hs) = go (sent_to images fs h) (kept_struck hs)
    where
      go : (o : Option ℕ) → length (kept images fs hs) + struck images fs hs ≡ length hs →
          length (cons_option o (kept images fs hs)) + (strikes o + struck images fs hs) ≡ suc (length hs)
      go None r = omega arith
      go (Some image) r = omega arith

  struck_emits : (hs : List ℕ) → struck images fs hs ≡ struck_count images fs (map emitted hs)
  struck_emits [] = refl
  struck_emits (h ∷ hs) = ap (λ (k : ℕ). strikes (sent_to images fs h) + k) (struck_emits hs)

  struck_append : (xs ys : List Item) → struck_count images fs (xs ++ ys) ≡ struck_count images fs xs + struck_count images fs ys
  struck_append [] ys = omega arith
  struck_append (emitted h ∷ xs) ys = omega (arith, struck_append xs ys)
  struck_append (other n ∷ xs) ys = struck_append xs ys

  pub count_all : (rs : List Node) → emitted_total images fs rs + struck_total images fs rs ≡ emitted_count (weave rs)
  count_all [] = refl
  count_all (n ∷ rs) = go (is_emit n) (count_all rs)
    where
      go : (b : Bool) → emitted_total images fs rs + struck_total images fs rs ≡ emitted_count (weave rs) →
          (cond b (length (kept images fs (emits n))) 0 + emitted_total images fs rs) + (cond b (struck images fs (emits n)) 0 + struck_total images fs rs)
          ≡ emitted_count (cond b (map emitted (emits n)) (other n ∷ []) ++ weave rs)
      go true r = omega (arith, kept_struck (emits n), emitted_append (map emitted (emits n)) (weave rs), emitted_map (emits n))
      go false r = omega arith

  pub count_struck : (rs : List Node) → struck_total images fs rs ≡ struck_count images fs (weave rs)
  count_struck [] = refl
  count_struck (n ∷ rs) = go (is_emit n) (count_struck rs)
    where
      go : (b : Bool) → struck_total images fs rs ≡ struck_count images fs (weave rs) →
          cond b (struck images fs (emits n)) 0 + struck_total images fs rs ≡ struck_count images fs (cond b (map emitted (emits n)) (other n ∷ []) ++ weave rs)
      go true r = omega (arith, struck_emits (emits n), struck_append (map emitted (emits n)) (weave rs))
      go false r = omega arith

  emitted_one : (n : Node) → emitted_count (flat_map (sent images fs) (items_of n)) ≡ emits_now images fs n
  emitted_one n = go (is_emit n)
    where
      go : (b : Bool) → emitted_count (flat_map (sent images fs) (cond b (map emitted (emits n)) (other n ∷ []))) ≡ cond b (length (kept images fs (emits n))) 0
      go true = ap emitted_count (sent_emits (emits n)) ∙ emitted_map (kept images fs (emits n))
      go false = refl

  pub count_new : (rs : List Node) → emitted_total images fs rs ≡ emitted_count (weave (flat_map (finished images fs) rs))
  count_new [] = refl
  count_new (n ∷ rs) =
      let a = ap emitted_count (flat_map_append items_of (finished images fs n) (flat_map (finished images fs) rs)) in
      let b = emitted_append (weave (finished images fs n)) (weave (flat_map (finished images fs) rs)) in
      let d = ap emitted_count (order_one n) ∙ emitted_one n in
      omega (arith, a, b, d, count_new rs)
