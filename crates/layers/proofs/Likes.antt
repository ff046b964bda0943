-- The first entry like another, among entries and among their nodes.
use Rattle.std.proofs.Common.{◌≡◌, ℕ, ◌+◌, Bool, cond, not, List, [], ◌∷◌, length, map, Some, None, position, nat_lt, refl, ap, ◌∙◌}
use Rattle.std.specs.List.{position_or_len}
use Rattle.std.proofs.lemmas.List.{length-map}
use Rattle.arena.specs.Nodes.{Node, node, nodes}
use Rattle.arena.specs.declared.entry.Entry.{Entry}
use Rattle.layers.specs.Layers.{is_like, is_like_entry}

module _ {A B : Type 0} (f : A → B) (p : B → Bool) where
  place_map : (xs : List A) → position_or_len p (map f xs) ≡ position_or_len (λ x. p (f x)) xs
  place_map [] = refl
  place_map (x ∷ xs) = ap (λ n. cond (not (p (f x))) (1 + n) 0) (place_map xs)

  -- the first of what f makes of items is where its item is
  pub position_map : (xs : List A) → position p (map f xs) ≡ position (λ x. p (f x)) xs
  position_map xs =
      ap (λ n. cond (nat_lt n (length (map f xs))) (Some n) None) (place_map xs)
      ∙ ap (λ m. cond (nat_lt (position_or_len (λ x. p (f x)) xs) m) (Some (position_or_len (λ x. p (f x)) xs)) None) (length-map xs f)

pub position_like : (e : Node) (es : List Entry) (os : List ℕ) → position (is_like e) (nodes es os) ≡ position (is_like_entry e) es
position_like e es os = position_map (node os) (is_like e) es
