-- The pieces, met one after the other: what is left of the bytes begins with the next piece.
use Rattle.std.proofs.Common.{◌≡◌, ℕ, ◌+◌, ◌<◌, List, length, get_or, take, drop, Some, sum, sym, ap, ◌∙◌, arith}
use Rattle.std.specs.List.{slice_get}
use Rattle.std.proofs.lemmas.List.{drop-drop}
use Rattle.std.proofs.lemmas.List.Sums.{sum_by_more}
use Rattle.settings.specs.Layout.{pieces}
use Rattle.settings.proofs.Format.{piece_at}

-- the bytes that are left before the piece at i
abbrev pub Left : List ℕ → List ℕ → ℕ → List ℕ → Type 0
Left ns bs i rest = rest ≡ drop (sum (take i ns)) bs

module _ (ns bs rest : List ℕ) (i : ℕ) (l : i < length ns) (e : Left ns bs i rest) where
  pub left_more : (after : List ℕ) → after ≡ drop (get_or ns i 0) rest → Left ns bs (i + 1) after
  left_more after f =
      f ∙ ap (drop (get_or ns i 0)) e ∙ drop-drop (get_or ns i 0) (sum (take i ns)) bs ∙ ap (λ m. drop m bs) (omega (arith, sum_by_more (λ x. x) ns i 0 l))

  pub piece_here : (piece : List ℕ) → piece ≡ take (get_or ns i 0) rest → slice_get (pieces ns bs) i ≡ Some piece
  piece_here piece f = piece_at ns bs i l ∙ ap Some (ap (take (get_or ns i 0)) (sym e) ∙ sym f)
