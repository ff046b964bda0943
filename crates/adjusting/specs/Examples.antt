-- Small bodies, and what becomes of their records.
use Rattle.std.specs.Prelude.{◌≡◌, ℕ, List, [], ◌∷◌}
use Rattle.std.specs.List.{range_with_len}
use Rattle.arena.specs.Nodes.{Node}
use Rattle.operands.specs.Faults.{absent}
use Rattle.places.specs.declared.TableName.TheVariants.{Records, RecordOperands}
use Rattle.adjusting.specs.Rules.{Room, goes, full, finished, adjusted, adjust_records, none_yet}

-- an entry or a record of a kind, with its words and operands
abbrev pub made : ℕ → List ℕ → List ℕ → Node
made kind words operands = record { kind = kind; words = words; operands = operands; span = record { start = 21; end = 34 } }

-- a Literal, which is in effect without being emitted, and a Load, which is not
abbrev pub literal : Node
literal = made 18 [] []

abbrev pub load : Node
load = made 5 [] (0 ∷ [])

-- an Emit whose last two words are 8 and 9
abbrev pub emit : ℕ → ℕ → Node
emit first end = made 0 (first ∷ end ∷ 8 ∷ 9 ∷ []) []

abbrev pub opening : Node
opening = made 23 [] []

abbrev pub closing : Node
closing = made 24 [] []

abbrev pub room : ℕ → ℕ → Room
room records operands = record { records = records; operands = operands }

-- ---- seven entries, the one at 5 a Literal; each handle is its own image

abbrev pub seven : List Node
seven = load ∷ load ∷ load ∷ load ∷ load ∷ literal ∷ load ∷ []

abbrev pub same_images : List ℕ
same_images = range_with_len 0 7

abbrev pub emitting : List Node
emitting = opening ∷ emit 3 7 ∷ closing ∷ []

-- ---- five entries, the one at 1 a Literal; the images of 3, 4 and 5 are 3, 4 and 1

abbrev pub five : List Node
five = load ∷ literal ∷ load ∷ load ∷ load ∷ []

abbrev pub folded_images : List ℕ
folded_images = 0 ∷ 1 ∷ 2 ∷ 3 ∷ 4 ∷ 1 ∷ []

-- ---- each image is another handle's

abbrev pub moved_images : List ℕ
moved_images = 1 ∷ 2 ∷ 3 ∷ 4 ∷ 5 ∷ []

pub record Examples : Type 0 where
  -- Emit 3 to 7 becomes Emit 3 to 5 and Emit 6 to 7, with the span and the last words that it had
  pub split : finished same_images seven (emit 3 7) ≡ emit 3 5 ∷ emit 6 7 ∷ []
  -- Emit 3 to 6 becomes Emit 3 to 5
  pub folded : finished folded_images five (emit 3 6) ≡ emit 3 5 ∷ []
  -- an Emit of which nothing is left vanishes, and one that has no handles
  pub struck : finished same_images seven (emit 5 6) ≡ []
  pub empty : finished same_images seven (emit 4 4) ≡ []
  pub backwards : finished same_images seven (emit 6 3) ≡ []
  -- images that are no successive numbers are no stretch
  pub apart : finished (0 ∷ 4 ∷ 2 ∷ 3 ∷ []) seven (emit 1 4) ≡ emit 4 5 ∷ emit 2 4 ∷ []
  -- of a whole body, with what is counted
  pub whole : adjust_records (room 4 0) same_images seven emitting none_yet
      ≡ goes (record { records = opening ∷ emit 3 5 ∷ emit 6 7 ∷ closing ∷ []; emitted = 3; struck = 1 })
  -- with room for two records
  pub no_room : adjust_records (room 2 0) same_images seven emitting none_yet
      ≡ full (record { records = opening ∷ emit 3 5 ∷ []; emitted = 0; struck = 0 }) Records
  -- a Store's operands, with room for one operand
  pub no_operands : adjust_records (room 4 1) moved_images seven (opening ∷ made 6 [] (0 ∷ 1 ∷ []) ∷ closing ∷ []) none_yet
      ≡ full (record { records = opening ∷ []; emitted = 0; struck = 0 }) RecordOperands
  -- a Loop's break_if is sent to its image, and no further
  pub break_if : adjusted moved_images (made 4 [] (1 ∷ [])) ≡ made 4 [] (2 ∷ [])
  -- so is an Atomic's compare
  pub exchange : adjusted moved_images (made 8 [] (0 ∷ 1 ∷ absent ∷ 1 ∷ [])) ≡ made 8 [] (1 ∷ 2 ∷ absent ∷ 2 ∷ [])
  -- and an ImageAtomic's; an array index that is absent stays so
  pub compare : adjusted moved_images (made 9 [] (0 ∷ 1 ∷ absent ∷ 2 ∷ 3 ∷ [])) ≡ made 9 [] (1 ∷ 2 ∷ absent ∷ 3 ∷ 4 ∷ [])
