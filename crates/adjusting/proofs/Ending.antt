-- All the records of a body, from empty tables.
use Rattle.std.proofs.Common.{◌≡◌, [], List, Ok, sym, ap, ◌∙◌, append-nil}
use Rattle.arena.specs.Nodes.{Node}
use Rattle.blocks.specs.Blocks.{OneBlock, flat}
use Rattle.adjusting.specs.declared.work.Work.{Work}
use Rattle.adjusting.specs.Rules.{State, goes, adjust_records, none_yet}
use Rattle.adjusting.specs.Works.{entries_of, room_of, state_of}
use Rattle.adjusting.specs.Places.{left_of, whole, Adjusted, BlockTo}

-- a block that was walked over leaves nothing where there was nothing more
pub walked_over : (a b : Work) (u : Unit {0}) → OneBlock (left_of a) 64 → Adjusted (BlockTo 64) a b (Ok u) → whole a ≡ goes (state_of b)
walked_over a b u o q =
    let none : left_of b ≡ [] = q.to o.tree [] o.shaped (sym o.is ∙ sym (append-nil (flat o.tree))) in
    sym q.onward ∙ ap (λ (ns : List Node). adjust_records (room_of b) b.inputs.images.now (entries_of b.inputs) ns (state_of b)) none

-- the same from nothing written
pub from_nothing : (a b : Work) (u : Unit {0}) → OneBlock (left_of a) 64 → state_of a ≡ none_yet → Adjusted (BlockTo 64) a b (Ok u) →
    adjust_records (room_of a) a.inputs.images.now (entries_of a.inputs) (left_of a) none_yet ≡ goes (state_of b)
from_nothing a b u o e q =
    ap (λ (s : State). adjust_records (room_of a) a.inputs.images.now (entries_of a.inputs) (left_of a) s) (sym e) ∙ walked_over a b u o q
