-- A record that there is room for.
use Rattle.std.proofs.Common.{◌≡◌, ℕ, ◌+◌, ◌<◌, ◌≤◌, cond, nat_le, List, [], ◌∷◌, ◌++◌, length, Ok, sym, ap, ◌∙◌, subst}
use Rattle.std.proofs.lemmas.Bool.{lt-ltb, le-leb}
use Rattle.std.proofs.lemmas.List.{length-map}
use Rattle.places.specs.declared.TableName.TheVariants.{Records, RecordOperands}
use Rattle.arena.specs.declared.entry.Entry.{Entry}
use Rattle.arena.specs.Nodes.{Node, node, nodes, operand_total}
use Rattle.walking.specs.Images.{image_of, images_of}
use Rattle.adjusting.specs.Rules.{Room, State, goes, full, with_record, add}
use Rattle.adjusting.specs.Works.{Went}

-- every operand has its image
pub length_images : (images hs : List ℕ) → length (images_of images hs) ≡ length hs
length_images images hs = length-map hs (image_of images)

pub length_nodes : (es : List Entry) (os : List ℕ) → length (nodes es os) ≡ length es
length_nodes es os = length-map es (node os)

pub add_goes : (r : Room) (n : Node) (s : State) → length s.records < r.records → operand_total s.records + length n.operands ≤ r.operands →
    add r n s ≡ goes (with_record n s)
add_goes r n s l k =
    ap (λ b. cond b (cond (nat_le (operand_total s.records + length n.operands) r.operands) (goes (with_record n s)) (full s RecordOperands)) (full s Records)) (lt-ltb (length s.records) r.records l)
    ∙ ap (λ b. cond b (goes (with_record n s)) (full s RecordOperands)) (le-leb (operand_total s.records + length n.operands) r.operands k)

-- and then it is there
pub added : (r : Room) (n : Node) (s : State) (ns : List Node) (u : Unit {0}) → length s.records < r.records → operand_total s.records + length n.operands ≤ r.operands →
    ns ≡ s.records ++ n ∷ [] → Went {A = Unit {0}} (add r n s) (record { records = ns; emitted = s.emitted; struck = s.struck }) (Ok u)
added r n s ns u l k e =
    subst (λ o. Went {A = Unit {0}} o (record { records = ns; emitted = s.emitted; struck = s.struck }) (Ok u)) (sym (add_goes r n s l k))
    (ap (λ ms. record { records = ms; emitted = s.emitted; struck = s.struck }) e)
