use Rattle.std.proofs.Common.{rules, sym, ap, arith, length}
use Rattle.std.proofs.lemmas.List.{length-append}
use Rattle.arena.specs.Items.{items}
use Rattle.walking.specs.Images.{images_of}
use Rattle.adjusting.specs.Works.{room_of, state_of}
use Rattle.adjusting.proofs.Adding.{added, length_images, length_nodes}
use Rattle.adjusting.proofs.Tilings.{longer}
use Rattle.adjusting.proofs.work.Work.push.Goals as goal

pub invariant_of-self-2 : goal.invariant_of-self-2
invariant_of-self-2 c =
    let w = c.args.self.now in
    let is = images_of w.inputs.images.now c.args.operands.now in
    let it = longer _ _ _ _ _ _ c.push_record.ensures.items c.push_images.ensures.items (search rules) (sym (length_images w.inputs.images.now c.args.operands.now)) w.total w.tiled in
    record {
      total = it.total;
      tiled = it.tiled;
      placed = omega (arith, c.operand_room.ensures, length_images w.inputs.images.now c.args.operands.now, ap length c.push_images.ensures.items, length-append (items w.operands.now) is);
      short = w.short;
      within = w.within;
      few = w.few;
    }

pub returns : goal.returns
returns c =
    let w = c.args.self.now in
    let it = longer _ _ _ _ _ _ c.push_record.ensures.items c.push_images.ensures.items (search rules) (sym (length_images w.inputs.images.now c.args.operands.now)) w.total w.tiled in
    record {
      went = added (room_of w) _ (state_of w) _ tt
          (omega (arith, c.room.ensures, length_nodes (items w.records.now) (items w.operands.now)))
          (omega (arith, c.operand_room.ensures, w.total, length_images w.inputs.images.now c.args.operands.now))
          it.nodes;
      next = search rules;
      room = search rules;
      lenders = search rules;
    }
