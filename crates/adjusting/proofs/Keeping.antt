-- What the rewriting of a body's records keeps, where it goes to its end.
use Rattle.std.proofs.Common.{◌≡◌, List, Ok, Err, Result, IfOk, sym, ap, ◌∙◌, subst, arith}
use Rattle.arena.specs.Nodes.{Node}
use Rattle.blocks.specs.Blocks.{OneBlock}
use Rattle.blocks.specs.Weave.{weave}
use Rattle.refusals.specs.declared.Refusal.{Refusal}
use Rattle.adjusting.specs.declared.emits.Counts.{Counts}
use Rattle.adjusting.specs.declared.work.Inputs.{Inputs}
use Rattle.adjusting.specs.Rules.{Room, none_yet}
use Rattle.adjusting.specs.Works.{entries_of, records_of}
use Rattle.adjusting.specs.Ends.{Came, adjusted_body}
use Rattle.adjusting.specs.Laws.{KeepsRecords, Sighted, WalkKeepsEntries, emitted_count}
use Rattle.adjusting.proofs.Order.{order, count_all, count_new, count_struck}
use Rattle.adjusting.proofs.Sending.{arena_small}
use Rattle.adjusting.proofs.Sights.{sight, strikes_pre_emit}
use Rattle.adjusting.proofs.Trees.{new_body}
use Rattle.adjusting.proofs.Written.{emitted_total, struck_total, records_written}

pub keeps_if : (i : Inputs) (r : Room) (ns : List Node) (x : Result Counts Refusal) → OneBlock (records_of i) 64 → Came (adjusted_body i r) ns x →
    IfOk x (λ c. KeepsRecords i.images.now (entries_of i) (records_of i) ns c)
keeps_if i r ns (Ok c) o e =
    let images = i.images.now in
    let fs = entries_of i in
    let old = records_of i in
    let w = records_written images fs r old none_yet (record { records = ns; emitted = c.emitted; struck = c.struck }) e in
    let em : c.emitted ≡ emitted_total images fs old = omega (arith, w.emitted) in
    let st : c.struck ≡ struck_total images fs old = omega (arith, w.struck) in
    record {
      is = w.records;
      order = ap weave w.records ∙ order images fs old;
      all = omega (arith, em, st, count_all images fs old);
      emitted = em ∙ count_new images fs old ∙ ap (λ (l : List Node). emitted_count (weave l)) (sym w.records);
      struck = st ∙ count_struck images fs old;
      block = subst (λ (l : List Node). OneBlock l 64) (sym w.records) (new_body images fs old 64 o);
      strikes = λ es k. strikes_pre_emit es fs images k (arena_small i.entries.now);
      sight = λ es k s. subst (λ (l : List Node). Sighted fs l) (sym w.records) (sight es fs images k (arena_small i.entries.now) old s);
    }
keeps_if i r ns (Err e) o q = tt

pub walk_keeps_entries : WalkKeepsEntries
walk_keeps_entries o f b es k = record { every_handle = k.every_handle; within = λ h i s. (k.images h i s).0; sends = k.sends }
