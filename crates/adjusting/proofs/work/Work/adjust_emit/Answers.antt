use Rattle.std.proofs.Common.{[], sym, ap, ◌∙◌, ◌≡◌, Err, rules}
use Rattle.arena.specs.Nodes.{node_with}
use Rattle.adjusting.specs.Emits.{sent_to}
use Rattle.adjusting.specs.Works.{entries_of}
use Rattle.adjusting.specs.declared.work.Inputs.{Inputs}
use Rattle.adjusting.proofs.Sending.{emitted_small}
use Rattle.adjusting.proofs.Turning.{keep, stop, strike}
use Rattle.adjusting.proofs.work.Work.adjust_emit.Goals as goal
use Rattle.adjusting.proofs.work.Work.adjust_emit.Goals.{in-Some+in_ok-extend-in-Some, in-None}

pub extend-requires : goal.extend-requires
extend-requires c = emitted_small c.loop-handle.self.inputs.images.now c.loop-handle.self.inputs.entries.now c.loop-handle.handle c.in-Some.image (sym c.sent_to.ensures ∙ c.in-Some.is)

pub returns-in_err-extend-in-Some-clause-wrote : goal.returns-in_err-extend-in-Some-clause-wrote
returns-in_err-extend-in-Some-clause-wrote c =
    let l = c.loop-handle in
    let w = c.args.self.now in
    let here = ap (λ (i : Inputs). sent_to i.images.now (entries_of i) l.handle) l.invariant.lenders.inputs in
    let e = c.in_err-extend-in-Some.field-0.0 in
    let is : c.from_residual.result ≡ Err e = search rules in
    rw is
    (stop w.inputs.images.now (entries_of w.inputs) (node_with c.args.old []) l.handle _ l.stretch l.counts w l.self c.loop-handle-test.true l.invariant
    c.in-Some.image (sym here ∙ sym c.sent_to.ensures ∙ c.in-Some.is) e c.extend.new.self c.in_err-extend-in-Some.ensures)

pub loop-handle-preserved : goal.loop-handle-preserved
loop-handle-preserved c =
    let l = c.loop-handle in
    let w = c.args.self.now in
    let n = node_with c.args.old [] in
    let here = ap (λ (i : Inputs). sent_to i.images.now (entries_of i) l.handle) l.invariant.lenders.inputs in
    let is = sym here ∙ sym c.sent_to.ensures in
    elim c.match-sent_to.branch [
      | in-Some+in_ok-extend-in-Some s ↦ rw (s.self-is, s.counts-is, s.stretch-is)
          (keep w.inputs.images.now (entries_of w.inputs) n l.handle _ l.stretch l.counts w l.self c.loop-handle-test.true l.invariant
          s.in-Some.image (is ∙ s.in-Some.is) s.in_ok-extend-in-Some.field-0 s.extend.new.self s.in_ok-extend-in-Some.ensures)
      | in-None s ↦ rw (s.self-is, s.counts-is, s.stretch-is)
          (strike w.inputs.images.now (entries_of w.inputs) n l.handle _ l.stretch l.counts w l.self c.loop-handle-test.true l.invariant (is ∙ s.in-None.is))
    ]
