use Rattle.std.proofs.Common.{◌≡◌, true, false, Some, None, Option, sym, ap, ◌∙◌, arith}
use Rattle.std.specs.Option.{is_some}
use Rattle.std.proofs.lemmas.List.{take_all, length-map}
use Rattle.std.proofs.lemmas.Option.{slice_get-get_or}
use Rattle.std.proofs.lemmas.Bool.{false≢true}
use Rattle.std.proofs.lemmas.Bool.Decides.{not_from_Decides}
use Rattle.arena.specs.Nodes.{node, nodes}
use Rattle.blocks.specs.declared.Role.{Role}
use Rattle.blocks.specs.declared.Nest.{Nest}
use Rattle.blocks.specs.Stack.{run, step, stack, Taken}
use Rattle.blocks.proofs.Faults.{start, stopped, ended, accepted, goes_on}
use Rattle.blocks.proofs.Parts.{node_at}
use Rattle.blocks.proofs.check_blocks.Goals as goal

refused : (r : Role) (n m : Nest) (o : Option Unit) → Taken r n m o → is_some o ≡ false → step 64 r (stack n) ≡ None
refused r n m None t e = t
refused r n m (Some u) t e = absurd (false≢true (sym e))

taken : (r : Role) (n m : Nest) (o : Option Unit) → Taken r n m o → is_some o ≡ true → step 64 r (stack n) ≡ Some (stack m)
taken r n m None t e = absurd (false≢true e)
taken r n m (Some u) t e = t

pub returns-then-is_none : goal.returns-then-is_none
returns-then-is_none c = λ os.
    let long = length-map c.args.records.now (node os) in
    stopped (nodes c.args.records.now os) c.loop-i.i _ _ (stack c.loop-i.nest) (omega arith)
    (node_at os c.args.records.now c.loop-i.i _ (slice_get-get_or c.args.records.now c.loop-i.i _ c.loop-i-test.true))
    (c.loop-i.invariant os)
    (ap (λ r. step 64 r (stack c.loop-i.nest)) (sym c.role_of.ensures) ∙ refused c.role_of.result c.loop-i.nest c.take.new.self c.take.result c.take.ensures c.if-is_none.ensures)
    (omega arith)

pub loop-i-preserved : goal.loop-i-preserved
loop-i-preserved c = λ os.
    goes_on (nodes c.args.records.now os) c.loop-i.i _ (stack c.loop-i.nest) (stack c.take.new.self)
    (node_at os c.args.records.now c.loop-i.i _ (slice_get-get_or c.args.records.now c.loop-i.i _ c.loop-i-test.true))
    (c.loop-i.invariant os)
    (ap (λ r. step 64 r (stack c.loop-i.nest)) (sym c.role_of.ensures) ∙ taken c.role_of.result c.loop-i.nest c.take.new.self c.take.result c.take.ensures c.if-is_none.ensures)

pub returns-then-done : goal.returns-then-done
returns-then-done c = λ os.
    let long = length-map c.args.records.now (node os) in
    let all = ap (run 64 start) (take_all c.loop-i.i (nodes c.args.records.now os) (omega arith)) in
    accepted (nodes c.args.records.now os) (sym all ∙ c.loop-i.invariant os ∙ ap Some (c.done.ensures.0 c.if-done.true))

pub returns-else-done : goal.returns-else-done
returns-else-done c = λ os.
    let long = length-map c.args.records.now (node os) in
    let all = ap (run 64 start) (take_all c.loop-i.i (nodes c.args.records.now os) (omega arith)) in
    ended (nodes c.args.records.now os) _ (stack c.loop-i.nest) (sym long) (sym all ∙ c.loop-i.invariant os) (not_from_Decides _ c.done.ensures c.if-done.false)
