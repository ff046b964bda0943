use Rattle.arena.specs.Nodes.{node_with}
use Rattle.std.proofs.Common.{[]}
use Rattle.adjusting.specs.Works.{entries_of}
use Rattle.adjusting.proofs.Turning.{Coming}
use Rattle.adjusting.proofs.work.Work.adjust_emit.Given as goal

abbrev pub invariant-loop-handle : goal.invariant-loop-handle
invariant-loop-handle l =
    Coming l.fn.self.inputs.images.now (entries_of l.fn.self.inputs) (node_with l.old []) l.handle l.handle-end l.stretch l.counts l.fn.self l.self
