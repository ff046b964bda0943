use Rattle.std.proofs.Common.{◌≡◌, [], refl, subst}
use Rattle.arena.specs.Items.{items}
use Rattle.arena.specs.Nodes.{nodes}
use Rattle.ir.specs.Tables.{sizes_of}
use Rattle.walking.specs.States.{State}
use Rattle.pipeline_constants.specs.Lookups.{SizedAs}
use Rattle.pipeline_constants.specs.Sizings.{sizing}
use Rattle.pipeline_constants.specs.Views.{state_of, written_of}
use Rattle.pipeline_constants.proofs.finished.Finished.sizes.Goals as goal

pub returns : goal.returns
returns c =
    let f = c.args.self.now in
    let same : state_of (nodes c.as_slice.result.now c.as_slice-2.result.now) c.as_slice-3.result.now c.as_slice-4.result.now [] []
    ≡ state_of (nodes (items f.entries) (items f.operands)) (items f.constants) (written_of f.images) [] [] =
    rw (c.as_slice.ensures, c.as_slice-2.ensures, c.as_slice-3.ensures, c.as_slice-4.ensures) refl in
    subst (λ (s : State). SizedAs (sizing s 0 (sizes_of c.args.sizes.now)) c.sizes.result) same c.sizes.ensures
