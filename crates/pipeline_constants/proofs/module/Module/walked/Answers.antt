use Rattle.std.proofs.Common.{rules, ◌≡◌, vec_items, refl, sym, Ok, Err}
use Rattle.settings.specs.Reading.{given}
use Rattle.overrides.specs.Values.{ValuedFor}
use Rattle.pipeline_constants.proofs.Modules.{settled_walked, walked_stands, stopped_walked}
use Rattle.pipeline_constants.proofs.module.Module.walked.Goals as goal

pub invariant_of-result : goal.invariant_of-result
invariant_of-result g c =
    let os = c.as_slice.result.now in
    let valued : ValuedFor (given c.args.settings.now) (vec_items c.args.self.source.names) (vec_items c.args.self.source.overrides) os = search rules in
    let ok : c.settle-ended.result.sized ≡ Ok c.in-Ok.sizes = search rules in
    record {
      stands = ∣ walked_stands (g.F.Folder.verdict c.args.folder.now) c.args.self os c.settle-ended.result c.requires.some c.settle-ended.ensures.ended _ refl refl
          (given c.args.settings.now) c.requires.accepted valued ok (sym c.as_slice.ensures) ∣₁;
    }

pub returns-in-Ok : goal.returns-in-Ok
returns-in-Ok g c =
    let os = c.as_slice.result.now in
    let valued : ValuedFor (given c.args.settings.now) (vec_items c.args.self.source.names) (vec_items c.args.self.source.overrides) os = search rules in
    let w = c.settle-ended.ensures.ended in
    let ok : c.settle-ended.result.sized ≡ Ok c.in-Ok.sizes = search rules in (
      os,
      valued,
      settled_walked (g.F.Folder.verdict c.args.folder.now) c.args.self os c.settle-ended.result c.requires.some w _ refl refl
          (given c.args.settings.now) _ c.requires.accepted valued ok (sym c.as_slice.ensures),
    )

pub returns-in-Err : goal.returns-in-Err
returns-in-Err g c =
    let os = c.as_slice.result.now in
    let valued : ValuedFor (given c.args.settings.now) (vec_items c.args.self.source.names) (vec_items c.args.self.source.overrides) os = search rules in
    let w = c.settle-ended.ensures.ended in
    let err : c.settle-ended.result.sized ≡ Err c.in-Err.refusal = search rules in (
      os,
      valued,
      stopped_walked (g.F.Folder.verdict c.args.folder.now) c.args.self os c.settle-ended.result c.requires.some w _ refl refl
          c.in-Err.refusal c.written-written.result refl err c.written-written.ensures,
    )
