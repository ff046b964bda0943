use Rattle.std.proofs.Common.{rules, Ok, Err, slice_index_or, refl}
use Rattle.ir.specs.Tables.{no_size}
use Rattle.refusals.specs.declared.Axis.TheVariants.{X, Y, Z}
use Rattle.refusals.specs.declared.MeshOutput.TheVariants.{Vertices, Primitives}
use Rattle.refusals.specs.declared.Refusal.TheVariants.{NegativeWorkgroupSize, NegativeMeshOutputMax}
use Rattle.pipeline_constants.specs.Sizings.{size_at}
use Rattle.pipeline_constants.specs.Lookups.{SizeAs, looked_in}
use Rattle.pipeline_constants.proofs.Five.{all_five, four_and_none, three_and_none}
use Rattle.pipeline_constants.proofs.sizes.Lookup.sizes.Goals as goal

pub returns-in_err-vertices : goal.returns-in_err-vertices
returns-in_err-vertices c =
    let s = looked_in c.args.self in
    let w = c.args.sizes.now.workgroup in
    let x = slice_index_or w 0 no_size in
    let y = slice_index_or w 1 no_size in
    let z = slice_index_or w 2 no_size in
    let v = c.args.sizes.now.vertices in
    let hx : SizeAs (NegativeWorkgroupSize X) x (size_at s 1 x) (Ok c.in_ok-axis.field-0) = search rules in
    let hy : SizeAs (NegativeWorkgroupSize Y) y (size_at s 1 y) (Ok c.in_ok-axis-2.field-0) = search rules in
    let hz : SizeAs (NegativeWorkgroupSize Z) z (size_at s 1 z) (Ok c.in_ok-axis-3.field-0) = search rules in
    let hv : SizeAs (NegativeMeshOutputMax Vertices) v (size_at s 0 v) (Err c.in_err-vertices.field-0.0) = search rules in
    let all =
    three_and_none s (NegativeWorkgroupSize X) (NegativeWorkgroupSize Y) (NegativeWorkgroupSize Z) (NegativeMeshOutputMax Vertices) c.in_err-vertices.field-0.0
    x y z v c.args.sizes.now.primitives c.in_ok-axis.field-0 c.in_ok-axis-2.field-0 c.in_ok-axis-3.field-0 hx hy hz hv in
    rw all.0 search (rules, all.1)

pub returns-in_err-primitives : goal.returns-in_err-primitives
returns-in_err-primitives c =
    let s = looked_in c.args.self in
    let w = c.args.sizes.now.workgroup in
    let x = slice_index_or w 0 no_size in
    let y = slice_index_or w 1 no_size in
    let z = slice_index_or w 2 no_size in
    let v = c.args.sizes.now.vertices in
    let p = c.args.sizes.now.primitives in
    let hx : SizeAs (NegativeWorkgroupSize X) x (size_at s 1 x) (Ok c.in_ok-axis.field-0) = search rules in
    let hy : SizeAs (NegativeWorkgroupSize Y) y (size_at s 1 y) (Ok c.in_ok-axis-2.field-0) = search rules in
    let hz : SizeAs (NegativeWorkgroupSize Z) z (size_at s 1 z) (Ok c.in_ok-axis-3.field-0) = search rules in
    let hv : SizeAs (NegativeMeshOutputMax Vertices) v (size_at s 0 v) (Ok c.in_ok-vertices.vertices) = search rules in
    let hp : SizeAs (NegativeMeshOutputMax Primitives) p (size_at s 0 p) (Err c.in_err-primitives.field-0.0) = search rules in
    let all =
    four_and_none s (NegativeWorkgroupSize X) (NegativeWorkgroupSize Y) (NegativeWorkgroupSize Z) (NegativeMeshOutputMax Vertices) (NegativeMeshOutputMax Primitives) c.in_err-primitives.field-0.0
    x y z v p c.in_ok-axis.field-0 c.in_ok-axis-2.field-0 c.in_ok-axis-3.field-0 c.in_ok-vertices.vertices hx hy hz hv hp in
    rw all.0 search (rules, all.1)

pub returns : goal.returns
returns c =
    let s = looked_in c.args.self in
    let w = c.args.sizes.now.workgroup in
    let x = slice_index_or w 0 no_size in
    let y = slice_index_or w 1 no_size in
    let z = slice_index_or w 2 no_size in
    let v = c.args.sizes.now.vertices in
    let p = c.args.sizes.now.primitives in
    let hx : SizeAs (NegativeWorkgroupSize X) x (size_at s 1 x) (Ok c.in_ok-axis.field-0) = search rules in
    let hy : SizeAs (NegativeWorkgroupSize Y) y (size_at s 1 y) (Ok c.in_ok-axis-2.field-0) = search rules in
    let hz : SizeAs (NegativeWorkgroupSize Z) z (size_at s 1 z) (Ok c.in_ok-axis-3.field-0) = search rules in
    let hv : SizeAs (NegativeMeshOutputMax Vertices) v (size_at s 0 v) (Ok c.in_ok-vertices.vertices) = search rules in
    let hp : SizeAs (NegativeMeshOutputMax Primitives) p (size_at s 0 p) (Ok c.in_ok-primitives.primitives) = search rules in
    let all =
    all_five s (NegativeWorkgroupSize X) (NegativeWorkgroupSize Y) (NegativeWorkgroupSize Z) (NegativeMeshOutputMax Vertices) (NegativeMeshOutputMax Primitives)
    x y z v p c.in_ok-axis.field-0 c.in_ok-axis-2.field-0 c.in_ok-axis-3.field-0 c.in_ok-vertices.vertices c.in_ok-primitives.primitives hx hy hz hv hp in
    rw all refl
