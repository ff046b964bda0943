use Rattle.std.proofs.Common.{ap}
use Rattle.places.specs.First.{number_of}
use Rattle.places.proofs.Kit.{in_table}
use Rattle.ir.specs.Tables.{global_shape, global}
use Rattle.ir.proofs.source.ShapeOfModuleFaults.least_in.Goals as goal

pub returns-in-GlobalEntries : goal.returns-in-GlobalEntries
returns-in-GlobalEntries c =
    let m = c.args.self.now.tables in
    in_table (global_shape (global m.source.now m.sizes.now)) (ap number_of c.in-GlobalEntries.is) _
    (rw (c.deref.ensures.value, c.len-operands.ensures, m.source.now.operands.ok.0) at c.limited.ensures)

pub returns-in-GlobalOperands : goal.returns-in-GlobalOperands
returns-in-GlobalOperands c =
    let m = c.args.self.now.tables in
    in_table (global_shape (global m.source.now m.sizes.now)) (ap number_of c.in-GlobalOperands.is) _
    (rw (c.deref-in-GlobalOperands.ensures.value, c.deref-in-GlobalOperands-2.ensures.value) at c.least_lacking.ensures)

pub returns-in-Constants : goal.returns-in-Constants
returns-in-Constants c =
    let m = c.args.self.now.tables in
    in_table (global_shape (global m.source.now m.sizes.now)) (ap number_of c.in-Constants.is) _
    (rw (c.len.ensures, m.source.now.constants.ok.0) at c.over.ensures)

pub returns-in-Overrides : goal.returns-in-Overrides
returns-in-Overrides c =
    let m = c.args.self.now.tables in
    in_table (global_shape (global m.source.now m.sizes.now)) (ap number_of c.in-Overrides.is) _
    (rw (c.deref-in-Overrides.ensures.value, c.len-names.ensures, m.source.now.names.ok.0) at c.limited-in-Overrides.ensures)
