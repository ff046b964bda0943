use Rattle.std.proofs.Common.{ap}
use Rattle.places.specs.First.{number_of}
use Rattle.places.proofs.Kit.{in_table}
use Rattle.ir.specs.Tables.{global_range, global}
use Rattle.ir.specs.Views.{global_below}
use Rattle.ir.proofs.source.RangeOfModuleFaults.least_in.Goals as goal

pub returns-in-GlobalEntries : goal.returns-in-GlobalEntries
returns-in-GlobalEntries c =
    let m = c.args.self.now.tables in
    in_table (global_range (global_below (global m.source.now m.sizes.now))) (ap number_of c.in-GlobalEntries.is) _
    (rw c.deref.ensures.value at c.first_misnamed.ensures)

pub returns-in-GlobalOperands : goal.returns-in-GlobalOperands
returns-in-GlobalOperands c =
    let m = c.args.self.now.tables in
    in_table (global_range (global_below (global m.source.now m.sizes.now))) (ap number_of c.in-GlobalOperands.is) _
    (rw (c.deref-in-GlobalOperands.ensures.value, c.deref-in-GlobalOperands-2.ensures.value) at c.least_not_below.ensures)

pub returns-in-Constants : goal.returns-in-Constants
returns-in-Constants c =
    let m = c.args.self.now.tables in
    in_table (global_range (global_below (global m.source.now m.sizes.now))) (ap number_of c.in-Constants.is) _
    (rw (c.deref-in-Constants.ensures.value, c.len-bound.ensures, m.source.now.entries.ok.0) at c.first_outside.ensures)

pub returns-in-Overrides : goal.returns-in-Overrides
returns-in-Overrides c =
    let m = c.args.self.now.tables in
    in_table (global_range (global_below (global m.source.now m.sizes.now))) (ap number_of c.in-Overrides.is) _
    (rw (c.deref-in-Overrides.ensures.value, c.len-bound.ensures, m.source.now.entries.ok.0) at c.first_outside-in-Overrides.ensures)

pub returns-in-VariableInits : goal.returns-in-VariableInits
returns-in-VariableInits c =
    let m = c.args.self.now.tables in
    in_table (global_range (global_below (global m.source.now m.sizes.now))) (ap number_of c.in-VariableInits.is) _
    (rw (c.deref-in-VariableInits.ensures.value, c.len-bound.ensures, m.source.now.entries.ok.0) at c.first_outside-in-VariableInits.ensures)

pub returns-in-Sizes : goal.returns-in-Sizes
returns-in-Sizes c =
    let m = c.args.self.now.tables in
    in_table (global_range (global_below (global m.source.now m.sizes.now))) (ap number_of c.in-Sizes.is) _
    (rw (c.all.ensures, c.len-bound.ensures, m.source.now.entries.ok.0) at c.first_outside-in-Sizes.ensures)
