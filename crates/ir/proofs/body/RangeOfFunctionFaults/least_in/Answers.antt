use Rattle.std.proofs.Common.{ap}
use Rattle.places.specs.First.{number_of}
use Rattle.places.proofs.Kit.{in_table}
use Rattle.ir.specs.Tables.{local_range, local}
use Rattle.ir.specs.Views.{local_below}
use Rattle.ir.proofs.body.RangeOfFunctionFaults.least_in.Goals as goal

pub returns-in-BodyEntries : goal.returns-in-BodyEntries
returns-in-BodyEntries c =
    let m = c.args.self.now.tables in
    in_table (local_range (local_below (local m.body.now m.source.now))) (ap number_of c.in-BodyEntries.is) _
    (rw c.deref.ensures.value at c.first_misnamed.ensures)

pub returns-in-BodyOperands : goal.returns-in-BodyOperands
returns-in-BodyOperands c =
    let m = c.args.self.now.tables in
    in_table (local_range (local_below (local m.body.now m.source.now))) (ap number_of c.in-BodyOperands.is) _
    (rw (c.deref-in-BodyOperands.ensures.value, c.deref-in-BodyOperands-2.ensures.value) at c.least_not_below.ensures)

pub returns-in-Records : goal.returns-in-Records
returns-in-Records c =
    let m = c.args.self.now.tables in
    in_table (local_range (local_below (local m.body.now m.source.now))) (ap number_of c.in-Records.is) _
    (rw (c.deref-in-Records.ensures.value, c.len-bound.ensures, m.body.now.entries.ok.0) at c.first_emit_past.ensures)

pub returns-in-RecordOperands : goal.returns-in-RecordOperands
returns-in-RecordOperands c =
    let m = c.args.self.now.tables in
    in_table (local_range (local_below (local m.body.now m.source.now))) (ap number_of c.in-RecordOperands.is) _
    (rw (c.deref-in-RecordOperands.ensures.value, c.deref-in-RecordOperands-2.ensures.value, c.len-bound.ensures, m.body.now.entries.ok.0) at c.least_beyond.ensures)

pub returns-in-LocalInits : goal.returns-in-LocalInits
returns-in-LocalInits c =
    let m = c.args.self.now.tables in
    in_table (local_range (local_below (local m.body.now m.source.now))) (ap number_of c.in-LocalInits.is) _
    (rw (c.deref-in-LocalInits.ensures.value, c.len-bound.ensures, m.body.now.entries.ok.0) at c.first_outside.ensures)

pub returns-in-NamedHandles : goal.returns-in-NamedHandles
returns-in-NamedHandles c =
    let m = c.args.self.now.tables in
    in_table (local_range (local_below (local m.body.now m.source.now))) (ap number_of c.in-NamedHandles.is) _
    (rw (c.deref-in-NamedHandles.ensures.value, c.len-bound.ensures, m.body.now.entries.ok.0) at c.first_outside-in-NamedHandles.ensures)
