use Rattle.std.proofs.Common.{ap}
use Rattle.places.specs.First.{number_of}
use Rattle.places.proofs.Kit.{in_table}
use Rattle.ir.specs.Tables.{local_shape, local}
use Rattle.ir.proofs.body.ShapeOfFunctionFaults.least_in.Goals as goal

pub returns-in-BodyEntries : goal.returns-in-BodyEntries
returns-in-BodyEntries c =
    let m = c.args.self.now.tables in
    in_table (local_shape (local m.body.now m.source.now)) (ap number_of c.in-BodyEntries.is) _
    (rw (c.deref.ensures.value, c.len.ensures, m.body.now.operands.ok.0) at c.limited.ensures)

pub returns-in-BodyOperands : goal.returns-in-BodyOperands
returns-in-BodyOperands c =
    let m = c.args.self.now.tables in
    in_table (local_shape (local m.body.now m.source.now)) (ap number_of c.in-BodyOperands.is) _
    (rw (c.deref-in-BodyOperands.ensures.value, c.deref-in-BodyOperands-2.ensures.value) at c.least_lacking.ensures)

pub returns-in-Records : goal.returns-in-Records
returns-in-Records c =
    let m = c.args.self.now.tables in
    in_table (local_shape (local m.body.now m.source.now)) (ap number_of c.in-Records.is) _
    (rw (c.deref-in-Records.ensures.value, c.len-2.ensures, m.body.now.record_operands.ok.0) at c.limited-in-Records.ensures)

pub returns-in-RecordOperands : goal.returns-in-RecordOperands
returns-in-RecordOperands c =
    let m = c.args.self.now.tables in
    in_table (local_shape (local m.body.now m.source.now)) (ap number_of c.in-RecordOperands.is) _
    (rw (c.deref-in-RecordOperands.ensures.value, c.deref-in-RecordOperands-2.ensures.value) at c.least_lacking-in-RecordOperands.ensures)
