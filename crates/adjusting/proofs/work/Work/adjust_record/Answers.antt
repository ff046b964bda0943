use Rattle.std.proofs.Common.{◌≡◌, Err, refl, rules}
use Rattle.adjusting.proofs.Leaving.{record_off, record_on}
use Rattle.adjusting.proofs.work.Work.adjust_record.Goals as goal

pub returns-in_err-counts : goal.returns-in_err-counts
returns-in_err-counts c =
    let e = c.in_err-counts.field-0.0 in
    let is : c.from_residual.result ≡ Err e = search rules in
    rw is (record_off c.args.self.now c.write.new.self c.write.new.self _ c.requires e c.in_err-counts.ensures.wrote)

pub returns : goal.returns
returns c =
    let counts = c.in_ok-counts.ensures.counts in
    record_on c.args.self.now c.write.new.self _ _ c.requires c.in_ok-counts.counts c.in_ok-counts.ensures.wrote counts.0 counts.1
    (record { inputs = refl; records = refl; operands = refl; records_stay = (refl, refl); operands_stay = (refl, refl) }) refl refl refl tt
