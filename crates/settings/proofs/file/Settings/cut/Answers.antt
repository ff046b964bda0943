use Rattle.std.proofs.Common.{ℕ, ◌<◌, List, map, length, sum, sym, ap, subst, arith}
use Rattle.std.specs.List.{IsSplitAt}
use Rattle.std.proofs.ByRecursion.{All-from_get_or}
use Rattle.settings.specs.Layout.{Encodes, number_of, pieces}
use Rattle.settings.specs.Reading.{CutInto}
use Rattle.settings.proofs.Format.{room, accepted}
use Rattle.settings.proofs.file.Settings.cut.Goals as goal

pub returns-in_err-bytes : goal.returns-in_err-bytes
returns-in_err-bytes c =
    let head = c.in_ok-head.ensures.cases in let lengths = c.in_ok-lengths.ensures.cases in
    let short : length c.in_ok-lengths.rest.now < c.total.result = c.in_err-bytes.ensures.cases in
    subst (CutInto c.args.file.now) (sym c.from_residual-in_err-bytes.ensures)
    (λ g ok e. let fits = room c.args.file.now c.in_ok-head.head.now c.in_ok-head.rest.now c.from-count.result head.0 head.1 head.2 (omega (arith, c.from_le_bytes.ensures)) g ok e in
    omega (arith, ap length lengths.2, ap sum lengths.1))

pub returns-then-rest-count : goal.returns-then-rest-count
returns-then-rest-count c = λ g ok e.
    let head = c.in_ok-head.ensures.cases in let lengths = c.in_ok-lengths.ensures.cases in let bytes = c.in_ok-bytes.ensures.cases in
    let fits = room c.args.file.now c.in_ok-head.head.now c.in_ok-head.rest.now c.from-count.result head.0 head.1 head.2 (omega (arith, c.from_le_bytes.ensures)) g ok e in
    omega (arith, ap length lengths.2, ap sum lengths.1, bytes.4)

pub returns : goal.returns
returns c =
    let head = c.in_ok-head.ensures.cases in
    let bytes : IsSplitAt c.in_ok-lengths.rest.now (sum c.in_ok-lengths.lengths.now) c.in_ok-bytes.bytes.now c.in_ok-bytes.rest.now =
    subst (λ n. IsSplitAt c.in_ok-lengths.rest.now n c.in_ok-bytes.bytes.now c.in_ok-bytes.rest.now) c.total.ensures c.in_ok-bytes.ensures.cases in
    let read = accepted c.args.file.now c.in_ok-head.head.now c.in_ok-head.rest.now c.from-count.result head.0 head.1 head.2 (omega (arith, c.from_le_bytes.ensures))
    c.in_ok-lengths.lengths.now c.in_ok-lengths.rest.now c.in_ok-bytes.bytes.now c.in_ok-bytes.rest.now
    (All-from_get_or (λ b. b < 256) c.args.file.now 0 (λ i l. (c.type_inv.file i).fits)) (omega arith) c.in_ok-lengths.ensures.cases bytes (omega arith) in
    subst (λ (vs : List (List ℕ)). Encodes c.args.file.now (record { keys = pieces c.in_ok-lengths.lengths.now c.in_ok-bytes.bytes.now; values = map number_of vs })) (sym c.as_chunks.ensures.front)
    read
