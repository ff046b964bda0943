-- Tables of a right shape are within their limits, so nothing of their operands is cut off.
use Rattle.std.proofs.Common.{◌≡◌, ℕ, ◌<◌, List, length, take, refl, ap, subst, inl, ⊎_elim}
use Rattle.std.proofs.lemmas.Bool.{cases_lt}
use Rattle.std.proofs.lemmas.List.{take_all}
use Rattle.places.specs.First.{Clean, Over}
use Rattle.places.specs.declared.TableName.TheVariants.{GlobalOperands, BodyOperands, RecordOperands}
use Rattle.ir.specs.Tables.{Global, Local, global_shape, local_shape}
use Rattle.ir.specs.Views.{global_below, local_below}

not_cut : (n : ℕ) (xs : List ℕ) → (Over n (length xs) n → ⊥) → take n xs ≡ xs
not_cut n xs h = take_all n xs (⊎_elim (λ (l : n < length xs). absurd (h (refl, l))) (λ l. l) (cases_lt n (length xs)))

pub global_whole : (m : Global) → Clean (global_shape m) → global_below m ≡ m
global_whole m c =
    let whole = not_cut 262144 m.operands (λ o. c (record { table = GlobalOperands; index = 262144 }) (inl o)) in
    ap (λ os. record { entries = m.entries; operands = os; constants = m.constants; overrides = m.overrides; names = m.names; variables = m.variables; sizes = m.sizes }) whole

pub local_whole : (b : Local) → Clean (local_shape b) → local_below b ≡ b
local_whole b c =
    let one = not_cut 262144 b.operands (λ o. c (record { table = BodyOperands; index = 262144 }) (inl o)) in
    let two = not_cut 262144 b.record_operands (λ o. c (record { table = RecordOperands; index = 262144 }) (inl o)) in
    subst (λ os. local_below b ≡ record { entries = b.entries; operands = os; records = b.records; record_operands = b.record_operands; locals = b.locals; named = b.named; constants = b.constants; overrides = b.overrides }) one
    (ap (λ os. record { entries = b.entries; operands = take 262144 b.operands; records = b.records; record_operands = os; locals = b.locals; named = b.named; constants = b.constants; overrides = b.overrides }) two)
