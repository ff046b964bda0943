-- What is written where the rules go to their end.
use Rattle.std.proofs.Common.{◌≡◌, ℕ, ◌+◌, Bool, true, false, cond, nat_lt, nat_le, List, [], ◌∷◌, ◌++◌, length, sym, refl, ap, ◌∙◌, append_assoc, append-nil, arith}
use Rattle.std.specs.List.{flat_map}
use Rattle.places.specs.declared.TableName.{TableName}
use Rattle.places.specs.declared.TableName.TheVariants.{Records, RecordOperands}
use Rattle.arena.specs.Nodes.{Node, operand_total}
use Rattle.adjusting.specs.Rules.{Room, State, Outcome, goes, full, then, with_record, add, add_all, counting, finished, emits_now, strikes_now, adjust_records}

-- s became t by these records and counts
pub record Written (s t : State) (ns : List Node) (e k : ℕ) : Type 0 where
  pub records : t.records ≡ s.records ++ ns
  pub emitted : t.emitted ≡ s.emitted + e
  pub struck : t.struck ≡ s.struck + k

goes_to : {s t : State} → ◌≡◌ {A = Outcome} (goes s) (goes t) → s ≡ t
goes_to e = cc

not_full : {X : Type 0} {s t : State} {table : TableName} → ◌≡◌ {A = Outcome} (full s table) (goes t) → X
not_full e = let z : ◌≡◌ {A = ℕ} 0 1 = cc in absurd (omega arith)

-- an outcome that goes on has gone on before
then_goes : (o : Outcome) (f : State → Outcome) (t : State) → then o f ≡ goes t → (s : State) × (o ≡ goes s) × (f s ≡ goes t)
then_goes (goes s) f t e = (s, refl, e)
then_goes (full s table) f t e = not_full e

one_written : (r : Room) (n : Node) (s t : State) → add r n s ≡ goes t → Written s t (n ∷ []) 0 0
one_written r n s t e = go (nat_lt (length s.records) r.records) (nat_le (operand_total s.records + length n.operands) r.operands) e
  where
    go : (b c : Bool) → cond b (cond c (goes (with_record n s)) (full s RecordOperands)) (full s Records) ≡ goes t → Written s t (n ∷ []) 0 0
    go true true q =
        let same : with_record n s ≡ t = goes_to q in
        record {
          records = sym (ap (λ (u : State). u.records) same);
          emitted = omega (arith, ap (λ (u : State). u.emitted) same);
          struck = omega (arith, ap (λ (u : State). u.struck) same);
        }
    go true false q = not_full q
    go false c q = not_full q

written_on : (s t u : State) (ns ms : List Node) (e f k j : ℕ) → Written s t ns e k → Written t u ms f j → Written s u (ns ++ ms) (e + f) (k + j)
written_on s t u ns ms e f k j p q =
    record {
      records = q.records ∙ ap (λ (l : List Node). l ++ ms) p.records ∙ append_assoc s.records ns ms;
      emitted = omega (arith, p.emitted, q.emitted);
      struck = omega (arith, p.struck, q.struck);
    }

nothing_written : (s t : State) → s ≡ t → Written s t [] 0 0
nothing_written s t e =
    record {
      records = sym (ap (λ (u : State). u.records) e) ∙ sym (append-nil s.records);
      emitted = omega (arith, ap (λ (u : State). u.emitted) e);
      struck = omega (arith, ap (λ (u : State). u.struck) e);
    }

all_written : (r : Room) (ns : List Node) (s t : State) → add_all r ns s ≡ goes t → Written s t ns 0 0
all_written r [] s t e = nothing_written s t (goes_to e)
all_written r (n ∷ ns) s t e =
    let m = then_goes (add r n s) (add_all r ns) t e in
    written_on s m.0 t (n ∷ []) ns 0 0 0 0 (one_written r n s m.0 m.1) (all_written r ns m.0 t m.2)

-- ---- all the records

module _ (images : List ℕ) (fs : List Node) where
  abbrev pub emitted_total : List Node → ℕ
  emitted_total [] = 0
  emitted_total (n ∷ rs) = emits_now images fs n + emitted_total rs

  abbrev pub struck_total : List Node → ℕ
  struck_total [] = 0
  struck_total (n ∷ rs) = strikes_now images fs n + struck_total rs

  pub records_written : (r : Room) (rs : List Node) (s t : State) → adjust_records r images fs rs s ≡ goes t →
      Written s t (flat_map (finished images fs) rs) (emitted_total rs) (struck_total rs)
  records_written r [] s t e = nothing_written s t (goes_to e)
  records_written r (n ∷ rs) s t e =
      let count = λ (u : State). goes (counting (emits_now images fs n) (strikes_now images fs n) u) in
      let m = then_goes (then (add_all r (finished images fs n) s) count) (adjust_records r images fs rs) t e in
      let k = then_goes (add_all r (finished images fs n) s) count m.0 m.1 in
      let w = all_written r (finished images fs n) s k.0 k.1 in
      let c : counting (emits_now images fs n) (strikes_now images fs n) k.0 ≡ m.0 = goes_to k.2 in
      written_on s m.0 t (finished images fs n) (flat_map (finished images fs) rs) (emits_now images fs n) (emitted_total rs) (strikes_now images fs n) (struck_total rs)
      (record {
        records = sym (ap (λ (u : State). u.records) c) ∙ w.records;
        emitted = omega (arith, ap (λ (u : State). u.emitted) c, w.emitted);
        struck = omega (arith, ap (λ (u : State). u.struck) c, w.struck);
      })
      (records_written r rs m.0 t m.2)
