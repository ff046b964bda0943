-- The refusals that come before anything is written.
use Rattle.std.proofs.Common.{◌≡◌, ℕ, ◌<◌, ◌≤◌, ◌⊎◌, ◌==◌, true, false, Bool, List, length, None, Some, Err, MatchBool, inl, inr, sym, refl, ⊎_elim, subst, arith}
use Rattle.std.proofs.lemmas.Bool.{cases_lt, eqb-true}
use Rattle.arena.specs.Nodes.{Node}
use Rattle.blocks.specs.Blocks.{Fault}
use Rattle.places.specs.declared.Place.{Place}
use Rattle.places.specs.First.{At, Least, Over, number_of}
use Rattle.refusals.specs.declared.Refusal.{Refusal}
use Rattle.refusals.specs.declared.Refusal.TheVariants.{MalformedSettings, RepeatedKey, Misshapen, OutOfRange, NotOneBlock, NotFound, Nameless, MissingValue, SrcNeedsToBeFinite, DstRangeTooSmall, UnsupportedScalar, InitNotMapped, ConstantEvaluatorError, RuntimeExpr, NegativeWorkgroupSize, NegativeMeshOutputMax, Full}
use Rattle.refusals.specs.Codes.{Earlier, FirstOf}
use Rattle.arena.specs.Nodes.{nodes}
use Rattle.ir.specs.Tables.{Local, local_shape}
use Rattle.walking.specs.Accepted.{AcceptedBody}
use Rattle.adjusting.proofs.Adding.{length_nodes}
use Rattle.adjusting.specs.Ends.{Accepted, RecordFaults, over_limit}

-- a table within its limit has no place over it
within_limit : (rs : List Node) → length rs ≤ 65536 → (p : Place) → At (over_limit rs) p → ⊥
within_limit rs l p h = go (number_of p.table == 7) h
  where
    go : (b : Bool) → MatchBool b (Over 65536 (length rs) p.index) ⊥ → ⊥
    go true o = omega (arith, o.1, l)
    go false o = o

-- what applies to records is of one of two sorts
module _ (rs : List Node) (P : Refusal → Type 0) (over : (p : Place) → At (over_limit rs) p → P (Misshapen p)) (at : (k : ℕ) → Fault rs k → P (NotOneBlock k)) where
  pub by_record : (r : Refusal) → RecordFaults rs r → P r
  by_record (Misshapen p) h = over p h
  by_record (OutOfRange p) h = absurd h
  by_record (NotOneBlock k) h = at k h
  by_record (Nameless k) h = absurd h
  by_record MalformedSettings h = absurd h
  by_record (RepeatedKey x) h = absurd h
  by_record (NotFound x) h = absurd h
  by_record (MissingValue x) h = absurd h
  by_record (SrcNeedsToBeFinite x) h = absurd h
  by_record (DstRangeTooSmall x) h = absurd h
  by_record (UnsupportedScalar x) h = absurd h
  by_record (InitNotMapped x) h = absurd h
  by_record (ConstantEvaluatorError x y z) h = absurd h
  by_record (RuntimeExpr x) h = absurd h
  by_record (NegativeWorkgroupSize x) h = absurd h
  by_record (NegativeMeshOutputMax x) h = absurd h
  by_record (Full x) h = absurd h

pub none_applies : (rs : List Node) → length rs ≤ 65536 → Least (Fault rs) None → Accepted rs
none_applies rs l b r h = by_record rs (λ _. ⊥) (within_limit rs l) (λ k f. b k f) r h

earlier_record : (j k : ℕ) → Earlier (NotOneBlock j) (NotOneBlock k) → j < k
earlier_record j k (inl m) = absurd (omega arith)
earlier_record j k (inr e) = go e.1
  where
    go : (j < k) ⊎ ((j ≡ k) × ⊥) → j < k
    go (inl l) = l
    go (inr x) = absurd x.1

pub first_record : (rs : List Node) (k : ℕ) → length rs ≤ 65536 → Least (Fault rs) (Some k) → FirstOf (RecordFaults rs) (Err (NotOneBlock k))
first_record rs k l f = (
  f.0,
  λ r e h. by_record rs (λ r. Earlier r (NotOneBlock k) → ⊥) (λ p o e. within_limit rs l p o) (λ j g e. f.1 j (earlier_record j k e) g) r h e,
)

pub few : (n : ℕ) → Least (Over 65536 n) None → n ≤ 65536
few n f = ⊎_elim (λ (l : 65536 < n). absurd (f 65536 (refl, l))) (λ l. l) (cases_lt 65536 n)

-- ---- a body that is checked

-- a table over its limit has a wrong shape
shape_over : (b : Local) (p : Place) → At (over_limit (nodes b.records b.record_operands)) p → At (local_shape b) p
shape_over b p h = go (number_of p.table == 7) refl h
  where
    go : (c : Bool) → (number_of p.table == 7) ≡ c → MatchBool c (Over 65536 (length (nodes b.records b.record_operands)) p.index) ⊥ → local_shape b (number_of p.table) p.index
    go true e o =
        subst (λ (t : ℕ). local_shape b t p.index) (sym (eqb-true (number_of p.table) 7 e))
        (inl (subst (λ (n : ℕ). Over 65536 n p.index) (length_nodes b.records b.record_operands) o))
    go false e o = absurd o

pub accepted : (b : Local) → AcceptedBody b → Accepted (nodes b.records b.record_operands)
accepted b a r h = by_record (nodes b.records b.record_operands) (λ _. ⊥) (λ p o. a (Misshapen p) (shape_over b p o)) (λ k f. a (NotOneBlock k) f) r h
