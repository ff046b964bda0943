-- Settling has one answer.
use Rattle.std.proofs.Common.{◌≡◌, ℕ, ◌<◌, ◌≤◌, cond, eqb, List, [], ◌∷◌, length, vec_items, Ok, Err, Result, refl, sym, ap, ◌∙◌, subst, inl, inr, ⊎_elim, arith}
use Rattle.std.proofs.lemmas.Bool.{cases_lt}
use Rattle.std.proofs.lemmas.Option.{none-some, same_Some}
use Rattle.refusals.specs.declared.Refusal.{Refusal}
use Rattle.refusals.specs.declared.Refusal.TheVariants.{MalformedSettings, RepeatedKey, Misshapen, OutOfRange, NotOneBlock, NotFound, Nameless, MissingValue, SrcNeedsToBeFinite, DstRangeTooSmall, UnsupportedScalar, InitNotMapped, ConstantEvaluatorError, RuntimeExpr, NegativeWorkgroupSize, NegativeMeshOutputMax, Full}
use Rattle.refusals.specs.Codes.{code_of, Less, Earlier}
use Rattle.ir.specs.declared.tables.Source.{Source}
use Rattle.ir.specs.declared.tables.Size.{Size}
use Rattle.ir.specs.declared.tables.Sizes.{Sizes}
use Rattle.ir.specs.Tables.{Global, global, sizes_of}
use Rattle.evaluator.specs.Verdicts.{Meaning}
use Rattle.settings.specs.Layout.{Given}
use Rattle.walking.specs.declared.overrides.Valued.{Valued}
use Rattle.overrides.specs.Settling.{FirstFault}
use Rattle.overrides.specs.Values.{ValuedFor}
use Rattle.overrides.proofs.Once.{valued_once}
use Rattle.pipeline_constants.specs.declared.module.Module.{Module}
use Rattle.pipeline_constants.specs.declared.settled.Settled.{Settled}
use Rattle.pipeline_constants.specs.declared.settled.Refused.{Refused}
use Rattle.pipeline_constants.specs.Contents.{Content}
use Rattle.pipeline_constants.specs.Settlings.{Answer, settles, refuses, settling}
use Rattle.pipeline_constants.specs.Endings.{Came}
use Rattle.pipeline_constants.specs.Views.{content_of, room_of, tables_of, counts}
use Rattle.pipeline_constants.specs.Laws.{GivenBy, Untouched, SettledAs, StoppedAs, Answered, Decided, Crowded, Rejected, RefusedAtFirst}
use Rattle.pipeline_constants.specs.Once.{SameModule, SameRefusal, SameAnswer, SettlesOnce}

-- ---- the first of refusals

-- how many values come with a number
abbrev arity : ℕ → ℕ
arity code = cond (eqb code 1) 0 (cond (eqb code 3) 2 (cond (eqb code 4) 2 (cond (eqb code 13) 3 1)))

arity_is : (e : Refusal) → length (code_of e).1 ≡ arity (code_of e).0
arity_is MalformedSettings = refl
arity_is (RepeatedKey key) = refl
arity_is (Misshapen p) = refl
arity_is (OutOfRange p) = refl
arity_is (NotOneBlock record_at) = refl
arity_is (NotFound key) = refl
arity_is (Nameless o) = refl
arity_is (MissingValue o) = refl
arity_is (SrcNeedsToBeFinite o) = refl
arity_is (DstRangeTooSmall o) = refl
arity_is (UnsupportedScalar o) = refl
arity_is (InitNotMapped o) = refl
arity_is (ConstantEvaluatorError h layer code) = refl
arity_is (RuntimeExpr h) = refl
arity_is (NegativeWorkgroupSize axis) = refl
arity_is (NegativeMeshOutputMax which) = refl
arity_is (Full table) = refl

-- of two numbers neither of which is below the other
same_number : (x y : ℕ) → (x < y → ⊥) → (y < x → ⊥) → x ≡ y
same_number x y n m =
    ⊎_elim (λ (l : x < y). absurd (n l)) (λ (k : y ≤ x). ⊎_elim (λ (l : y < x). absurd (m l)) (λ (j : x ≤ y). omega (arith, k, j)) (cases_lt y x)) (cases_lt x y)

same_values : (xs ys : List ℕ) → length xs ≡ length ys → (Less xs ys → ⊥) → (Less ys xs → ⊥) → xs ≡ ys
same_values [] [] e n m = refl
same_values [] (y ∷ ys) e n m = absurd (omega (arith, e))
same_values (x ∷ xs) [] e n m = absurd (omega (arith, e))
same_values (x ∷ xs) (y ∷ ys) e n m =
    let first : x ≡ y = same_number x y (λ l. n (inl l)) (λ l. m (inl l)) in
    let rest : xs ≡ ys = same_values xs ys (omega (arith, e)) (λ l. n (inr (first, l))) (λ l. m (inr (sym first, l))) in
    ap (λ (k : ℕ). k ∷ xs) first ∙ ap (λ (ks : List ℕ). y ∷ ks) rest

same_code : (p q : ℕ × List ℕ) → p.0 ≡ q.0 → p.1 ≡ q.1 → p ≡ q
same_code p q e f = ap (λ (n : ℕ). (n, p.1)) e ∙ ap (λ (ns : List ℕ). (q.0, ns)) f

-- of two refusals neither of which comes before the other
not_earlier : (q r : Refusal) → (Earlier q r → ⊥) → (Earlier r q → ⊥) → code_of r ≡ code_of q
not_earlier q r n m =
    let number : (code_of r).0 ≡ (code_of q).0 = same_number (code_of r).0 (code_of q).0 (λ l. m (inl l)) (λ l. n (inl l)) in
    same_code (code_of r) (code_of q) number
    (same_values (code_of r).1 (code_of q).1 (arity_is r ∙ ap arity number ∙ sym (arity_is q)) (λ l. m (inr (number, l))) (λ l. n (inr (sym number, l))))

first_once : (file : List ℕ) (m : Global) (q r : Refusal) → FirstFault file m q → FirstFault file m r → code_of r ≡ code_of q
first_once file m q r h k = not_earlier q r (λ l. k.first q l h.applies) (λ l. h.first r l k.applies)

-- ---- refused at first

untouched_once : (a : Module) (d e : Refused) → Untouched a d → Untouched a e → code_of e.refusal ≡ code_of d.refusal → SameRefusal d e
untouched_once a d e h k code =
    let same : e.module ≡ d.module = k.module_as_it_was ∙ sym h.module_as_it_was in
    record {
      modules = record { tables = ap tables_of same; content = ap (λ (m : Module). content_of m.finished) same; room = ap room_of same };
      refusal = code;
      written = k.written ∙ sym h.written;
    }

crowded_once : (file : List ℕ) (a : Module) (d e : Refused) → Crowded file a d → Crowded file a e → SameRefusal d e
crowded_once file a d e h k =
    let table : k.table ≡ h.table = same_Some k.table h.table (sym k.full ∙ h.full) in
    untouched_once a d e h.untouched k.untouched (k.refusal ∙ ap (λ (t : ℕ). (17, t ∷ [])) table ∙ sym h.refusal)

rejected_once : (file : List ℕ) (a : Module) (d e : Refused) → Rejected file a d → Rejected file a e → SameRefusal d e
rejected_once file a d e h k = untouched_once a d e h.untouched k.untouched (first_once file (tables_of a) d.refusal e.refusal h.fault k.fault)

refused_once : (file : List ℕ) (a : Module) (r s : Result Settled Refused) → RefusedAtFirst file a r → RefusedAtFirst file a s → SameAnswer r s
refused_once file a (Ok x) s h k = absurd h
refused_once file a (Err d) (Ok y) h k = absurd k
refused_once file a (Err d) (Err e) (inl h) (inl k) = rejected_once file a d e h k
refused_once file a (Err d) (Err e) (inl h) (inr k) = absurd (k.clean d.refusal h.fault.applies)
refused_once file a (Err d) (Err e) (inr h) (inl k) = absurd (h.clean e.refusal k.fault.applies)
refused_once file a (Err d) (Err e) (inr h) (inr k) = crowded_once file a d e h k

-- a module that is refused at first is not settled by the rules
not_both : {X : Type 0} (f : Meaning) (file : List ℕ) (a : Module) (r s : Result Settled Refused) → RefusedAtFirst file a r → Decided f file a s → X
not_both f file a (Ok x) s h k = absurd h
not_both f file a (Err e) s (inl h) k = absurd (k.clean e.refusal h.fault.applies)
not_both f file a (Err e) s (inr h) k = absurd (none-some h.table (sym k.room ∙ h.full))

-- ---- decided by the rules

came_settled : (w : Answer) (c d : Content) (y z : Sizes) → Came w c (Ok y) → Came w d (Ok z) → (d ≡ c) × (sizes_of z ≡ sizes_of y)
came_settled (settles x zs) c d y z h k = (k.0 ∙ sym h.0, k.1 ∙ sym h.1)
came_settled (refuses x code values) c d y z h k = absurd h

came_refused : (w : Answer) (c d : Content) (q r : Refusal) → Came w c (Err q) → Came w d (Err r) → (d ≡ c) × (code_of r ≡ code_of q)
came_refused (settles x zs) c d q r h k = absurd h
came_refused (refuses x code values) c d q r h k = (k.0 ∙ sym h.0, k.1 ∙ sym h.1)

came_apart : {X : Type 0} (w : Answer) (c d : Content) (z : Sizes) (r : Refusal) → Came w c (Ok z) → Came w d (Err r) → X
came_apart (settles x zs) c d z r h k = absurd k
came_apart (refuses x code values) c d z r h k = absurd h

-- tables by their source and their sizes
abbrev tables_with : Source → List Size → Global
tables_with m zs =
    record {
      entries = vec_items m.entries;
      operands = vec_items m.operands;
      constants = vec_items m.constants;
      overrides = vec_items m.overrides;
      names = vec_items m.names;
      variables = vec_items m.variables;
      sizes = zs;
    }

module _ (f : Meaning) (a : Module) (os : List Valued) where
  settled_once : (x y : Settled) → SettledAs f a os x → SettledAs f a os y → SameModule x.module y.module
  settled_once x y h k =
      let same = came_settled (settling f (room_of a) (tables_of a) os) (content_of x.module.finished) (content_of y.module.finished) x.module.sizes y.module.sizes h.rules k.rules in
      record {
        tables = ap (λ (m : Source). tables_with m (sizes_of y.module.sizes)) (k.stays.source ∙ sym h.stays.source) ∙ ap (tables_with x.module.source) same.1;
        content = same.0;
        room = k.stays.room ∙ sym h.stays.room;
      }

  stopped_once : (d e : Refused) → StoppedAs f a os d → StoppedAs f a os e → SameRefusal d e
  stopped_once d e h k =
      let same = came_refused (settling f (room_of a) (tables_of a) os) (content_of d.module.finished) (content_of e.module.finished) d.refusal e.refusal h.rules k.rules in
      record {
        modules = record {
          tables = ap (λ (m : Source). global m e.module.sizes) (k.stays.source ∙ sym h.stays.source) ∙ ap (global d.module.source) (k.sizes ∙ sym h.sizes);
          content = same.0;
          room = k.stays.room ∙ sym h.stays.room;
        };
        refusal = same.1;
        written = k.written ∙ ap counts same.0 ∙ sym h.written;
      }

  answered_once : (r s : Result Settled Refused) → Answered f a os r → Answered f a os s → SameAnswer r s
  answered_once (Ok x) (Ok y) h k = settled_once x y h k
  answered_once (Ok x) (Err e) h k = came_apart (settling f (room_of a) (tables_of a) os) _ _ _ _ h.rules k.rules
  answered_once (Err d) (Ok y) h k = came_apart (settling f (room_of a) (tables_of a) os) _ _ _ _ k.rules h.rules
  answered_once (Err d) (Err e) h k = stopped_once d e h k

-- a file gives one list of values
values_once : (file : List ℕ) (m : Global) (g h : Given) (os vs : List Valued) → GivenBy file m g os → GivenBy file m h vs → vs ≡ os
values_once file m g h os vs p q =
    let same : h ≡ g = p.encodes.only h q.encodes.valid q.encodes.is in
    valued_once g m.names m.overrides os vs p.values (subst (λ (x : Given). ValuedFor x m.names m.overrides vs) same q.values)

decided_once : (f : Meaning) (file : List ℕ) (a : Module) (r s : Result Settled Refused) → Decided f file a r → Decided f file a s → SameAnswer r s
decided_once f file a r s h k =
    let same : k.values ≡ h.values = values_once file (tables_of a) h.given k.given h.values k.values h.by_file k.by_file in
    answered_once f a h.values r s h.answer (subst (λ (os : List Valued). Answered f a os s) same k.answer)

pub settles_once : SettlesOnce
settles_once f file a r s (inl h) (inl k) = refused_once file a r s h k
settles_once f file a r s (inl h) (inr k) = not_both f file a r s h k
settles_once f file a r s (inr h) (inl k) = not_both f file a s r k h
settles_once f file a r s (inr h) (inr k) = decided_once f file a r s h k
