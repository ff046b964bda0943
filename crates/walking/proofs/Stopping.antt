-- Where a walk stops, its refusal means what its number says.
use Rattle.std.proofs.Common.{◌≡◌, ℕ, zero, suc, ◌+◌, ◌-◌, ◌<◌, ◌≤◌, ◌⊎◌, Bool, true, false, cond, eqb, nat_lt, List, [], ◌∷◌, length, get_or, Some, None, Option, Ok, Err, Result, option_and_then, sym, refl, ap, ◌∙◌, subst, inl, inr, arith}
use Rattle.std.specs.List.{slice_get}
use Rattle.std.proofs.lemmas.Bool.{ltb-false}
use Rattle.std.proofs.lemmas.List.{length_push}
use Rattle.std.proofs.lemmas.Option.{slice_get_cases, none-some}
use Rattle.arena.specs.Nodes.{Node}
use Rattle.ir.specs.Faults.{constant, overriding}
use Rattle.rounding.specs.declared.literals.Literal.{Literal}
use Rattle.rounding.specs.declared.conversion.ConversionError.{ConversionError}
use Rattle.rounding.specs.declared.conversion.ConversionError.TheVariants.{SrcNeedsToBeFinite, DstRangeTooSmall, UnsupportedScalar}
use Rattle.rounding.specs.Conversion.{code_of}
use Rattle.evaluator.specs.declared.expression_kind.ExpressionKind.{ExpressionKind}
use Rattle.evaluator.specs.declared.expression_kind.ExpressionKind.TheVariants.{Const, Override, Runtime}
use Rattle.evaluator.specs.declared.tables.FullTable.{FullTable}
use Rattle.evaluator.specs.declared.tables.NewConstant.{NewConstant}
use Rattle.evaluator.specs.Tables.{full, adding}
use Rattle.evaluator.specs.Verdicts.{Verdict, folds, declines, faults, Meaning}
use Rattle.walking.specs.declared.overrides.Valued.{Valued}
use Rattle.walking.specs.States.{Room, State, Outcome, goes, stops, then, if_room, no_room, add, add_unless, with_tables}
use Rattle.walking.specs.Images.{map_constant, map_rest, mapped}
use Rattle.walking.specs.Overrides.{add_constant, note_settled, settle_to, new_literal, settle_to_image, settle_by_init, settle_by, settle_one, settle_next, settle_more, settle_rest}
use Rattle.walking.specs.Walks.{answers_unless, judged, asked_as, noted, prepared, ask_mapped, walk_one, walk, walk_all}
use Rattle.walking.specs.Laws.{init_at}
use Rattle.walking.specs.Modules.{begun, walk_module}
use Rattle.walking.specs.Stops.{conversion_at, NextEntry, kind_mapped, NoRoom, StopMeans}

-- P of a walk that goes on, and Q of one that stops
abbrev pub After : (State → Type 0) → (State → ℕ → List ℕ → Type 0) → Outcome → Type 0
After P Q (goes s) = P s
After P Q (stops s code values) = Q s code values

after_then : (P R : State → Type 0) (Q : State → ℕ → List ℕ → Type 0) (o : Outcome) (k : State → Outcome) → After P Q o → ((s : State) → P s → After R Q (k s)) → After R Q (then o k)
after_then P R Q (goes s) k h next = next s h
after_then P R Q (stops s code values) k h next = h

module _ (m : Meaning) (r : Room) (os : List Valued) (es : List Node) where
  abbrev Q : State → ℕ → List ℕ → Type 0
  Q = StopMeans m r os es

  -- so many images
  abbrev Images : ℕ → State → Type 0
  Images n s = length s.images ≡ n

  after_room : (P : State → Type 0) (held limit table : ℕ) (s : State) (o : Outcome) → (limit ≤ held → NoRoom m r os es s table) → After P Q o → After P Q (if_room held limit table s o)
  after_room P held limit table s o full on = go (nat_lt held limit) refl
    where
      go : (b : Bool) → nat_lt held limit ≡ b → After P Q (cond b o (no_room s table))
      go true x = on
      go false x = full (ltb-false _ _ x)

  -- ---- overrides

  settle_to_means : (n h : ℕ) (s : State) → Images n s → After (Images n) Q (settle_to r h s)
  settle_to_means n h s k =
      after_then (Images n) (Images n) Q (add_constant r h s) (note_settled r (length s.tables.constants.list))
      (after_room (Images n) (length s.tables.constants.list) r.constants 2 s _ (λ l. inl (refl, l)) k)
      (λ t j. after_room (Images n) (length t.settled) r.settled 13 t _ (λ l. inr (inr (inl (refl, l)))) j)

  -- of the next override
  module _ (n : ℕ) (s : State) (k : Images n s) where
    abbrev p : ℕ
    p = length s.settled

    by_image : (init : ℕ) → conversion_at os p ≡ None → init_at os p ≡ Some init → (q : Option ℕ) → slice_get s.images init ≡ q → After (Images n) Q (settle_to_image r p q s)
    by_image init value there None e = record { next = refl; value = value; init = init; there = there; later = past (slice_get_cases s.images init).1 }
      where
        past : ((x : ℕ) × (init < length s.images) × (slice_get s.images init ≡ Some x) × (get_or s.images init x ≡ x)) ⊎ ((length s.images ≤ init) × (slice_get s.images init ≡ None)) → length s.images ≤ init
        past (inl c) = absurd (none-some c.0 (sym e ∙ c.2))
        past (inr c) = c.0
    by_image init value there (Some h) e = settle_to_means n h s k

    by_init : conversion_at os p ≡ None → (i : Option ℕ) → init_at os p ≡ i → After (Images n) Q (settle_by_init r p i s)
    by_init value None e = record { next = refl; value = value; init = e }
    by_init value (Some init) e = by_image init value e (slice_get s.images init) refl

    by_error : (x : ConversionError) → conversion_at os p ≡ Some (Err x) → Q s (code_of x) (p ∷ [])
    by_error SrcNeedsToBeFinite e = record { next = refl; reason = SrcNeedsToBeFinite; value = e; number = refl }
    by_error DstRangeTooSmall e = record { next = refl; reason = DstRangeTooSmall; value = e; number = refl }
    by_error UnsupportedScalar e = record { next = refl; reason = UnsupportedScalar; value = e; number = refl }

    by_literal : (l : Literal) → conversion_at os p ≡ Some (Ok l) → (q : Option FullTable) → full r.tables s.tables.entries s.tables.kinds (new_literal l ∷ []) ≡ q → After (Images n) Q (add_unless q Const (new_literal l ∷ []) s)
    by_literal l value None e = k
    by_literal l value (Some t) e = inr (inr (inr (new_literal l ∷ [], inl (l, value, refl), record { table = t; number = refl; first = e })))

    by_value : (g : Option (Result Literal ConversionError)) (i : Option ℕ) → conversion_at os p ≡ g → init_at os p ≡ i → After (Images n) Q (settle_by r p g i s)
    by_value (Some (Ok l)) i value init =
        after_then (Images n) (Images n) Q (add r Const (new_literal l ∷ []) s) (settle_to r (length s.tables.entries))
        (by_literal l value (full r.tables s.tables.entries s.tables.kinds (new_literal l ∷ [])) refl)
        (settle_to_means n (length s.tables.entries))
    by_value (Some (Err x)) i value init = by_error x value
    by_value None i value init = by_init value i init

    by_override : (v : Option Valued) → slice_get os p ≡ v → After (Images n) Q (settle_one r p v s)
    by_override None e = record { next = refl; value = ap (option_and_then (λ (v : Valued). v.given)) e; init = ap (option_and_then (λ (v : Valued). v.init)) e }
    by_override (Some v) e = by_value v.given v.init (ap (option_and_then (λ (v : Valued). v.given)) e) (ap (option_and_then (λ (v : Valued). v.init)) e)

  settle_more_means : (n i : ℕ) (s : State) → Images n s → After (Images n) Q (settle_more r os i s)
  settle_more_means n zero s k = k
  settle_more_means n (suc i) s k =
      after_then (Images n) (Images n) Q (settle_next r os s) (settle_more r os i) (by_override n s k (slice_get os (length s.settled)) refl) (settle_more_means n i)

  prepared_means : (n kind number : ℕ) (s : State) → Images n s → After (Images n) Q (prepared r os kind number s)
  prepared_means n kind number s k = go (eqb kind overriding) (eqb kind constant)
    where
      go : (a b : Bool) → After (Images n) Q (cond a (settle_more r os (number + 1 - length s.settled) s) (cond b (goes (map_constant number s)) (goes s)))
      go true b = settle_more_means n (number + 1 - length s.settled) s k
      go false true = k
      go false false = k

  -- ---- entries

  module _ (s : State) (e : Node) (there : slice_get es (length s.images) ≡ Some e) where
    abbrev h : ℕ
    h = length s.images

    abbrev next : NextEntry es s h
    next = record { next = refl; entry = e; there = there }

    by_fold : (xs : List Node) (answer : ℕ) → m s.tables (mapped s e) ≡ folds xs answer → (q : Option FullTable) → full r.tables s.tables.entries s.tables.kinds xs ≡ q → After (Images (h + 1)) Q (noted r (answers_unless q xs answer s))
    by_fold xs answer v None x =
        after_room (Images (h + 1)) h r.images 12 (with_tables (adding Const xs s.tables) s) _ (λ l. inr (inl (refl, l))) (length_push s.images answer)
    by_fold xs answer v (Some t) x = inr (inr (inr (xs, inr (next, answer, v), record { table = t; number = refl; first = x })))

    by_verdict : kind_mapped s e ≡ Const → (v : Verdict) → m s.tables (mapped s e) ≡ v → After (Images (h + 1)) Q (noted r (judged r v s))
    by_verdict c (folds xs answer) v = by_fold xs answer v (full r.tables s.tables.entries s.tables.kinds xs) refl
    by_verdict c declines v = record { at = next; is_const = c; verdict = inl (v, refl, refl) }
    by_verdict c (faults layer code) v = record { at = next; is_const = c; verdict = inr v }

    by_kind : (t : ExpressionKind) → kind_mapped s e ≡ t → After (Images (h + 1)) Q (noted r (asked_as t m r (mapped s e) s))
    by_kind Const c = by_verdict c (m s.tables (mapped s e)) refl
    by_kind Override c = record { at = next; not_const = λ d. apart (sym c ∙ d) }
      where
        apart : Override ≡ Const → ⊥
        apart q = cc
    by_kind Runtime c = record { at = next; not_const = λ d. apart (sym c ∙ d) }
      where
        apart : Runtime ≡ Const → ⊥
        apart q = cc

  one_means : (n : ℕ) (s : State) (e : Node) → Images n s → slice_get es n ≡ Some e → After (Images (n + 1)) Q (walk_one m r os e s)
  one_means n s e k there =
      after_then (Images n) (Images (n + 1)) Q (prepared r os e.kind _ s) (ask_mapped m r e) (prepared_means n e.kind _ s k)
      (λ t j. subst (λ (i : ℕ). After (Images (i + 1)) Q (ask_mapped m r e t)) j (by_kind t e (ap (slice_get es) j ∙ there) (kind_mapped t e) refl))

  -- the entries from n on
  walk_means : (n : ℕ) (xs : List Node) (s : State) → Images n s → ((j : ℕ) (e : Node) → slice_get xs j ≡ Some e → slice_get es (n + j) ≡ Some e) → After (λ _. Unit {0}) Q (walk m r os xs s)
  walk_means n [] s k rest = tt
  walk_means n (e ∷ xs) s k rest =
      let zeroed : n ≡ n + 0 = omega arith in
      after_then (Images (n + 1)) (λ _. Unit {0}) Q (walk_one m r os e s) (walk m r os xs) (one_means n s e k (ap (slice_get es) zeroed ∙ rest 0 e refl))
      (λ t j. walk_means (n + 1) xs t j (λ i x y. let one : n + 1 + i ≡ n + suc i = omega arith in ap (slice_get es) one ∙ rest (suc i) x y))

  pub walk_module_means : (cs : List NewConstant) → After (λ _. Unit {0}) Q (walk_module m r os es (begun cs))
  walk_module_means cs =
      after_then (λ _. Unit {0}) (λ _. Unit {0}) Q (walk_all m r os es (begun cs)) (λ f. goes (map_rest f))
      (after_then (λ _. Unit {0}) (λ _. Unit {0}) Q (walk m r os es (begun cs)) (settle_rest r os)
      (walk_means 0 es (begun cs) refl (λ j e y. let zeroed : 0 + j ≡ j = omega arith in ap (slice_get es) zeroed ∙ y))
      (λ t _. settled t))
      (λ _ _. tt)
    where
      trivial : (n : ℕ) (o : Outcome) → After (Images n) Q o → After (λ _. Unit {0}) Q o
      trivial n (goes s) k = tt
      trivial n (stops s code values) k = k

      settled : (t : State) → After (λ _. Unit {0}) Q (settle_rest r os t)
      settled t = trivial (length t.images) (settle_rest r os t) (settle_more_means (length t.images) (length os - length t.settled) t refl)
