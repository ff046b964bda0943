-- A settling that is refused once it has begun means what the refusal's row says.
use Rattle.std.proofs.Common.{◌≡◌, ℕ, zero, suc, ◌+◌, ◌-◌, ◌<◌, ◌≤◌, Bool, true, false, cond, eqb, ltb, MatchBool, List, [], ◌∷◌, Some, None, Option, Err, option_and_then, refl, sym, ap, ◌∙◌, subst, inl, inr, arith}
use Rattle.std.specs.List.{slice_get}
use Rattle.std.proofs.lemmas.Bool.{eqb-true, ltb-true, ltb-false, lt-ltb, le-ltb}
use Rattle.std.proofs.lemmas.Option.{none-some, same_Some, option_and_then_some}
use Rattle.arena.specs.Nodes.{nodes}
use Rattle.refusals.specs.declared.Refusal.{Refusal}
use Rattle.refusals.specs.declared.Refusal.TheVariants.{MalformedSettings, RepeatedKey, Misshapen, OutOfRange, NotOneBlock, NotFound, Nameless, MissingValue, SrcNeedsToBeFinite, DstRangeTooSmall, UnsupportedScalar, InitNotMapped, ConstantEvaluatorError, RuntimeExpr, NegativeWorkgroupSize, NegativeMeshOutputMax, Full}
use Rattle.refusals.specs.Codes.{code_of}
use Rattle.ir.specs.declared.tables.Override.{Override}
use Rattle.ir.specs.declared.tables.Size.{Size}
use Rattle.ir.specs.Tables.{Global}
use Rattle.evaluator.specs.Verdicts.{Meaning}
use Rattle.layers.specs.declared.values.Value.{Value}
use Rattle.layers.specs.Values.{behind}
use Rattle.walking.specs.declared.overrides.Valued.{Valued}
use Rattle.walking.specs.States.{State, Outcome, goes, stops}
use Rattle.walking.specs.Images.{image_of}
use Rattle.walking.specs.Stops.{OfOne, StopMeans}
use Rattle.walking.proofs.Stopping.{After, walk_module_means}
use Rattle.pipeline_constants.specs.Contents.{Content, new_constants, ended}
use Rattle.pipeline_constants.specs.Sizings.{numbers_below, number_of, least_at, admitted, number_behind, size_by, size_at, Sizing, sized, unsized, refused_at, size_then, sizing}
use Rattle.pipeline_constants.specs.Settlings.{Limits, sized_as, after_walk, walked, settled_by, settling}
use Rattle.pipeline_constants.specs.Endings.{Came}
use Rattle.pipeline_constants.specs.Carried.{Counting}
use Rattle.pipeline_constants.specs.Rows.{Gives, SizeMissing, RowOf}
use Rattle.pipeline_constants.proofs.Carrying.{Admitted, admitted_is, counting, least_below}

-- ---- by number

abbrev RowAt : Meaning → Limits → Global → List Valued → State → ℕ → List ℕ → Type 0
RowAt f r m os s code values =
    MatchBool (eqb code 15) (OfOne (SizeMissing s m.sizes) values)
    (MatchBool (eqb code 16) (OfOne (λ w. SizeMissing s m.sizes (3 + w)) values)
    (StopMeans f r.walk os (nodes m.entries m.operands) s code values))

module _ (f : Meaning) (r : Limits) (m : Global) (os : List Valued) (s : State) where
  row_of : (e : Refusal) → RowAt f r m os s (code_of e).0 (code_of e).1 → RowOf f r m os s e
  row_of MalformedSettings h = h
  row_of (RepeatedKey key) h = h
  row_of (Misshapen p) h = h
  row_of (OutOfRange p) h = h
  row_of (NotOneBlock record_at) h = h
  row_of (NotFound key) h = h
  row_of (Nameless o) h = h
  row_of (MissingValue o) h = h
  row_of (SrcNeedsToBeFinite o) h = h
  row_of (DstRangeTooSmall o) h = h
  row_of (UnsupportedScalar o) h = h
  row_of (InitNotMapped o) h = h
  row_of (ConstantEvaluatorError k layer code) h = h
  row_of (RuntimeExpr k) h = h
  row_of (NegativeWorkgroupSize axis) h = h
  row_of (NegativeMeshOutputMax which) h = h
  row_of (Full table) h = h

  -- by the number and the values
  row_coded : (e : Refusal) (code : ℕ) (values : List ℕ) → code_of e ≡ (code, values) → RowAt f r m os s code values → RowOf f r m os s e
  row_coded e code values c h = row_of e (subst (λ (q : ℕ × List ℕ). RowAt f r m os s q.0 q.1) (sym c) h)

  abbrev Stop : List ℕ → ℕ → Type 0
  Stop values c = StopMeans f r.walk os (nodes m.entries m.operands) s c values

  -- the numbers of sizes are no walk's
  row_stopped : (code : ℕ) (values : List ℕ) → StopMeans f r.walk os (nodes m.entries m.operands) s code values → RowAt f r m os s code values
  row_stopped code values h = by (eqb code 15) refl (eqb code 16) refl
    where
      by : (a : Bool) → eqb code 15 ≡ a → (b : Bool) → eqb code 16 ≡ b →
          MatchBool a (OfOne (SizeMissing s m.sizes) values) (MatchBool b (OfOne (λ w. SizeMissing s m.sizes (3 + w)) values) (Stop values code))
      by true x b y = absurd (subst (Stop values) (eqb-true _ _ x) h)
      by false x true y = absurd (subst (Stop values) (eqb-true _ _ y) h)
      by false x false y = h

-- ---- sizes

-- the size at k is the first without a number
record FirstUnsized (s : State) (at : ℕ) (zs : List Size) (k : ℕ) : Type 0 where
  size : Size
  there : slice_get zs k ≡ Some size
  none : size_at s (least_at (at + k)) size ≡ None
  earlier : (j : ℕ) (z : Size) → j < k → slice_get zs j ≡ Some z → (n : ℕ) × (size_at s (least_at (at + j)) z ≡ Some n)

abbrev Refusing : State → ℕ → List Size → Sizing → Type 0
Refusing s at zs r = (k : ℕ) × FirstUnsized s at zs k × (refused_at (at + k) ≡ r)

first_unsized : (s : State) (at : ℕ) (zs : List Size) (code : ℕ) (values : List ℕ) → sizing s at zs ≡ unsized code values → Refusing s at zs (unsized code values)
first_unsized s at [] code values e = absurd cc
first_unsized s at (z ∷ zs) code values e = by (size_at s (least_at at) z) refl (sizing s (at + 1) zs) (first_unsized s (at + 1) zs) e
  where
    zeroed : at + 0 ≡ at
    zeroed = omega arith

    later : (n k : ℕ) → size_at s (least_at at) z ≡ Some n → FirstUnsized s (at + 1) zs k → FirstUnsized s at (z ∷ zs) (suc k)
    later n k q u =
        let next : at + 1 + k ≡ at + suc k = omega arith in
        record { size = u.size; there = u.there; none = ap (λ (i : ℕ). size_at s (least_at i) u.size) (sym next) ∙ u.none; earlier = earlier }
      where
        earlier : (j : ℕ) (y : Size) → j < suc k → slice_get (z ∷ zs) j ≡ Some y → (i : ℕ) × (size_at s (least_at (at + j)) y ≡ Some i)
        earlier zero y l x = (n, ap (λ (i : ℕ). size_at s (least_at i) y) zeroed ∙ ap (size_at s (least_at at)) (sym (same_Some z y x)) ∙ q)
        earlier (suc j) y l x =
            let next : at + 1 + j ≡ at + suc j = omega arith in
            let h = u.earlier j y (omega (arith, l)) x in
            (h.0, ap (λ (i : ℕ). size_at s (least_at i) y) (sym next) ∙ h.1)

    by : (q : Option ℕ) → size_at s (least_at at) z ≡ q → (rest : Sizing) → ((c : ℕ) (vs : List ℕ) → rest ≡ unsized c vs → Refusing s (at + 1) zs (unsized c vs)) → size_then at z q rest ≡ unsized code values →
        Refusing s at (z ∷ zs) (unsized code values)
    by None q rest r e = (
      0,
      record { size = z; there = refl; none = ap (λ (i : ℕ). size_at s (least_at i) z) zeroed ∙ q; earlier = λ j y l x. absurd (omega (arith, l)) },
      ap refused_at zeroed ∙ e,
    )
    by (Some n) q (sized ys) r e = absurd cc
    by (Some n) q (unsized c vs) r e =
        let found = r c vs refl in
        let next : at + suc found.0 ≡ at + 1 + found.0 = omega arith in
        (suc found.0, later n found.0 q found.1, ap refused_at next ∙ found.2 ∙ e)

-- ---- in the words of their literals

module _ (s : State) (at h : ℕ) where
  -- a size that has its number
  gives : (n : ℕ) → number_behind s (least_at at) h ≡ Some n → (v : Value) × Gives s at h v
  gives n e =
      option_and_then_some (admitted (least_at at)) _ n e
      (λ i x q. option_and_then_some number_of _ i x (λ v there p. by v there (admitted_is (least_at at) n v i p q)))
    where
      by : (v : Value) → behind s.tables (image_of s.images h) ≡ Some v → Admitted (least_at at) n v → (v : Value) × Gives s at h v
      by v there k = (v, record { there = there; counts = counting v.ty v.bits k.1; above = λ l. omega (arith, k.0, least_below at n k.2 l) })

  counted_below : (type bits : ℕ) → Counting type bits → bits < numbers_below type
  counted_below type bits (inl c) = subst (λ (t : ℕ). bits < numbers_below t) (sym c.0) c.1
  counted_below type bits (inr c) = subst (λ (t : ℕ). bits < numbers_below t) (sym c.0) c.1

  least_held : (n : ℕ) → (at < 3 → 0 < n) → least_at at ≤ n
  least_held n above = by (ltb at 3) refl
    where
      by : (b : Bool) → ltb at 3 ≡ b → cond b 1 0 ≤ n
      by true x = omega (arith, above (ltb-true _ _ x))
      by false x = omega arith

  -- one whose literal may be a size has its number
  numbered : (v : Value) → Gives s at h v → number_behind s (least_at at) h ≡ Some v.bits
  numbered v g =
      ap (λ (o : Option Value). option_and_then (admitted (least_at at)) (option_and_then number_of o)) g.there
      ∙ ap (λ (b : Bool). option_and_then (admitted (least_at at)) (cond b (Some v.bits) None)) (lt-ltb v.bits (numbers_below v.ty) (counted_below v.ty v.bits g.counts))
      ∙ ap (λ (b : Bool). cond b None (Some v.bits)) (le-ltb v.bits (least_at at) (least_held v.bits g.above))

size_missing : (s : State) (zs : List Size) (k : ℕ) → FirstUnsized s 0 zs k → SizeMissing s zs k
size_missing s zs k u = by u.size.handle refl
  where
    zeroed : (j : ℕ) → 0 + j ≡ j
    zeroed j = omega arith

    none : size_at s (least_at k) u.size ≡ None
    none = ap (λ (i : ℕ). size_at s (least_at i) u.size) (sym (zeroed k)) ∙ u.none

    earlier : (j h : ℕ) (z : Size) → j < k → slice_get zs j ≡ Some z → z.handle ≡ Some h → (v : Value) × Gives s j h v
    earlier j h z l x e =
        let n = u.earlier j z l x in
        gives s j h n.0 (ap (size_by s (least_at j) z.value) (sym e) ∙ ap (λ (i : ℕ). size_at s (least_at i) z) (sym (zeroed j)) ∙ n.1)

    by : (h : Option ℕ) → u.size.handle ≡ h → SizeMissing s zs k
    by None e = absurd (none-some u.size.value (sym none ∙ ap (size_by s (least_at k) u.size.value) e))
    by (Some h) e =
        record {
          size = u.size;
          there = u.there;
          handle = h;
          has = e;
          none = λ v g. none-some v.bits (sym none ∙ ap (size_by s (least_at k) u.size.value) e ∙ numbered s k h v g);
          before = earlier;
        }

-- ---- a settling

module _ (f : Meaning) (r : Limits) (m : Global) (os : List Valued) where
  row_sized : (s : State) (e : Refusal) (k code : ℕ) (values : List ℕ) → SizeMissing s m.sizes k → refused_at k ≡ unsized code values → code_of e ≡ (code, values) → RowOf f r m os s e
  row_sized s e k code values u = by (ltb k 3) refl
    where
      by : (b : Bool) → ltb k 3 ≡ b → cond b (unsized 15 (k ∷ [])) (unsized 16 ((k - 3) ∷ [])) ≡ unsized code values → code_of e ≡ (code, values) → RowOf f r m os s e
      by true x q c =
          let number : 15 ≡ code = cc in
          let value : k ∷ [] ≡ values = cc in
          row_coded f r m os s e code values c (subst (λ (i : ℕ). RowAt f r m os s i values) number (subst (RowAt f r m os s 15) value u))
      by false x q c =
          let number : 16 ≡ code = cc in
          let value : (k - 3) ∷ [] ≡ values = cc in
          let place : k ≡ 3 + (k - 3) = omega (arith, ltb-false _ _ x) in
          row_coded f r m os s e code values c (subst (λ (i : ℕ). RowAt f r m os s i values) number (subst (RowAt f r m os s 16) value (subst (SizeMissing s m.sizes) place u)))

  row_of_sizes : (s : State) (c : Content) (e : Refusal) (q : Sizing) → sizing s 0 m.sizes ≡ q → Came (sized_as (ended m s) q) c (Err e) → RowOf f r m os c.walk e
  row_of_sizes s c e (sized zs) x h = absurd h
  row_of_sizes s c e (unsized code values) x h =
      let found = first_unsized s 0 m.sizes code values x in
      let zeroed : 0 + found.0 ≡ found.0 = omega arith in
      subst (λ (d : Content). RowOf f r m os d.walk e) (sym h.0)
      (row_sized s e found.0 code values (size_missing s m.sizes found.0 found.1) (ap refused_at (sym zeroed) ∙ found.2) h.1)

  row_of_walk : (o : Outcome) (c : Content) (e : Refusal) → After (λ _. Unit {0}) (StopMeans f r.walk os (nodes m.entries m.operands)) o → Came (after_walk m o) c (Err e) → RowOf f r m os c.walk e
  row_of_walk (goes s) c e w h = row_of_sizes s c e (sizing s 0 m.sizes) refl h
  row_of_walk (stops s code values) c e w h =
      subst (λ (d : Content). RowOf f r m os d.walk e) (sym h.0) (row_coded f r m os s e code values h.1 (row_stopped f r m os s code values w))

  row_by : (ps : List Override) (c : Content) (e : Refusal) → Came (settled_by ps f r m os) c (Err e) → RowOf f r m os c.walk e
  row_by [] c e h = absurd h
  row_by (p ∷ ps) c e h = row_of_walk (walked f r m os) c e (walk_module_means f r.walk os (nodes m.entries m.operands) (new_constants false m.constants)) h

  pub came_row : (c : Content) (e : Refusal) → Came (settling f r m os) c (Err e) → RowOf f r m os c.walk e
  came_row = row_by m.overrides
