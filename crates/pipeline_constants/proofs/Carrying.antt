-- What a settled module carries, by the rules that settle it.
use Rattle.std.proofs.Common.{◌≡◌, ℕ, zero, suc, ◌+◌, ◌-◌, ◌<◌, ◌≤◌, Bool, true, false, cond, eqb, leb, ltb, List, [], ◌∷◌, length, Some, None, Option, Ok, option_and_then, refl, sym, ap, ◌∙◌, subst, inl, inr, ⊎_elim, arith}
use Rattle.std.specs.List.{slice_get}
use Rattle.std.specs.Option.{option_map}
use Rattle.std.proofs.lemmas.Bool.{cases_lt, eqb-true, leb-false, ltb-true, ltb-false, false_from_ne_true}
use Rattle.std.proofs.lemmas.List.{length-map}
use Rattle.std.proofs.lemmas.Option.{none-some, same_Some, slice_get-map, slice_get_within, option_and_then_some, cond_some}
use Rattle.places.specs.declared.TableName.TheVariants.{GlobalEntries, VariableInits, Sizes as SizesTable}
use Rattle.refusals.specs.declared.Refusal.TheVariants.{Misshapen, OutOfRange}
use Rattle.arena.specs.Nodes.{Node, node}
use Rattle.ir.specs.declared.tables.Constant.{Constant}
use Rattle.ir.specs.declared.tables.Override.{Override}
use Rattle.ir.specs.declared.tables.Size.{Size}
use Rattle.ir.specs.declared.tables.Sizes.{Sizes}
use Rattle.ir.specs.Faults.{past}
use Rattle.ir.specs.Tables.{Global, sizes_of}
use Rattle.evaluator.specs.declared.tables.NewConstant.{NewConstant}
use Rattle.evaluator.specs.Trees.{Tree, leaf, tree_at, grown}
use Rattle.evaluator.specs.Clauses.{inits_of, reading_by}
use Rattle.layers.specs.declared.values.Value.{Value}
use Rattle.layers.specs.Values.{behind}
use Rattle.layers.specs.Wholes.{behind_tree}
use Rattle.walking.specs.declared.overrides.Valued.{Valued}
use Rattle.walking.specs.States.{State, Outcome, goes, stops}
use Rattle.walking.specs.Images.{image_of}
use Rattle.walking.specs.Laws.{Old, StandsFor, HoldsTree, KeepsTrees, old_trees, new_trees}
use Rattle.walking.specs.Accepted.{Accepted, ValuesOf, old_of_global}
use Rattle.walking.proofs.Steps.{get_there, image_is}
use Rattle.walking.proofs.Holding.{trees_of}
use Rattle.walking.proofs.Numbering.{Numbered}
use Rattle.pipeline_constants.specs.Contents.{Content, inits_in, init_or, init_taken, taken, taken_from, all_taken, variables_mapped, ended, copies, numbers}
use Rattle.pipeline_constants.specs.Sizings.{i32, u32, numbers_below, number_of, least_at, admitted, number_behind, size_by, size_at, Sizing, sized, unsized, refused_at, size_then, sizing}
use Rattle.pipeline_constants.specs.Settlings.{sized_as, after_walk}
use Rattle.pipeline_constants.specs.Endings.{Came}
use Rattle.pipeline_constants.specs.Carried.{tree_of_override, InitAs, OverrideAs, Counting, Measures, SizeBy, SizeAs, Carries}
use Rattle.pipeline_constants.proofs.Numbers.{numbers_count}
use Rattle.pipeline_constants.proofs.Taking.{taken_count}
use Rattle.pipeline_constants.proofs.SameTrees.{number_at}

-- ---- an accepted module

module _ (m : Global) (accepted : Accepted m) where
  pub entries_few : length m.entries ≤ 65536
  entries_few =
      ⊎_elim (λ (l : 65536 < length m.entries). absurd (accepted (Misshapen (record { table = GlobalEntries; index = 65536 })) (inl (refl, l))))
      (λ (l : length m.entries ≤ 65536). l) (cases_lt 65536 (length m.entries))

  variable_below : (v h : ℕ) → slice_get m.variables v ≡ Some (Some h) → h < length m.entries
  variable_below v h s =
      leb-false (length m.entries) h
      (false_from_ne_true (leb (length m.entries) h) (λ t. accepted (OutOfRange (record { table = VariableInits; index = v })) (Some h, s, t)))

  size_below : (at h : ℕ) (z : Size) → slice_get m.sizes at ≡ Some z → z.handle ≡ Some h → h < length m.entries
  size_below at h z s e =
      leb-false (length m.entries) h
      (false_from_ne_true (leb (length m.entries) h)
      (λ t. accepted (OutOfRange (record { table = SizesTable; index = at })) (z, s, ap (past (length m.entries)) e ∙ t)))

-- ---- images

module _ (o : Old) (s : State) (keeps : KeepsTrees o s) where
  image_stands : (h n : ℕ) → h < n → n ≡ length o.entries → n ≤ 65536 → StandsFor s (tree_at (old_trees o) h) (image_of s.images h)
  image_stands h n l e few =
      let g = get_there s.images h (omega (arith, l, e, keeps.every_handle)) in
      subst (StandsFor s (tree_at (old_trees o) h)) (sym (image_is s.images h g.0 g.1 (λ z. omega (arith, z, l, few)))) (keeps.images h g.0 g.1)

  -- ---- constants

  pub constants_carried : Numbered (length o.inits) s → (n : ℕ) (k : NewConstant) → slice_get (inits_in s) n ≡ Some k → (k.mapped ≡ true) × (k.init < length s.tables.entries)
  constants_carried number n k e = ⊎_elim (λ (l : n < length o.inits). of_module l) (λ (l : length o.inits ≤ n). of_override l) (cases_lt n (length o.inits))
    where
      held : (t : Tree) (c : ℕ) → c ≡ n → HoldsTree s t c → (k.mapped ≡ true) × (k.init < length s.tables.entries)
      held t c same h =
          let is : h.0 ≡ k = same_Some h.0 k (sym h.1 ∙ ap (slice_get (inits_in s)) same ∙ e) in
          subst (λ (x : NewConstant). (x.mapped ≡ true) × (x.init < length s.tables.entries)) is (h.2, h.3.0)

      of_module : n < length o.inits → (k.mapped ≡ true) × (k.init < length s.tables.entries)
      of_module l =
          let g = get_there o.inits n l in
          held (tree_at (old_trees o) g.0) n refl (keeps.constants n g.0 g.1)

      of_override : length o.inits ≤ n → (k.mapped ≡ true) × (k.init < length s.tables.entries)
      of_override l =
          let g = get_there s.settled (n - length o.inits) (omega (arith, l, number.count, slice_get_within (inits_in s) n k e)) in
          let same : g.0 ≡ n = omega (arith, l, number.each (n - length o.inits) g.0 g.1) in
          held (tree_of_override o (n - length o.inits)) g.0 same (keeps.overrides (n - length o.inits) g.0 g.1)

-- ---- overrides

taken_at : (cs : List NewConstant) (ss : List ℕ) (p q : ℕ) (os : List Override) (a b : Override) → slice_get os q ≡ Some a → slice_get (taken_from cs ss p os) q ≡ Some b → b ≡ taken cs ss (p + q) a
taken_at cs ss p q [] a b x y = absurd (none-some a x)
taken_at cs ss p zero (o ∷ os) a b x y =
    let here : p ≡ p + 0 = omega arith in
    sym (same_Some (taken cs ss p o) b y) ∙ ap (taken cs ss p) (same_Some o a x) ∙ ap (λ (k : ℕ). taken cs ss k a) here
taken_at cs ss p (suc q) (o ∷ os) a b x y =
    let next : p + 1 + q ≡ p + suc q = omega arith in
    taken_at cs ss (p + 1) q os a b x y ∙ ap (λ (k : ℕ). taken cs ss k a) next

module _ (o : Old) (s : State) (keeps : KeepsTrees o s) where
  override_carried : (p : ℕ) (os : List Override) (a b : Override) → length o.overrides ≡ length os → slice_get os p ≡ Some a → slice_get (all_taken s os) p ≡ Some b → OverrideAs o s p a b
  override_carried p os a b every x y =
      let zeroed : 0 + p ≡ p = omega arith in
      let is : b ≡ taken (inits_in s) s.settled p a = taken_at (inits_in s) s.settled 0 p os a b x y ∙ ap (λ (k : ℕ). taken (inits_in s) s.settled k a) zeroed in
      let g = get_there s.settled p (omega (arith, slice_get_within os p a x, every, keeps.every_override)) in
      let h = keeps.overrides p g.0 g.1 in
      let init : init_taken (inits_in s) s.settled p ≡ Some h.0.init =
      ap (option_and_then (λ (c : ℕ). option_map (λ (k : NewConstant). k.init) (slice_get (inits_in s) c))) g.1
      ∙ ap (option_map (λ (k : NewConstant). k.init)) h.1 in
      subst (OverrideAs o s p a) (sym is)
      (record { id = refl; name = refl; scalar = refl; init = h.0.init; there = ap (λ (i : Option ℕ). init_or i a.init) init; stands = h.3 })

-- ---- the number of a size

abbrev pub Admitted : ℕ → ℕ → Value → Type 0
Admitted least n v = (v.bits ≡ n) × (v.bits < numbers_below v.ty) × (least ≤ n)

pub admitted_is : (least n : ℕ) (v : Value) (i : ℕ) → number_of v ≡ Some i → admitted least i ≡ Some n → Admitted least n v
admitted_is least n v i p q =
    let is = cond_some (ltb v.bits (numbers_below v.ty)) v.bits i p in
    let fits = not_below (ltb i least) refl q in
    (is.1 ∙ fits.1, ltb-true _ _ is.0, omega (arith, fits.0, fits.1))
  where
    not_below : (b : Bool) → ltb i least ≡ b → cond b None (Some i) ≡ Some n → (least ≤ i) × (i ≡ n)
    not_below true x e = absurd (none-some n e)
    not_below false x e = (ltb-false _ _ x, same_Some i n e)

pub counting : (type bits : ℕ) → bits < numbers_below type → Counting type bits
counting type bits l = by (eqb type u32) refl (eqb type i32) refl l
  where
    by : (b : Bool) → eqb type u32 ≡ b → (c : Bool) → eqb type i32 ≡ c → bits < cond b 4294967296 (cond c 2147483648 0) → Counting type bits
    by true x c y l = inl (eqb-true _ _ x, omega (arith, l))
    by false x true y l = inr (eqb-true _ _ y, omega (arith, l))
    by false x false y l = absurd (omega (arith, l))

pub least_below : (at n : ℕ) → least_at at ≤ n → at < 3 → 0 < n
least_below at n l k = by (ltb at 3) refl l
  where
    by : (b : Bool) → ltb at 3 ≡ b → cond b 1 0 ≤ n → 0 < n
    by true x l = omega (arith, l)
    by false x l = absurd (omega (arith, k, ltb-false _ _ x))

-- ---- variables

module _ (m : Global) (os : List Valued) (accepted : Accepted m) (s : State) (keeps : KeepsTrees (old_of_global m os) s) where
  abbrev o : Old
  o = old_of_global m os

  every : length m.entries ≡ length o.entries
  every = sym (length-map m.entries (node m.operands))

  pub variable_carried : (v : ℕ) (a b : Option ℕ) → slice_get m.variables v ≡ Some a → slice_get (variables_mapped s.images m.variables) v ≡ Some b → InitAs o s a b
  variable_carried v a b x y =
      by a x (same_Some (option_map (image_of s.images) a) b (sym (ap (option_map (option_map (image_of s.images))) x) ∙ sym (slice_get-map (option_map (image_of s.images)) m.variables v) ∙ y))
    where
      by : (c : Option ℕ) → slice_get m.variables v ≡ Some c → option_map (image_of s.images) c ≡ b → InitAs o s c b
      by None x e = sym e
      by (Some h) x e =
          (image_of s.images h, sym e, image_stands o s keeps h (length m.entries) (variable_below m accepted v h x) every (entries_few m accepted))

  -- ---- sizes

  module _ (none : s.tables.constants.globals ≡ None) where
    new_trees_are : new_trees s ≡ trees_of s.tables
    new_trees_are = sym (ap (λ (g : Option (List Node)). grown (reading_by (inits_of s.tables.constants) g) [] s.tables.entries) none)

    behind_is : (h : ℕ) (v : Value) → behind s.tables h ≡ Some v → tree_at (new_trees s) h ≡ leaf v.ty v.bits
    behind_is h v e = ap (λ (ts : List Tree). tree_at ts h) new_trees_are ∙ behind_tree s.tables h v e

    measured : (at h n : ℕ) → h < length m.entries → number_behind s (least_at at) h ≡ Some n → Measures (tree_at (old_trees o) h) at n
    measured at h n l e =
        option_and_then_some (admitted (least_at at)) _ n e
        (λ i x q. option_and_then_some number_of _ i x (λ v there p. at_value v there (admitted_is (least_at at) n v i p q)))
      where
        at_value : (v : Value) → behind s.tables (image_of s.images h) ≡ Some v → Admitted (least_at at) n v → Measures (tree_at (old_trees o) h) at n
        at_value v there k =
            let stands = image_stands o s keeps h (length m.entries) l every (entries_few m accepted) in
            record {
              type = v.ty;
              is = sym stands.1 ∙ behind_is (image_of s.images h) v there ∙ ap (leaf v.ty) k.0;
              counts = subst (Counting v.ty) k.0 (counting v.ty v.bits k.1);
              above = least_below at n k.2;
            }

    size_is : (at : ℕ) (a b : Size) → slice_get m.sizes at ≡ Some a → size_at s (least_at at) a ≡ Some b.value → SizeBy o at a.handle a.value b.value
    size_is at a b x = by a.handle refl
      where
        by : (h : Option ℕ) → a.handle ≡ h → size_by s (least_at at) a.value h ≡ Some b.value → SizeBy o at h a.value b.value
        by None q e = sym (same_Some a.value b.value e)
        by (Some h) q e = measured at h b.value (size_below m accepted at h a x q) e

-- the sizes of a sizing, one by one
record SizedEach (s : State) (at : ℕ) (zs ys : List Size) : Type 0 where
  every : length ys ≡ length zs
  each : (k : ℕ) (a b : Size) → slice_get zs k ≡ Some a → slice_get ys k ≡ Some b → (size_at s (least_at (at + k)) a ≡ Some b.value) × (b.handle ≡ a.handle)

not_refused : {X : Type 0} (at : ℕ) (ys : List Size) → refused_at at ≡ sized ys → X
not_refused at ys e = by (ltb at 3) e
  where
    by : {X : Type 0} (b : Bool) → cond b (unsized 15 (at ∷ [])) (unsized 16 ((at - 3) ∷ [])) ≡ sized ys → X
    by true e = cc
    by false e = cc

sized_each : (s : State) (at : ℕ) (zs ys : List Size) → sizing s at zs ≡ sized ys → SizedEach s at zs ys
sized_each s at [] ys e =
    let is : [] ≡ ys = cc in
    subst (SizedEach s at []) is (record { every = refl; each = λ k a b x y. absurd (none-some a x) })
sized_each s at (z ∷ zs) ys e = by_size (size_at s (least_at at) z) refl (sizing s (at + 1) zs) (sized_each s (at + 1) zs) e
  where
    made : (n : ℕ) (rest : List Size) → size_at s (least_at at) z ≡ Some n → SizedEach s (at + 1) zs rest → SizedEach s at (z ∷ zs) (record { value = n; handle = z.handle } ∷ rest)
    made n rest q r = record { every = ap suc r.every; each = each }
      where
        each : (k : ℕ) (a b : Size) → slice_get (z ∷ zs) k ≡ Some a → slice_get (record { value = n; handle = z.handle } ∷ rest) k ≡ Some b → (size_at s (least_at (at + k)) a ≡ Some b.value) × (b.handle ≡ a.handle)
        each zero a b x y =
            let here : at ≡ at + 0 = omega arith in
            let first : z ≡ a = same_Some z a x in
            let now : record { value = n; handle = z.handle } ≡ b = same_Some _ b y in
            (ap (λ (i : ℕ). size_at s (least_at i) a) (sym here) ∙ ap (size_at s (least_at at)) (sym first) ∙ q ∙ ap (λ (c : Size). Some c.value) now, ap (λ (c : Size). c.handle) (sym now) ∙ ap (λ (c : Size). c.handle) first)
        each (suc k) a b x y =
            let next : at + 1 + k ≡ at + suc k = omega arith in
            subst (λ (i : ℕ). (size_at s (least_at i) a ≡ Some b.value) × (b.handle ≡ a.handle)) next (r.each k a b x y)

    by_size : (q : Option ℕ) → size_at s (least_at at) z ≡ q → (rest : Sizing) → ((xs : List Size) → rest ≡ sized xs → SizedEach s (at + 1) zs xs) → size_then at z q rest ≡ sized ys → SizedEach s at (z ∷ zs) ys
    by_size None q rest r e = not_refused at ys e
    by_size (Some n) q (unsized code values) r e = absurd cc
    by_size (Some n) q (sized rest) r e =
        let is : record { value = n; handle = z.handle } ∷ rest ≡ ys = cc in
        subst (SizedEach s at (z ∷ zs)) is (made n rest q (r rest refl))

-- where there is an override
size_as : (ps : List Override) (o : Old) (at : ℕ) (a b : Size) → 0 < length ps → b.handle ≡ a.handle → SizeBy o at a.handle a.value b.value → SizeAs ps o at a b
size_as [] o at a b l h v = absurd (omega (arith, l))
size_as (p ∷ ps) o at a b l h v = (h, v)

-- ---- a walk that went to its end

module _ (m : Global) (os : List Valued) (accepted : Accepted m) (values : ValuesOf m os) (some : 0 < length m.overrides) where
  ended_carries : (s : State) (zs : List Size) → KeepsTrees (old_of_global m os) s → Numbered (length m.constants) s → s.tables.constants.globals ≡ None → sizing s 0 m.sizes ≡ sized zs →
      Carries (old_of_global m os) m (ended m s) zs
  ended_carries s zs keeps number none e =
      let each = sized_each s 0 m.sizes zs e in
      record {
        every_variable = length-map m.variables (option_map (image_of s.images));
        variables = variable_carried m os accepted s keeps;
        every_override = taken_count (inits_in s) s.settled 0 m.overrides;
        overrides = λ p a b. override_carried (old_of_global m os) s keeps p m.overrides a b values.every;
        every_size = each.every;
        sizes = λ at a b x y.
            let z : 0 + at ≡ at = omega arith in
            let now = each.each at a b x y in
            size_as m.overrides (old_of_global m os) at a b some now.1
            (size_is m os accepted s keeps none at a b x (ap (λ (i : ℕ). size_at s (least_at i) a) (sym z) ∙ now.0));
        constants = constants_carried (old_of_global m os) s keeps (subst (λ (n : ℕ). Numbered n s) (sym (length-map m.constants (λ (c : Constant). c.init))) number);
      }

  -- d is what the tables hold
  pub came_carries : (w : Outcome) (d : Content) (z : Sizes) → ((s : State) → w ≡ goes s → Numbered (length m.constants) s) → KeepsTrees (old_of_global m os) d.walk → d.walk.tables.constants.globals ≡ None →
      Came (after_walk m w) d (Ok z) → Carries (old_of_global m os) m d (sizes_of z)
  came_carries (stops s code values) d z number keeps none c = absurd c
  came_carries (goes s) d z number keeps none c = by (sizing s 0 m.sizes) refl c
    where
      by : (q : Sizing) → sizing s 0 m.sizes ≡ q → Came (sized_as (ended m s) q) d (Ok z) → Carries (old_of_global m os) m d (sizes_of z)
      by (unsized code values) e c = absurd c
      by (sized zs) e c =
          let same : d.walk ≡ s = ap (λ (x : Content). x.walk) c.0 in
          subst (λ (x : Content). Carries (old_of_global m os) m x (sizes_of z)) (sym c.0)
          (subst (Carries (old_of_global m os) m (ended m s)) (sym c.1)
          (ended_carries s zs (subst (KeepsTrees (old_of_global m os)) same keeps) (number s refl) (ap (λ (x : State). x.tables.constants.globals) (sym same) ∙ none) e))

-- ---- a module without overrides

module _ (m : Global) (accepted : Accepted m) (bare : m.overrides ≡ []) (keeps : KeepsTrees (old_of_global m []) (copies m).walk) where
  abbrev old : Old
  old = old_of_global m []

  copy_stands : (h : ℕ) → h < length m.entries → StandsFor (copies m).walk (tree_at (old_trees old) h) h
  copy_stands h l =
      let g = get_there (numbers 0 (length m.entries)) h (omega (arith, l, numbers_count 0 (length m.entries))) in
      let is : g.0 ≡ h = omega (arith, (number_at 0 (length m.entries) h g.0 g.1).0) in
      subst (StandsFor (copies m).walk (tree_at (old_trees old) h)) is (keeps.images h g.0 g.1)

  variable_copied : (v : ℕ) (a b : Option ℕ) → slice_get m.variables v ≡ Some a → slice_get m.variables v ≡ Some b → InitAs old (copies m).walk a b
  variable_copied v a b x y = by a x (same_Some a b (sym x ∙ y))
    where
      by : (c : Option ℕ) → slice_get m.variables v ≡ Some c → c ≡ b → InitAs old (copies m).walk c b
      by None x e = sym e
      by (Some h) x e = (h, sym e, copy_stands h (variable_below m accepted v h x))

  abbrev made : Constant → NewConstant
  made c = record { init = c.init; mapped = true }

  numbered : Numbered (length old.inits) (copies m).walk
  numbered =
      record {
        count = omega (arith, length-map m.constants (λ (c : Constant). c.init), length-map m.constants (λ (c : Constant). made c));
        each = λ p c e. absurd (none-some c e);
      }

  pub copies_carry : Carries old m (copies m) m.sizes
  copies_carry =
      record {
        every_variable = refl;
        variables = variable_copied;
        every_override = ap length (sym bare);
        overrides = λ p a b x y. absurd (none-some b y);
        every_size = refl;
        sizes = λ at a b x y. subst (λ (ps : List Override). SizeAs ps old at a b) (sym bare) (sym (same_Some a b (sym x ∙ y)));
        constants = constants_carried old (copies m).walk keeps numbered;
      }
