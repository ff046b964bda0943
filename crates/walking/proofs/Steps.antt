-- The steps of a walk that change constants: one is mapped, an override is settled.
use Rattle.std.proofs.Common.{◌≡◌, ℕ, zero, suc, ◌+◌, ◌<◌, ◌≤◌, Bool, true, false, cond, eqb, nat_lt, List, [], ◌∷◌, ◌++◌, length, set, unwrap_or, Some, None, Option, sym, refl, ap, ◌∙◌, subst, ⊎_elim, arith}
use Rattle.std.specs.List.{slice_get}
use Rattle.std.proofs.lemmas.Bool.{cases_eq, true≢false, eqb-true, ltb-true, ltb-false}
use Rattle.std.proofs.lemmas.List.{length-append, length-set}
use Rattle.std.proofs.lemmas.Option.{slice_get_within, same_Some, none-some}
use Rattle.arena.specs.Nodes.{Node}
use Rattle.operands.specs.Faults.{absent}
use Rattle.evaluator.specs.declared.expression_kind.ExpressionKind.{ExpressionKind}
use Rattle.evaluator.specs.declared.tables.FullTable.{FullTable}
use Rattle.evaluator.specs.declared.tables.FullTable.TheVariants.{Entries}
use Rattle.evaluator.specs.declared.tables.NewConstant.{NewConstant}
use Rattle.evaluator.specs.Trees.{tree_at}
use Rattle.evaluator.specs.Tables.{Constants, Tables, full, adding}
use Rattle.evaluator.specs.Tables
use Rattle.walking.specs.States.{Room, State, Outcome, goes, stops, then, if_room, no_room, add, add_unless, with_tables, with_constants}
use Rattle.walking.specs.Images.{image_of, init_if, map_if, map_constant}
use Rattle.walking.specs.Laws.{Old, old_trees}
use Rattle.walking.proofs.Extending.{Stays}
use Rattle.walking.proofs.Holding.{Right, Holds, holds_constants}

-- ---- outcomes that go on

pub never : {X : Type 0} (s f : State) (code : ℕ) (values : List ℕ) → stops s code values ≡ goes f → X
never s f code values e = cc

pub same_goes : (s f : State) → goes s ≡ goes f → s ≡ f
same_goes s f e = cc

-- the state between two steps
pub record Between (o : Outcome) (k : State → Outcome) (f : State) : Type 0 where
  pub mid : State
  pub first : o ≡ goes mid
  pub second : k mid ≡ goes f

pub then_goes : (o : Outcome) (k : State → Outcome) (f : State) → then o k ≡ goes f → Between o k f
then_goes (goes s) k f e = record { mid = s; first = refl; second = e }
then_goes (stops s code values) k f e = never s f code values e

pub room_goes : (held limit table : ℕ) (s : State) (o : Outcome) (f : State) → if_room held limit table s o ≡ goes f → (held < limit) × (o ≡ goes f)
room_goes held limit table s o f = go (nat_lt held limit) refl
  where
    go : (b : Bool) → nat_lt held limit ≡ b → cond b o (no_room s table) ≡ goes f → (held < limit) × (o ≡ goes f)
    go true x e = (ltb-true _ _ x, e)
    go false x e = never s f 17 (table ∷ []) e

-- entries that have room
pub full_none : (r : Tables.Room) (es : List Node) (ks : List ExpressionKind) (fs : List Node) → full r es ks fs ≡ None → length (es ++ fs) ≤ r.entries
full_none r es ks fs = go (nat_lt r.entries (length es + length fs)) refl _
  where
    go : (b : Bool) → nat_lt r.entries (length es + length fs) ≡ b → (rest : Option FullTable) → cond b (Some Entries) rest ≡ None → length (es ++ fs) ≤ r.entries
    go true x rest e = absurd (none-some Entries (sym e))
    go false x rest e = omega (arith, ltb-false _ _ x, length-append es fs)

pub record Added (r : Room) (k : ExpressionKind) (es : List Node) (s f : State) : Type 0 where
  pub is : with_tables (adding k es s.tables) s ≡ f
  pub fits : length (s.tables.entries ++ es) ≤ r.tables.entries

pub add_goes : (r : Room) (k : ExpressionKind) (es : List Node) (s f : State) → add r k es s ≡ goes f → Added r k es s f
add_goes r k es s f = go (full r.tables s.tables.entries s.tables.kinds es) refl
  where
    go : (q : Option FullTable) → full r.tables s.tables.entries s.tables.kinds es ≡ q → add_unless q k es s ≡ goes f → Added r k es s f
    go None x e = record { is = same_goes (with_tables (adding k es s.tables) s) f e; fits = full_none r.tables s.tables.entries s.tables.kinds es x }
    go (Some t) x e = never _ _ _ _ e

-- ---- lists

pub get_there : {X : Type 0} (xs : List X) (i : ℕ) → i < length xs → (x : X) × (slice_get xs i ≡ Some x)
get_there [] i l = absurd (omega (arith, l))
get_there (x ∷ xs) zero l = (x, refl)
get_there (x ∷ xs) (suc i) l = get_there xs i (omega (arith, l))

pub get_set_same : {X : Type 0} (xs : List X) (i : ℕ) (x : X) → i < length xs → slice_get (set xs i x) i ≡ Some x
get_set_same [] i x l = absurd (omega (arith, l))
get_set_same (y ∷ xs) zero x l = refl
get_set_same (y ∷ xs) (suc i) x l = get_set_same xs i x (omega (arith, l))

pub get_set_other : {X : Type 0} (xs : List X) (i n : ℕ) (x : X) → (n ≡ i → ⊥) → slice_get (set xs i x) n ≡ slice_get xs n
get_set_other [] i n x ne = refl
get_set_other (y ∷ xs) zero zero x ne = absurd (ne refl)
get_set_other (y ∷ xs) zero (suc n) x ne = refl
get_set_other (y ∷ xs) (suc i) zero x ne = refl
get_set_other (y ∷ xs) (suc i) (suc n) x ne = get_set_other xs i n x (λ e. ne (ap suc e))

-- ---- a constant is mapped

pub image_is : (images : List ℕ) (i j : ℕ) → slice_get images i ≡ Some j → (i ≡ absent → ⊥) → image_of images i ≡ j
image_is images i j s ne = go (eqb i absent) refl
  where
    go : (b : Bool) → eqb i absent ≡ b → cond b absent (unwrap_or (slice_get images i) absent) ≡ j
    go true x = absurd (ne (eqb-true _ _ x))
    go false x = ap (λ q. unwrap_or q absent) s

-- what mapping constant c leaves
pub record MapsOne (o : Old) (c : ℕ) (s f : State) : Type 0 where
  pub holds : Holds o f
  pub images : f.images ≡ s.images
  pub settled : f.settled ≡ s.settled
  pub count : length f.tables.constants.list ≡ length s.tables.constants.list
  pub now : (k : NewConstant) → slice_get f.tables.constants.list c ≡ Some k → k.mapped ≡ true
  pub stays : Stays s.tables.constants.list f.tables.constants.list

maps_nothing : (o : Old) (c : ℕ) (s : State) → Holds o s → ((k : NewConstant) → slice_get s.tables.constants.list c ≡ Some k → k.mapped ≡ true) → MapsOne o c s s
maps_nothing o c s h now = record { holds = h; images = refl; settled = refl; count = refl; now = now; stays = record { stays = λ n k x m. x } }

module _ (o : Old) (c : ℕ) (s : State) (h : Holds o s) (k : NewConstant) (there : slice_get s.tables.constants.list c ≡ Some k) (m : k.mapped ≡ false) (j : ℕ)
    (image : slice_get s.images k.init ≡ Some j) where
  abbrev new : NewConstant
  new = record { init = j; mapped = true }

  abbrev cs : List NewConstant
  cs = s.tables.constants.list

  inside : c < length cs
  inside = slice_get_within cs c k there

  old_init : slice_get o.inits c ≡ Some k.init
  old_init = (h.constants c k there).unmapped m

  new_is : (l : NewConstant) → slice_get (set cs c new) c ≡ Some l → new ≡ l
  new_is l y = same_Some new l (sym (get_set_same cs c new inside) ∙ y)

  keeps : (n : ℕ) (l : NewConstant) → slice_get cs n ≡ Some l → l.mapped ≡ true → slice_get (set cs c new) n ≡ Some l
  keeps n l y t = get_set_other cs c n new (λ e. away e) ∙ y
    where
      away : n ≡ c → ⊥
      away e =
          let q : l ≡ k = same_Some l k (sym y ∙ ap (slice_get cs) e ∙ there) in
          true≢false (sym t ∙ ap (λ (x : NewConstant). x.mapped) q ∙ m)

  new_right : Right o s.tables c new
  new_right =
      record {
        unmapped = λ f. absurd (true≢false f);
        within = λ _. (h.images k.init j image).within;
        tree_is = λ _ i y. (h.images k.init j image).tree_is ∙ ap (tree_at (old_trees o)) (same_Some k.init i (sym old_init ∙ y));
      }

  right : (n : ℕ) (l : NewConstant) → slice_get (set cs c new) n ≡ Some l → Right o s.tables n l
  right n l y = ⊎_elim (λ (e : n ≡ c). here e) (λ (ne : n ≡ c → ⊥). h.constants n l (sym (get_set_other cs c n new ne) ∙ y)) (cases_eq n c)
    where
      here : n ≡ c → Right o s.tables n l
      here e = subst (λ x. Right o s.tables x l) (sym e) (subst (Right o s.tables c) (new_is l (ap (slice_get (set cs c new)) (sym e) ∙ y)) new_right)

  maps_one : MapsOne o c s (with_constants (set cs c new) s)
  maps_one =
      record {
        holds = holds_constants o s (set cs c new) h (record { stays = keeps }) (omega (arith, h.many, length-set cs c new)) right;
        images = refl;
        settled = refl;
        count = length-set cs c new;
        now = λ l y. ap (λ (x : NewConstant). x.mapped) (sym (new_is l y));
        stays = record { stays = keeps };
      }

pub map_constant_holds : (o : Old) (c : ℕ) (s : State) → Holds o s → ((i : ℕ) → slice_get o.inits c ≡ Some i → i < length s.images) → MapsOne o c s (map_constant c s)
map_constant_holds o c s h ready = go (slice_get s.tables.constants.list c) refl
  where
    mapping : (k : NewConstant) → slice_get s.tables.constants.list c ≡ Some k → (b : Bool) → k.mapped ≡ b → MapsOne o c s (with_constants (map_if s.images s.tables.constants.list c (cond b None (Some k.init))) s)
    mapping k y true m = maps_nothing o c s h (λ l z. ap (λ (x : NewConstant). x.mapped) (same_Some l k (sym z ∙ y)) ∙ m)
    mapping k y false m =
        let r : k.init < length s.images = ready k.init ((h.constants c k y).unmapped m) in
        let g = get_there s.images k.init r in
        let e : image_of s.images k.init ≡ g.0 = image_is s.images k.init g.0 g.1 (λ z. omega (arith, z, r, h.few)) in
        subst (λ j. MapsOne o c s (with_constants (set s.tables.constants.list c (record { init = j; mapped = true })) s)) (sym e) (maps_one o c s h k y m g.0 g.1)

    go : (q : Option NewConstant) → slice_get s.tables.constants.list c ≡ q → MapsOne o c s (with_constants (map_if s.images s.tables.constants.list c (init_if q)) s)
    go None y = maps_nothing o c s h (λ l z. absurd (none-some l (sym y ∙ z)))
    go (Some k) y = mapping k y k.mapped refl
