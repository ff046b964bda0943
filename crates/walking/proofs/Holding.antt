-- What holds between the steps of a walk, and what keeps it: entries put at the end, an image noted, constants changed.
use Rattle.std.proofs.Common.{◌≡◌, ℕ, ◌+◌, ◌<◌, ◌≤◌, ◌⊎◌, true, false, List, [], ◌∷◌, ◌++◌, length, replicate, unwrap_or, Some, None, sym, ap, ◌∙◌, subst, inl, inr, ⊎_elim, arith}
use Rattle.std.specs.List.{slice_get}
use Rattle.std.proofs.lemmas.Bool.{cases_lt}
use Rattle.std.proofs.lemmas.List.{length_push, length-append, length-replicate}
use Rattle.std.proofs.lemmas.Option.{slice_get_within, same_Some}
use Rattle.arena.specs.Nodes.{Node}
use Rattle.rounding.specs.declared.literals.Literal.{Literal}
use Rattle.evaluator.specs.declared.expression_kind.ExpressionKind.{ExpressionKind}
use Rattle.evaluator.specs.declared.tables.NewConstant.{NewConstant}
use Rattle.evaluator.specs.Trees.{Tree, tree_at, tree_if}
use Rattle.evaluator.specs.Tables.{Tables, adding}
use Rattle.evaluator.specs.Clauses.{trees, Stands, WellFormed}
use Rattle.evaluator.proofs.Standing.{trees_stay, stand_append, get_left, get_pushed}
use Rattle.walking.specs.States.{State, with_tables, with_image, with_constants}
use Rattle.walking.specs.Laws.{Old, given_at, init_at, valued, old_trees}
use Rattle.walking.proofs.Extending.{Stays, with_list, stand_stays, trees_stay_as}

-- ---- what holds

abbrev pub trees_of : Tables → List Tree
trees_of t = trees t.constants t.entries

-- the entry at i is there, and has this tree
pub record Has (t : Tables) (tree : Tree) (i : ℕ) : Type 0 where
  pub within : i < length t.entries
  pub tree_is : tree_at (trees_of t) i ≡ tree

-- the tree of an override: its value's or its init's
abbrev pub override_tree : Old → ℕ → Tree
override_tree o p = unwrap_or ((valued o.overrides).given p) (tree_if (old_trees o) (init_at o.overrides p))

-- Constant n is unmapped, and its init the old one; or it is mapped, its init stands, and has the tree of the old init if there is one.
pub record Right (o : Old) (t : Tables) (n : ℕ) (k : NewConstant) : Type 0 where
  pub unmapped : k.mapped ≡ false → slice_get o.inits n ≡ Some k.init
  pub within : k.mapped ≡ true → k.init < length t.entries
  pub tree_is : k.mapped ≡ true → (i : ℕ) → slice_get o.inits n ≡ Some i → tree_at (trees_of t) k.init ≡ tree_at (old_trees o) i

-- the value is given, or the init is one of the first n entries
abbrev pub Known : Old → ℕ → ℕ → Type 0
Known o n p = ((l : Literal) × (given_at o.overrides p ≡ Some l)) ⊎ ((i : ℕ) × (init_at o.overrides p ≡ Some i) × (i < n))

-- Constant c is mapped, and has this tree.
pub record Resolved (t : Tables) (tree : Tree) (c : ℕ) : Type 0 where
  pub constant : NewConstant
  pub there : slice_get t.constants.list c ≡ Some constant
  pub mapped : constant.mapped ≡ true
  pub within : constant.init < length t.entries
  pub tree_is : tree_at (trees_of t) constant.init ≡ tree

-- Override p was settled to constant c, while so many entries had their images.
pub record Settles (o : Old) (t : Tables) (n p c : ℕ) : Type 0 where
  pub resolved : Resolved t (override_tree o p) c
  pub known : Known o n p

-- What holds between steps: the tables are a module's and well formed; each image has its handle's tree; each old constant is still there,
-- and right; each settled override's constant has the override's tree; and no entry and no image is at the absent handle.
pub record Holds (o : Old) (s : State) : Type 0 where
  pub none : s.tables.constants.globals ≡ None
  pub formed : WellFormed s.tables
  pub images : (h i : ℕ) → slice_get s.images h ≡ Some i → Has s.tables (tree_at (old_trees o) h) i
  pub many : length o.inits ≤ length s.tables.constants.list
  pub constants : (n : ℕ) (k : NewConstant) → slice_get s.tables.constants.list n ≡ Some k → Right o s.tables n k
  pub settles : (p c : ℕ) → slice_get s.settled p ≡ Some c → Settles o s.tables (length s.images) p c
  pub most : length s.settled ≤ length o.overrides
  pub small : length s.tables.entries ≤ 4294967295
  pub few : length s.images ≤ 4294967295

-- ---- lists with an item put at their end

-- what is true of each item, and of the one put at the end
pub each_pushed : {X : Type 0} (P : ℕ → X → Type 0) (xs : List X) (x : X) → ((n : ℕ) (y : X) → slice_get xs n ≡ Some y → P n y) → P (length xs) x → (n : ℕ) (y : X) → slice_get (xs ++ x ∷ []) n ≡ Some y → P n y
each_pushed P xs x old new n y s = ⊎_elim (λ (l : n < length xs). old n y (sym (get_left xs (x ∷ []) n l) ∙ s)) (λ (l : length xs ≤ n). last l) (cases_lt n (length xs))
  where
    last : length xs ≤ n → P n y
    last l =
        let e : length xs ≡ n = omega (arith, l, slice_get_within (xs ++ x ∷ []) n y s, length_push xs x) in
        let q : x ≡ y = same_Some x y (sym (get_pushed xs x) ∙ ap (slice_get (xs ++ x ∷ [])) e ∙ s) in
        subst (λ m. P m y) e (subst (P (length xs)) q new)

pub known_more : (o : Old) (n m p : ℕ) → n ≤ m → Known o n p → Known o m p
known_more o n m p l (inl x) = inl x
known_more o n m p l (inr x) = inr (x.0, x.1, omega (arith, l, x.2))

-- ---- entries put at the end

pub has_more : (t : Tables) (es : List Node) (k : ExpressionKind) (tree : Tree) (i : ℕ) → Has t tree i → Has (adding k es t) tree i
has_more t es k tree i h = record { within = omega (arith, h.within, length-append t.entries es); tree_is = trees_stay t.constants t.entries es i h.within ∙ h.tree_is }

right_more : (o : Old) (t : Tables) (es : List Node) (k : ExpressionKind) (n : ℕ) (c : NewConstant) → Right o t n c → Right o (adding k es t) n c
right_more o t es k n c r =
    record {
      unmapped = r.unmapped;
      within = λ m. omega (arith, r.within m, length-append t.entries es);
      tree_is = λ m i s. trees_stay t.constants t.entries es c.init (r.within m) ∙ r.tree_is m i s;
    }

resolved_more : (t : Tables) (es : List Node) (k : ExpressionKind) (tree : Tree) (c : ℕ) → Resolved t tree c → Resolved (adding k es t) tree c
resolved_more t es k tree c r =
    record {
      constant = r.constant;
      there = r.there;
      mapped = r.mapped;
      within = omega (arith, r.within, length-append t.entries es);
      tree_is = trees_stay t.constants t.entries es r.constant.init r.within ∙ r.tree_is;
    }

pub formed_more : (t : Tables) (es : List Node) (k : ExpressionKind) → WellFormed t → ((i : ℕ) (e : Node) → slice_get es i ≡ Some e → Stands t.constants (length t.entries + i) e) → WellFormed (adding k es t)
formed_more t es k w st =
    record {
      stand = stand_append t.constants t.entries es w.stand st;
      even = omega (arith, w.even, length-append t.kinds (replicate (length es) k), length-replicate (length es) k, length-append t.entries es);
    }

pub holds_more : (o : Old) (s : State) (es : List Node) (k : ExpressionKind) → Holds o s → ((i : ℕ) (e : Node) → slice_get es i ≡ Some e → Stands s.tables.constants (length s.tables.entries + i) e) →
    length (s.tables.entries ++ es) ≤ 4294967295 → Holds o (with_tables (adding k es s.tables) s)
holds_more o s es k h st l =
    record {
      none = h.none;
      formed = formed_more s.tables es k h.formed st;
      images = λ j i x. has_more s.tables es k (tree_at (old_trees o) j) i (h.images j i x);
      many = h.many;
      constants = λ n c x. right_more o s.tables es k n c (h.constants n c x);
      settles = λ p c x. let q = h.settles p c x in record { resolved = resolved_more s.tables es k (override_tree o p) c q.resolved; known = q.known };
      most = h.most;
      small = l;
      few = h.few;
    }

-- ---- an image is noted

pub holds_image : (o : Old) (s : State) (a : ℕ) → Holds o s → length s.images < 4294967295 → Has s.tables (tree_at (old_trees o) (length s.images)) a → Holds o (with_image a s)
holds_image o s a h l x =
    record {
      none = h.none;
      formed = h.formed;
      images = each_pushed (λ j i. Has s.tables (tree_at (old_trees o) j) i) s.images a h.images x;
      many = h.many;
      constants = h.constants;
      settles = λ p c y. let q = h.settles p c y in
          record { resolved = q.resolved; known = known_more o (length s.images) (length (s.images ++ a ∷ [])) p (omega (arith, length_push s.images a)) q.known };
      most = h.most;
      small = h.small;
      few = omega (arith, l, length_push s.images a);
    }

-- ---- constants change where nothing names them

-- the tables with these constants
abbrev pub listing : Tables → List NewConstant → Tables
listing t ds = record { entries = t.entries; kinds = t.kinds; constants = with_list t.constants ds }

module _ (t : Tables) (ds : List NewConstant) (none : t.constants.globals ≡ None) (w : WellFormed t) (x : Stays t.constants.list ds) where
  pub trees_listing : trees_of (listing t ds) ≡ trees_of t
  trees_listing = trees_stay_as t.constants ds t.entries none x w.stand

  pub tree_listing : (i : ℕ) → tree_at (trees_of (listing t ds)) i ≡ tree_at (trees_of t) i
  tree_listing i = ap (λ ts. tree_at ts i) trees_listing

  pub formed_listing : WellFormed (listing t ds)
  formed_listing = record { stand = λ k e s. stand_stays t.constants ds k e x (w.stand k e s); even = w.even }

  pub has_listing : (tree : Tree) (i : ℕ) → Has t tree i → Has (listing t ds) tree i
  has_listing tree i h = record { within = h.within; tree_is = tree_listing i ∙ h.tree_is }

  right_listing : (o : Old) (n : ℕ) (k : NewConstant) → Right o t n k → Right o (listing t ds) n k
  right_listing o n k r = record { unmapped = r.unmapped; within = r.within; tree_is = λ m i s. tree_listing k.init ∙ r.tree_is m i s }

  resolved_listing : (tree : Tree) (c : ℕ) → Resolved t tree c → Resolved (listing t ds) tree c
  resolved_listing tree c r =
      record { constant = r.constant; there = x.stays c r.constant r.there r.mapped; mapped = r.mapped; within = r.within; tree_is = tree_listing r.constant.init ∙ r.tree_is }

pub holds_constants : (o : Old) (s : State) (ds : List NewConstant) → Holds o s → Stays s.tables.constants.list ds → length o.inits ≤ length ds →
    ((n : ℕ) (k : NewConstant) → slice_get ds n ≡ Some k → Right o s.tables n k) → Holds o (with_constants ds s)
holds_constants o s ds h x many right =
    record {
      none = h.none;
      formed = formed_listing s.tables ds h.none h.formed x;
      images = λ j i y. has_listing s.tables ds h.none h.formed x (tree_at (old_trees o) j) i (h.images j i y);
      many = many;
      constants = λ n k y. right_listing s.tables ds h.none h.formed x o n k (right n k y);
      settles = λ p c y. let q = h.settles p c y in record { resolved = resolved_listing s.tables ds h.none h.formed x (override_tree o p) c q.resolved; known = q.known };
      most = h.most;
      small = h.small;
      few = h.few;
    }
