-- An old entry that is mapped may stand next, with the old entry's tree.
use Rattle.std.proofs.Common.{drop, ◌≡◌, ℕ, ◌<◌, ◌≤◌, ◌⊎◌, Bool, true, false, cond, eqb, All, List, [], ◌∷◌, length, take, unwrap_or, Some, None, Option, sym, refl, ap, ◌∙◌, subst, inl, inr, arith}
use Rattle.std.specs.List.{slice_get}
use Rattle.std.specs.Option.{option_map}
use Rattle.std.proofs.lemmas.Bool.{eqb-true, eqb-false, ne_eqb}
use Rattle.std.proofs.lemmas.List.{length-map}
use Rattle.std.proofs.lemmas.List.Elements.{All-head, All-tail, All-map, All-weaker}
use Rattle.std.proofs.lemmas.Option.{slice_get_within, slice_get-map, get_or_from_slice_get, same_Some, none-some}
use Rattle.arena.specs.Nodes.{Node}
use Rattle.operands.specs.Faults.{absent, needed}
use Rattle.ir.specs.Faults.{constant, overriding}
use Rattle.kinds.specs.Kinds.{Row, expressions, admitted}
use Rattle.evaluator.specs.Trees.{Tree, Trees, gap, arg, Reading, tree_at, tree_if, args_of, tree_of, grown, word, reading_over}
use Rattle.evaluator.specs.Tables.{Constants, Tables}
use Rattle.evaluator.specs.Clauses.{reading, tree_next, Shaped, Below, reach, Named, Stands}
use Rattle.evaluator.proofs.Growing.{tree_with, tree_same, tree_below, tree_there}
use Rattle.evaluator.proofs.Standing.{operand_is}
use Rattle.walking.specs.States.{State}
use Rattle.walking.specs.Images.{image_of, images_of, mapped}
use Rattle.walking.specs.Laws.{Old, Checked, init_at, leaf_if, valued, old_trees}
use Rattle.walking.proofs.Extending.{constant_is}
use Rattle.walking.proofs.Holding.{trees_of, Has, Known, Resolved, Holds, override_tree}
use Rattle.walking.proofs.Steps.{get_there, image_is}

-- ---- operands at their images

-- the image of the operand at h is there, with the operand's tree
abbrev pub Follows : (ℕ → Tree) → (ℕ → Tree) → List ℕ → ℕ → Type 0
Follows look was images h = (h ≡ absent) ⊎ ((j : ℕ) × (slice_get images h ≡ Some j) × (j ≡ absent → ⊥) × (look j ≡ was h))

arg_mapped : (look was : ℕ → Tree) (images : List ℕ) (h : ℕ) (ts us : Trees) → Follows look was images h → ts ≡ us →
    cond (eqb (image_of images h) absent) (gap ts) (arg (look (image_of images h)) ts) ≡ cond (eqb h absent) (gap us) (arg (was h) us)
arg_mapped look was images h ts us f e = go (eqb h absent) refl f
  where
    go : (b : Bool) → eqb h absent ≡ b → Follows look was images h →
        cond (eqb (cond b absent (unwrap_or (slice_get images h) absent)) absent) (gap ts) (arg (look (cond b absent (unwrap_or (slice_get images h) absent))) ts) ≡ cond b (gap us) (arg (was h) us)
    go true x f = ap gap e
    go false x (inl a) = absurd (eqb-false _ _ x a)
    go false x (inr f) =
        ap (λ q. cond (eqb (unwrap_or q absent) absent) (gap ts) (arg (look (unwrap_or q absent)) ts)) f.1
        ∙ ap (λ b. cond b (gap ts) (arg (look f.0) ts)) (ne_eqb f.0 absent f.2)
        ∙ ap (λ t. arg t ts) f.3
        ∙ ap (arg (was h)) e

pub args_mapped : (look was : ℕ → Tree) (images hs : List ℕ) → All (Follows look was images) hs → args_of look (images_of images hs) ≡ args_of was hs
args_mapped look was images [] all = refl
args_mapped look was images (h ∷ hs) all =
    arg_mapped look was images h _ _ (All-head (Follows look was images) h hs all) (args_mapped look was images hs (All-tail (Follows look was images) h hs all))

module _ (images : List ℕ) (n : ℕ) (im : (h i : ℕ) → slice_get images h ≡ Some i → i < n) (small : n ≤ 4294967295) where
  image_below : (h : ℕ) → Below (length images) h → Below n (image_of images h)
  image_below h b = go (eqb h absent) refl b
    where
      go : (s : Bool) → eqb h absent ≡ s → Below (length images) h → Below n (cond s absent (unwrap_or (slice_get images h) absent))
      go true x b = inl refl
      go false x (inl a) = absurd (eqb-false _ _ x a)
      go false x (inr l) = let g = get_there images h l in inr (subst (λ q. unwrap_or q absent < n) (sym g.1) (im h g.0 g.1))

  pub images_below : (hs : List ℕ) → All (Below (length images)) hs → All (Below n) (images_of images hs)
  images_below hs all = All-map (Below n) (image_of images) hs (All-weaker (Below (length images)) (λ h. Below n (image_of images h)) image_below hs all)

  absent_was : (h : ℕ) → Below (length images) h → image_of images h ≡ absent → h ≡ absent
  absent_was h (inl a) e = a
  absent_was h (inr l) e = go (eqb h absent) refl
    where
      go : (b : Bool) → eqb h absent ≡ b → h ≡ absent
      go true x = eqb-true _ _ x
      go false x =
          let g = get_there images h l in
          let q : image_of images h ≡ g.0 = image_is images h g.0 g.1 (eqb-false _ _ x) in
          absurd (omega (arith, q, e, im h g.0 g.1, small))

  there_mapped : (row : Row) (hs : List ℕ) → All (Below (length images)) hs → ((s : ℕ) → slice_get hs s ≡ Some absent → needed (Some row) (length hs) s ≡ false) →
      (s : ℕ) → slice_get (images_of images hs) s ≡ Some absent → needed (Some row) (length (images_of images hs)) s ≡ false
  there_mapped row hs all there s e = ap (λ l. needed (Some row) l s) (length-map hs (image_of images)) ∙ there s (go (slice_get hs s) refl (sym (slice_get-map (image_of images) hs s) ∙ e))
    where
      go : (q : Option ℕ) → slice_get hs s ≡ q → option_map (image_of images) q ≡ Some absent → slice_get hs s ≡ Some absent
      go None y z = absurd (none-some _ z)
      go (Some h) y z =
          let below : Below (length images) h = subst (Below (length images)) (get_or_from_slice_get hs s h h y) (all s h (slice_get_within hs s h y)) in
          y ∙ ap Some (absent_was h below (same_Some _ _ z))

-- ---- shapes

-- an Override's operands are as a Constant's
known_now : (b : Bool) (kind : ℕ) (row : Row) → eqb kind overriding ≡ b → slice_get expressions kind ≡ Some row → slice_get expressions (cond b constant kind) ≡ Some row
known_now true kind row x e = ap (slice_get expressions) (sym (eqb-true _ _ x)) ∙ e
known_now false kind row x e = e

-- ---- the entry

override_read : (r : Reading) (e : Node) → e.kind ≡ overriding → tree_of r e ≡ r.override_at (word e 0)
unfolding tree_of
override_read r e k = ap (λ x. tree_with x e.words (args_of r.operand e.operands) (r.constant_at (word e 0)) (r.override_at (word e 0))) k

constant_read : (r : Reading) (e : Node) → e.kind ≡ constant → tree_of r e ≡ r.constant_at (word e 0)
unfolding tree_of
constant_read r e k = ap (λ x. tree_with x e.words (args_of r.operand e.operands) (r.constant_at (word e 0)) (r.override_at (word e 0))) k

-- e mapped may stand next, and has this tree
pub record Stood (s : State) (e : Node) (tree : Tree) : Type 0 where
  pub stands : Stands s.tables.constants (length s.tables.entries) (mapped s e)
  pub tree_is : tree_next s.tables (mapped s e) ≡ tree

-- an entry that stands next may name constant n, and reads it with this tree
pub record Reads (t : Tables) (tree : Tree) (n : ℕ) : Type 0 where
  pub named : Named t.constants (length t.entries) n
  pub tree_is : (reading t.constants (trees_of t)).constant_at n ≡ tree

-- so it may the constant that override p was settled to
pub record ReadsOverride (s : State) (tree : Tree) (p : ℕ) : Type 0 where
  pub number : ℕ
  pub there : slice_get s.settled p ≡ Some number
  pub reads : Reads s.tables tree number

-- An old entry e at h, read by `was`: each image has the tree of its handle, and what e names is read as it was.
module _ (s : State) (was : Reading) (small : length s.tables.entries ≤ 4294967295) (imaged : (j i : ℕ) → slice_get s.images j ≡ Some i → Has s.tables (was.operand j) i)
    (o : Old) (h most : ℕ) (at : length s.images ≡ h) (e : Node) (ok : Checked o h most e)
    (con : e.kind ≡ constant → Reads s.tables (was.constant_at (word e 0)) (word e 0)) (over : e.kind ≡ overriding → ReadsOverride s (was.override_at (word e 0)) (word e 0)) where
  abbrev c : Constants
  c = s.tables.constants

  abbrev k : ℕ
  k = length s.tables.entries

  abbrev now : Reading
  now = reading c (trees_of s.tables)

  im : (j i : ℕ) → slice_get s.images j ≡ Some i → i < k
  im j i x = (imaged j i x).within

  below : All (Below (length s.images)) e.operands
  below = subst (λ n. All (Below n) e.operands) (sym at) ok.below

  below_now : All (Below k) (images_of s.images e.operands)
  below_now = images_below s.images k im small e.operands below

  shaped : (b : Bool) (words : List ℕ) → eqb e.kind overriding ≡ b → Shaped (record { kind = cond b constant e.kind; words = words; operands = images_of s.images e.operands; span = e.span })
  shaped b words x =
      record {
        row = ok.shaped.row;
        known = known_now b e.kind ok.shaped.row x ok.shaped.known;
        count = ap (admitted ok.shaped.row) (length-map e.operands (image_of s.images)) ∙ ok.shaped.count;
        there = there_mapped s.images k im small ok.shaped.row e.operands below ok.shaped.there;
      }

  follows : (j : ℕ) → Below (length s.images) j → Follows now.operand was.operand s.images j
  follows j (inl a) = inl a
  follows j (inr l) =
      let g = get_there s.images j l in
      let x = imaged j g.0 g.1 in
      inr (
        g.0,
        g.1,
        (λ z. omega (arith, z, x.within, small)),
        operand_is c (trees_of s.tables) g.0 ∙ x.tree_is,
      )

  args : args_of now.operand (images_of s.images e.operands) ≡ args_of was.operand e.operands
  args = args_mapped now.operand was.operand s.images e.operands
      (All-weaker (Below (length s.images)) (Follows now.operand was.operand s.images) follows e.operands below)

  abbrev number : ℕ
  number = unwrap_or (slice_get s.settled (word e 0)) absent

  abbrev made : Bool → Node
  made b = record { kind = cond b constant e.kind; words = cond b (number ∷ drop 1 e.words) e.words; operands = images_of s.images e.operands; span = e.span }

  as_constant : eqb e.kind overriding ≡ true → Stands c k (made true) × (tree_next s.tables (made true) ≡ tree_of was e)
  as_constant x = (
    record {
      shaped = shaped true (number ∷ drop 1 e.words) x;
      below = below_now;
      literal = λ z. absurd (omega (arith, z));
      no_override = λ z. absurd (omega (arith, z));
      named = λ _. subst (Named c k) (sym word_is) q.reads.named;
    },
    constant_read now (made true) refl
        ∙ ap now.constant_at word_is
        ∙ q.reads.tree_is
        ∙ sym (override_read was e is),
  )
    where
      is : e.kind ≡ overriding
      is = eqb-true _ _ x

      q : ReadsOverride s (was.override_at (word e 0)) (word e 0)
      q = over is

      word_is : number ≡ q.number
      word_is = ap (λ n. unwrap_or n absent) q.there

  as_itself : eqb e.kind overriding ≡ false → Stands c k (made false) × (tree_next s.tables (made false) ≡ tree_of was e)
  as_itself x = (
    record {
      shaped = shaped false e.words x;
      below = below_now;
      literal = ok.literal;
      no_override = eqb-false _ _ x;
      named = λ z. (con z).named;
    },
    tree_same now was (made false) e refl refl args (λ z. (con z).tree_is) (λ z. absurd (eqb-false _ _ x z)),
  )

  pub entry_stands : Stood s e (tree_of was e)
  entry_stands = let r = go (eqb e.kind overriding) refl in record { stands = r.0; tree_is = r.1 }
    where
      go : (b : Bool) → eqb e.kind overriding ≡ b → Stands c k (made b) × (tree_next s.tables (made b) ≡ tree_of was e)
      go true x = as_constant x
      go false x = as_itself x

-- ---- an entry of a module

abbrev old_reading : Old → List Tree → Reading
old_reading o ts = reading_over ts o.inits (valued o.overrides) ts

-- the entry at h is read over the trees of those before it
abbrev pub reading_at : Old → ℕ → Reading
reading_at o h = old_reading o (grown (old_reading o) [] (take h o.entries))

pub tree_before : (o : Old) (h j : ℕ) → h ≤ length o.entries → j < h → (reading_at o h).operand j ≡ tree_at (old_trees o) j
tree_before o h j l m = tree_below (old_reading o) o.entries h j l m

pub constant_before : (o : Old) (h c i : ℕ) → h ≤ length o.entries → slice_get o.inits c ≡ Some i → i < h → (reading_at o h).constant_at c ≡ tree_at (old_trees o) i
constant_before o h c i l s m = ap (tree_if (grown (old_reading o) [] (take h o.entries))) s ∙ tree_before o h i l m

pub override_before : (o : Old) (h p : ℕ) → h ≤ length o.entries → Known o h p → (reading_at o h).override_at p ≡ override_tree o p
override_before o h p l (inl x) =
    ap (λ g. unwrap_or (leaf_if g) (tree_if (grown (old_reading o) [] (take h o.entries)) (init_at o.overrides p))) x.1
    ∙ sym (ap (λ g. unwrap_or (leaf_if g) (tree_if (old_trees o) (init_at o.overrides p))) x.1)
override_before o h p l (inr x) =
    ap (unwrap_or ((valued o.overrides).given p))
    (ap (tree_if (grown (old_reading o) [] (take h o.entries))) x.1 ∙ tree_before o h x.0 l x.2 ∙ sym (ap (tree_if (old_trees o)) x.1))

-- the constant that override p was settled to has this tree
pub record Settled (s : State) (tree : Tree) (p : ℕ) : Type 0 where
  pub number : ℕ
  pub there : slice_get s.settled p ≡ Some number
  pub resolved : Resolved s.tables tree number

-- a constant of a module that is mapped is read at its init
reads_of : (t : Tables) (tree : Tree) (n : ℕ) → t.constants.globals ≡ None → Resolved t tree n → Reads t tree n
reads_of t tree n none x =
    record {
      named = record {
        init = x.constant;
        there = x.there;
        mapped = x.mapped;
        below = subst (λ b. x.constant.init < b) (sym (ap (λ g. reach g (length t.entries)) none)) x.within;
      };
      tree_is = constant_is t.constants (trees_of t) n x.constant none x.there ∙ x.tree_is;
    }

module _ (o : Old) (s : State) (hold : Holds o s) (h : ℕ) (at : length s.images ≡ h) (e : Node) (there : slice_get o.entries h ≡ Some e) (ok : Checked o h h e) where
  inside : h ≤ length o.entries
  inside = omega (arith, slice_get_within o.entries h e there)

  imaged : (j i : ℕ) → slice_get s.images j ≡ Some i → Has s.tables ((reading_at o h).operand j) i
  imaged j i x =
      let q = hold.images j i x in
      record { within = q.within; tree_is = q.tree_is ∙ sym (tree_before o h j inside (omega (arith, at, slice_get_within s.images j i x))) }

  overrides : (tree : Tree) (p : ℕ) → Settled s tree p → ReadsOverride s tree p
  overrides tree p q = record { number = q.number; there = q.there; reads = reads_of s.tables tree q.number hold.none q.resolved }

  pub mapped_stands : (e.kind ≡ constant → Resolved s.tables ((reading_at o h).constant_at (word e 0)) (word e 0)) → (e.kind ≡ overriding → Settled s ((reading_at o h).override_at (word e 0)) (word e 0)) →
      Stood s e (tree_at (old_trees o) h)
  mapped_stands con over =
      let r = entry_stands s (reading_at o h) hold.small imaged o h h at e ok
      (λ z. reads_of s.tables ((reading_at o h).constant_at (word e 0)) (word e 0) hold.none (con z))
      (λ z. overrides ((reading_at o h).override_at (word e 0)) (word e 0) (over z)) in
      record { stands = r.stands; tree_is = r.tree_is ∙ sym (tree_there (old_reading o) o.entries h e there) }
