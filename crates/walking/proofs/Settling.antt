-- Overrides are settled.
use Rattle.std.proofs.Common.{◌≡◌, ℕ, zero, suc, ◌+◌, ◌*◌, ◌/◌, ◌%◌, ◌<◌, ◌≤◌, true, false, List, [], ◌∷◌, ◌++◌, length, unwrap_or, Some, None, Option, Ok, Err, Result, option_and_then, sym, refl, ap, ◌∙◌, subst, inl, inr, arith}
use Rattle.std.specs.List.{slice_get}
use Rattle.std.proofs.lemmas.Bool.{true≢false}
use Rattle.std.proofs.lemmas.List.{length_push}
use Rattle.std.proofs.lemmas.Option.{slice_get_within, same_Some, none-some}
use Rattle.arena.specs.Nodes.{Node}
use Rattle.operands.specs.Faults.{absent}
use Rattle.ir.specs.Faults.{malformed, widths, wider}
use Rattle.kinds.specs.Kinds.{of}
use Rattle.rounding.specs.declared.literals.Literal.{Literal}
use Rattle.rounding.specs.declared.conversion.ConversionError.{ConversionError}
use Rattle.rounding.specs.Literals.{type_of, literal_bits_of}
use Rattle.evaluator.specs.declared.expression_kind.ExpressionKind.TheVariants.{Const}
use Rattle.evaluator.specs.declared.tables.NewConstant.{NewConstant}
use Rattle.evaluator.specs.Trees.{leaf, Reading, tree_at, tree_if, tree_of}
use Rattle.evaluator.specs.Tables.{Constants, adding}
use Rattle.evaluator.specs.Clauses.{trees, reading, Stands}
use Rattle.evaluator.proofs.Standing.{tree_of_next, get_left, get_pushed}
use Rattle.walking.specs.declared.overrides.Valued.{Valued}
use Rattle.walking.specs.States.{Room, State, goes, then, add, with_tables, with_constants}
use Rattle.walking.specs.Overrides.{add_constant, note_settled, settle_to, new_literal, settle_to_image, settle_by_init, settle_by, settle_one, settle_next, settle_more}
use Rattle.walking.specs.Laws.{Old, CheckedOld, literal_if, given_at, init_at, leaf_of, leaf_if, old_trees}
use Rattle.walking.proofs.Extending.{Stays}
use Rattle.walking.proofs.Holding.{Has, Right, Known, Settles, Holds, override_tree, each_pushed, holds_more, holds_constants, tree_listing}
use Rattle.walking.proofs.Steps.{never, same_goes, Between, then_goes, room_goes, Added, add_goes}

-- ---- a constant for the next override

-- one override more is settled
pub record SettlesOne (o : Old) (s f : State) : Type 0 where
  pub holds : Holds o f
  pub images : f.images ≡ s.images
  pub settled : length f.settled ≡ length s.settled + 1

module _ (o : Old) (a : ℕ) (s : State) (h : Holds o s) (has : Has s.tables (override_tree o (length s.settled)) a) (known : Known o (length s.images) (length s.settled)) (room : length s.settled < length o.overrides) where
  abbrev new : NewConstant
  new = record { init = a; mapped = true }

  abbrev cs : List NewConstant
  cs = s.tables.constants.list

  abbrev with_new : State
  with_new = with_constants (cs ++ new ∷ []) s

  abbrev with_noted : State
  with_noted = record { tables = with_new.tables; images = s.images; settled = s.settled ++ length cs ∷ [] }

  keeps : Stays cs (cs ++ new ∷ [])
  keeps = record { stays = λ n k y m. get_left cs (new ∷ []) n (slice_get_within cs n k y) ∙ y }

  new_right : Right o s.tables (length cs) new
  new_right =
      record {
        unmapped = λ f. absurd (true≢false f);
        within = λ _. has.within;
        tree_is = λ _ i y. absurd (omega (arith, h.many, slice_get_within o.inits (length cs) i y));
      }

  holds_new : Holds o with_new
  holds_new = holds_constants o s (cs ++ new ∷ []) h keeps (omega (arith, h.many, length_push cs new)) (each_pushed (Right o s.tables) cs new h.constants new_right)

  settles_new : Settles o with_new.tables (length s.images) (length s.settled) (length cs)
  settles_new =
      record {
        resolved = record {
          constant = new;
          there = get_pushed cs new;
          mapped = refl;
          within = has.within;
          tree_is = tree_listing s.tables (cs ++ new ∷ []) h.none h.formed keeps a ∙ has.tree_is;
        };
        known = known;
      }

  settles_one : SettlesOne o s with_noted
  settles_one =
      record {
        holds = record {
          none = holds_new.none;
          formed = holds_new.formed;
          images = holds_new.images;
          many = holds_new.many;
          constants = holds_new.constants;
          settles = each_pushed (Settles o with_new.tables (length s.images)) s.settled (length cs) holds_new.settles settles_new;
          most = omega (arith, room, length_push s.settled (length cs));
          small = holds_new.small;
          few = holds_new.few;
        };
        images = refl;
        settled = length_push s.settled (length cs);
      }

  pub settle_to_holds : (r : Room) (f : State) → settle_to r a s ≡ goes f → SettlesOne o s f
  settle_to_holds r f e =
      let b = then_goes (add_constant r a s) (note_settled r (length cs)) f e in
      let mid : with_new ≡ b.mid = same_goes with_new b.mid (room_goes (length cs) r.constants 2 s (goes with_new) b.mid b.first).1 in
      let noted : note_settled r (length cs) with_new ≡ goes f = ap (note_settled r (length cs)) mid ∙ b.second in
      let is : with_noted ≡ f = same_goes with_noted f (room_goes (length s.settled) r.settled 13 with_new (goes with_noted) f noted).1 in
      subst (SettlesOne o s) is settles_one

-- ---- the literal of a value

halves : (n : ℕ) → n % 4294967296 + 4294967296 * (n / 4294967296) ≡ n + 4294967296 * 0
halves n = omega arith

pub literal_stands : (c : Constants) (k : ℕ) (l : Literal) → malformed (type_of l) (literal_bits_of l) 0 ≡ false → Stands c k (new_literal l)
literal_stands c k l m =
    record {
      shaped = record { row = of 0 0; known = refl; count = refl; there = λ s e. absurd (none-some absent e) };
      below = λ i d z. absurd (omega (arith, z));
      literal = λ _. ap (wider (slice_get widths (type_of l))) (halves (literal_bits_of l)) ∙ m;
      no_override = λ e. absurd (omega (arith, e));
      named = λ e. absurd (omega (arith, e));
    }

pub literal_tree : (r : Reading) (l : Literal) → tree_of r (new_literal l) ≡ leaf_of l
unfolding tree_of
literal_tree r l = let e : literal_bits_of l + 4294967296 * 0 ≡ literal_bits_of l = omega arith in ap (leaf (type_of l)) (halves (literal_bits_of l) ∙ e)

one_entry : (P : ℕ → Node → Type 0) (n : Node) → P 0 n → (i : ℕ) (e : Node) → slice_get (n ∷ []) i ≡ Some e → P i e
one_entry P n p zero e s = subst (P 0) (same_Some n e s) p
one_entry P n p (suc i) e s = absurd (none-some e s)

-- ---- the next override

given_is : (os : List Valued) (p : ℕ) (v : Valued) → slice_get os p ≡ Some v → given_at os p ≡ literal_if v.given
given_is os p v s = ap (option_and_then (λ (v : Valued). literal_if v.given)) s

init_is : (os : List Valued) (p : ℕ) (v : Valued) → slice_get os p ≡ Some v → init_at os p ≡ v.init
init_is os p v s = ap (option_and_then (λ (v : Valued). v.init)) s

module _ (o : Old) (r : Room) (ok : CheckedOld o) (roomy : r.tables.entries ≤ 4294967295) where
  module _ (s f : State) (h : Holds o s) (v : Valued) (there : slice_get o.overrides (length s.settled) ≡ Some v) where
    abbrev p : ℕ
    p = length s.settled

    room : p < length o.overrides
    room = slice_get_within o.overrides p v there

    by_value : (l : Literal) → given_at o.overrides p ≡ Some l → then (add r Const (new_literal l ∷ []) s) (settle_to r (length s.tables.entries)) ≡ goes f → SettlesOne o s f
    by_value l given e = record { holds = one.holds; images = one.images; settled = one.settled }
      where
        b : Between (add r Const (new_literal l ∷ []) s) (settle_to r (length s.tables.entries)) f
        b = then_goes (add r Const (new_literal l ∷ []) s) (settle_to r (length s.tables.entries)) f e

        wrote : State
        wrote = with_tables (adding Const (new_literal l ∷ []) s.tables) s

        added : Added r Const (new_literal l ∷ []) s b.mid
        added = add_goes r Const (new_literal l ∷ []) s b.mid b.first

        stand : (i : ℕ) (e : Node) → slice_get (new_literal l ∷ []) i ≡ Some e → Stands s.tables.constants (length s.tables.entries + i) e
        stand = one_entry (λ i e. Stands s.tables.constants (length s.tables.entries + i) e) (new_literal l) (literal_stands s.tables.constants (length s.tables.entries + 0) l (ok.given p l given))

        holds : Holds o wrote
        holds = holds_more o s (new_literal l ∷ []) Const h stand (omega (arith, added.fits, roomy))

        has : Has wrote.tables (override_tree o p) (length s.tables.entries)
        has =
            record {
              within = omega (arith, length_push s.tables.entries (new_literal l));
              tree_is =
                  tree_of_next s.tables.constants s.tables.entries (new_literal l)
                  ∙ literal_tree (reading s.tables.constants (trees s.tables.constants s.tables.entries)) l
                  ∙ sym (ap (λ g. unwrap_or (leaf_if g) (tree_if (old_trees o) (init_at o.overrides p))) given);
            }

        one : SettlesOne o wrote f
        one = settle_to_holds o (length s.tables.entries) wrote holds has (inl (l, given)) room r f (ap (settle_to r (length s.tables.entries)) added.is ∙ b.second)

    by_image : (i : ℕ) → given_at o.overrides p ≡ None → init_at o.overrides p ≡ Some i → (q : Option ℕ) → slice_get s.images i ≡ q → settle_to_image r p q s ≡ goes f → SettlesOne o s f
    by_image i given init None y e = never _ _ _ _ e
    by_image i given init (Some j) y e =
        let x : Has s.tables (tree_at (old_trees o) i) j = h.images i j y in
        let tree : override_tree o p ≡ tree_at (old_trees o) i =
        ap (λ g. unwrap_or (leaf_if g) (tree_if (old_trees o) (init_at o.overrides p))) given ∙ ap (tree_if (old_trees o)) init in
        settle_to_holds o j s h (record { within = x.within; tree_is = x.tree_is ∙ sym tree }) (inr (i, init, slice_get_within s.images i j y)) room r f e

    by_init : given_at o.overrides p ≡ None → (q : Option ℕ) → init_at o.overrides p ≡ q → settle_by_init r p q s ≡ goes f → SettlesOne o s f
    by_init given None init e = never _ _ _ _ e
    by_init given (Some i) init e = by_image i given init (slice_get s.images i) refl e

    settle_by_holds : (g : Option (Result Literal ConversionError)) → given_at o.overrides p ≡ literal_if g → settle_by r p g v.init s ≡ goes f → SettlesOne o s f
    settle_by_holds (Some (Ok l)) given e = by_value l given e
    settle_by_holds (Some (Err x)) given e = never _ _ _ _ e
    settle_by_holds None given e = by_init given v.init (init_is o.overrides p v there) e

  pub settle_next_holds : (s f : State) → Holds o s → settle_next r o.overrides s ≡ goes f → SettlesOne o s f
  settle_next_holds s f h = go (slice_get o.overrides (length s.settled)) refl
    where
      go : (q : Option Valued) → slice_get o.overrides (length s.settled) ≡ q → settle_one r (length s.settled) q s ≡ goes f → SettlesOne o s f
      go None y e = never _ _ _ _ e
      go (Some v) y e = settle_by_holds s f h v y v.given (given_is o.overrides (length s.settled) v y) e

  -- ---- so many more

  pub record SettlesSome (n : ℕ) (s f : State) : Type 0 where
    pub holds : Holds o f
    pub images : f.images ≡ s.images
    pub settled : length f.settled ≡ length s.settled + n

  pub settle_more_holds : (n : ℕ) (s f : State) → Holds o s → settle_more r o.overrides n s ≡ goes f → SettlesSome n s f
  settle_more_holds zero s f h e = subst (SettlesSome 0 s) (same_goes s f e) (record { holds = h; images = refl; settled = omega arith })
  settle_more_holds (suc n) s f h e =
      let b = then_goes (settle_next r o.overrides s) (settle_more r o.overrides n) f e in
      let one = settle_next_holds s b.mid h b.first in
      let rest = settle_more_holds n b.mid f one.holds b.second in
      record { holds = rest.holds; images = rest.images ∙ one.images; settled = omega (arith, rest.settled, one.settled) }
