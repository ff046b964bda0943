-- The constants of a walk by number: those of the module come first, and behind them one for each override that is settled, in order.
use Rattle.std.proofs.Common.{◌≡◌, ℕ, zero, suc, ◌+◌, ◌-◌, Bool, true, false, cond, eqb, List, [], ◌∷◌, ◌++◌, length, Some, None, Option, Ok, Err, Result, ap, ◌∙◌, subst, arith}
use Rattle.std.specs.List.{slice_get}
use Rattle.std.proofs.lemmas.List.{length_push, length-set}
use Rattle.std.proofs.lemmas.Option.{none-some}
use Rattle.arena.specs.Nodes.{Node}
use Rattle.ir.specs.Faults.{constant, overriding}
use Rattle.rounding.specs.declared.literals.Literal.{Literal}
use Rattle.rounding.specs.declared.conversion.ConversionError.{ConversionError}
use Rattle.evaluator.specs.declared.expression_kind.ExpressionKind.{ExpressionKind}
use Rattle.evaluator.specs.declared.expression_kind.ExpressionKind.TheVariants.{Const, Override, Runtime}
use Rattle.evaluator.specs.declared.tables.FullTable.{FullTable}
use Rattle.evaluator.specs.declared.tables.NewConstant.{NewConstant}
use Rattle.evaluator.specs.ExpressionKinds.{type_of_node}
use Rattle.evaluator.specs.Tables.{full, adding}
use Rattle.evaluator.specs.Verdicts.{Verdict, folds, declines, faults, Meaning}
use Rattle.walking.specs.declared.overrides.Valued.{Valued}
use Rattle.walking.specs.States.{Room, State, goes, add, with_tables, with_image, with_constants}
use Rattle.walking.specs.Images.{image_of, unmapped, map_if, map_constant, map_more, map_rest, mapped}
use Rattle.walking.specs.Overrides.{add_constant, note_settled, settle_to, new_literal, settle_to_image, settle_by_init, settle_by, settle_one, settle_next, settle_more, settle_rest}
use Rattle.walking.specs.Walks.{answers_unless, judged, asked_as, noted, prepared, ask_mapped, walk_one, walk, walk_all}
use Rattle.walking.specs.Modules.{begun, walk_module}
use Rattle.walking.proofs.Holding.{each_pushed}
use Rattle.walking.proofs.Steps.{never, same_goes, then_goes, room_goes, add_goes}

-- n constants, and then that of each settled override
pub record Numbered (n : ℕ) (s : State) : Type 0 where
  pub count : length s.tables.constants.list ≡ n + length s.settled
  pub each : (p c : ℕ) → slice_get s.settled p ≡ Some c → c ≡ n + p

-- ---- overrides

module _ (n : ℕ) (r : Room) where
  settle_to_numbered : (h : ℕ) (s f : State) → Numbered n s → settle_to r h s ≡ goes f → Numbered n f
  settle_to_numbered h s f k e =
      let cs : List NewConstant = s.tables.constants.list in
      let new : NewConstant = record { init = h; mapped = true } in
      let with_new : State = with_constants (cs ++ new ∷ []) s in
      let with_noted : State = record { tables = with_new.tables; images = s.images; settled = s.settled ++ length cs ∷ [] } in
      let b = then_goes (add_constant r h s) (note_settled r (length cs)) f e in
      let mid : with_new ≡ b.mid = same_goes with_new b.mid (room_goes (length cs) r.constants 2 s (goes with_new) b.mid b.first).1 in
      let noted_is : note_settled r (length cs) with_new ≡ goes f = ap (note_settled r (length cs)) mid ∙ b.second in
      let is : with_noted ≡ f = same_goes with_noted f (room_goes (length s.settled) r.settled 13 with_new (goes with_noted) f noted_is).1 in
      subst (Numbered n) is
      (record {
        count = omega (arith, k.count, length_push cs new, length_push s.settled (length cs));
        each = each_pushed (λ p c. c ≡ n + p) s.settled (length cs) k.each k.count;
      })

  by_image : (p : ℕ) (i : Option ℕ) (s f : State) → Numbered n s → settle_to_image r p i s ≡ goes f → Numbered n f
  by_image p None s f k e = never _ _ _ _ e
  by_image p (Some h) s f k e = settle_to_numbered h s f k e

  by_init : (p : ℕ) (i : Option ℕ) (s f : State) → Numbered n s → settle_by_init r p i s ≡ goes f → Numbered n f
  by_init p None s f k e = never _ _ _ _ e
  by_init p (Some h) s f k e = by_image p (slice_get s.images h) s f k e

  by_value : (p : ℕ) (g : Option (Result Literal ConversionError)) (i : Option ℕ) (s f : State) → Numbered n s → settle_by r p g i s ≡ goes f → Numbered n f
  by_value p (Some (Ok l)) i s f k e =
      let b = then_goes (add r Const (new_literal l ∷ []) s) (settle_to r (length s.tables.entries)) f e in
      let added = add_goes r Const (new_literal l ∷ []) s b.mid b.first in
      settle_to_numbered (length s.tables.entries) b.mid f (subst (Numbered n) added.is (record { count = k.count; each = k.each })) b.second
  by_value p (Some (Err x)) i s f k e = never _ _ _ _ e
  by_value p None i s f k e = by_init p i s f k e

  settle_one_numbered : (p : ℕ) (v : Option Valued) (s f : State) → Numbered n s → settle_one r p v s ≡ goes f → Numbered n f
  settle_one_numbered p None s f k e = never _ _ _ _ e
  settle_one_numbered p (Some v) s f k e = by_value p v.given v.init s f k e

  settle_more_numbered : (os : List Valued) (i : ℕ) (s f : State) → Numbered n s → settle_more r os i s ≡ goes f → Numbered n f
  settle_more_numbered os zero s f k e = subst (Numbered n) (same_goes s f e) k
  settle_more_numbered os (suc i) s f k e =
      let b = then_goes (settle_next r os s) (settle_more r os i) f e in
      settle_more_numbered os i b.mid f (settle_one_numbered (length s.settled) (slice_get os (length s.settled)) s b.mid k b.first) b.second

-- ---- constants

map_numbered : (n c : ℕ) (s : State) → Numbered n s → Numbered n (map_constant c s)
map_numbered n c s k = go (unmapped s.tables.constants.list c)
  where
    go : (q : Option ℕ) → Numbered n (with_constants (map_if s.images s.tables.constants.list c q) s)
    go None = record { count = k.count; each = k.each }
    go (Some i) = record { count = length-set s.tables.constants.list c (record { init = image_of s.images i; mapped = true }) ∙ k.count; each = k.each }

map_more_numbered : (n i c : ℕ) (s : State) → Numbered n s → Numbered n (map_more c i s)
map_more_numbered n zero c s k = k
map_more_numbered n (suc i) c s k = map_more_numbered n i (c + 1) (map_constant c s) (map_numbered n c s k)

-- ---- entries

module _ (n : ℕ) (r : Room) where
  folded : (es : List Node) (answer : ℕ) (q : Option FullTable) (s f : State) → Numbered n s → noted r (answers_unless q es answer s) ≡ goes f → Numbered n f
  folded es answer (Some t) s f k e = never _ _ _ _ e
  folded es answer None s f k e =
      let wrote : State = with_tables (adding Const es s.tables) s in
      let room = room_goes (length s.images) r.images 12 wrote (goes (with_image answer wrote)) f e in
      subst (Numbered n) (same_goes (with_image answer wrote) f room.1) (record { count = k.count; each = k.each })

  judged_numbered : (v : Verdict) (s f : State) → Numbered n s → noted r (judged r v s) ≡ goes f → Numbered n f
  judged_numbered (folds es answer) s f k e = folded es answer (full r.tables s.tables.entries s.tables.kinds es) s f k e
  judged_numbered declines s f k e = never _ _ _ _ e
  judged_numbered (faults layer code) s f k e = never _ _ _ _ e

  asked_numbered : (m : Meaning) (e : Node) (t : ExpressionKind) (s f : State) → Numbered n s → noted r (asked_as t m r e s) ≡ goes f → Numbered n f
  asked_numbered m e Const s f k q = judged_numbered (m s.tables e) s f k q
  asked_numbered m e Override s f k q = never _ _ _ _ q
  asked_numbered m e Runtime s f k q = never _ _ _ _ q

  prepared_numbered : (os : List Valued) (kind number : ℕ) (s f : State) → Numbered n s → prepared r os kind number s ≡ goes f → Numbered n f
  prepared_numbered os kind number s f k = go (eqb kind overriding) (eqb kind constant)
    where
      go : (a b : Bool) → cond a (settle_more r os (number + 1 - length s.settled) s) (cond b (goes (map_constant number s)) (goes s)) ≡ goes f → Numbered n f
      go true b e = settle_more_numbered n r os (number + 1 - length s.settled) s f k e
      go false true e = subst (Numbered n) (same_goes (map_constant number s) f e) (map_numbered n number s k)
      go false false e = subst (Numbered n) (same_goes s f e) k

  walk_numbered : (m : Meaning) (os : List Valued) (es : List Node) (s f : State) → Numbered n s → walk m r os es s ≡ goes f → Numbered n f
  walk_numbered m os [] s f k e = subst (Numbered n) (same_goes s f e) k
  walk_numbered m os (x ∷ es) s f k e =
      let b = then_goes (walk_one m r os x s) (walk m r os es) f e in
      let c = then_goes (prepared r os x.kind _ s) (ask_mapped m r x) b.mid b.first in
      let ready = prepared_numbered os x.kind _ s c.mid k c.first in
      walk_numbered m os es b.mid f (asked_numbered m (mapped c.mid x) (type_of_node c.mid.tables.kinds (mapped c.mid x)) c.mid b.mid ready c.second) b.second

-- a whole walk that goes to its end
pub walk_module_numbered : (m : Meaning) (r : Room) (os : List Valued) (es : List Node) (cs : List NewConstant) (f : State) → walk_module m r os es (begun cs) ≡ goes f → Numbered (length cs) f
walk_module_numbered m r os es cs f e =
    let a = then_goes (walk_all m r os es (begun cs)) (λ s. goes (map_rest s)) f e in
    let b = then_goes (walk m r os es (begun cs)) (settle_rest r os) a.mid a.first in
    let start : Numbered (length cs) (begun cs) = record { count = omega arith; each = λ p c y. absurd (none-some c y) } in
    let entries = walk_numbered (length cs) r m os es (begun cs) b.mid start b.first in
    let all = settle_more_numbered (length cs) r os (length os - length b.mid.settled) b.mid a.mid entries b.second in
    subst (Numbered (length cs)) (same_goes (map_rest a.mid) f a.second) (map_more_numbered (length cs) (length a.mid.tables.constants.list) 0 a.mid all)
