-- From a walk in reserved memory to what is folded.
use Rattle.std.proofs.Common.{◌≡◌, ℕ, List, [], ◌∷◌, map, take, false, vec_items, refl, sym, ap, ◌∙◌, subst, Some, Ok, Err, Result}
use Rattle.arena.specs.Items.{items}
use Rattle.arena.specs.Nodes.{nodes}
use Rattle.arena.specs.declared.entry.Entry.{Entry}
use Rattle.walking.specs.declared.overrides.Valued.{Valued}
use Rattle.refusals.specs.declared.Refusal.{Refusal}
use Rattle.refusals.specs.Codes.{code_of}
use Rattle.ir.specs.declared.tables.Constant.{Constant}
use Rattle.ir.specs.declared.tables.Source.{Source}
use Rattle.evaluator.specs.declared.expression_kind.ExpressionKind.{ExpressionKind}
use Rattle.evaluator.specs.declared.tables.NewConstant.{NewConstant}
use Rattle.evaluator.specs.Verdicts.{Meaning}
use Rattle.walking.specs.States.{State, Outcome, goes, stops}
use Rattle.walking.specs.Works.{Went}
use Rattle.walking.specs.Laws.{Old, KeepsTrees}
use Rattle.walking.specs.Modules.{WalkedAs, finished, room_of_slices}
use Rattle.walking.specs.declared.modules.Old.{Old as Read}
use Rattle.walking.specs.declared.modules.Walked.{Walked as Walk}
use Rattle.folding.specs.declared.folds.Folded.{Folded}
use Rattle.folding.specs.declared.folds.Memory.{Memory}
use Rattle.folding.specs.declared.folds.FoldError.{FoldError}
use Rattle.folding.specs.Folds.{unmapped, room_of, old_of, folding, state_of, FoldedBy, Reserved, WalkedIn, FinishedAs, Finished}

stops_of : (o : Outcome) (s : State) (e : Refusal) → Went {A = Unit {0}} o s (Err e) →
    (t : State) × (code : ℕ) × (values : List ℕ) × (o ≡ stops t code values) × (code_of e ≡ (code, values))
stops_of (goes t) s e w = absurd w
stops_of (stops t code values) s e w = (t, code, values, refl, w.1)

goes_of : (o : Outcome) (s : State) (u : Unit {0}) → Went o s (Ok u) → o ≡ goes s
goes_of (goes t) s u w = ap goes (sym w)
goes_of (stops t code values) s u w = absurd w

-- the inits of copied constants, and the constants of copied inits
inits_copied : (cs : List Constant) → map (λ (k : NewConstant). k.init) (unmapped cs) ≡ map (λ (c : Constant). c.init) cs
inits_copied [] = refl
inits_copied (c ∷ cs) = ap (λ is. c.init ∷ is) (inits_copied cs)

copied_inits : (cs : List Constant) → unmapped cs ≡ map (λ (i : ℕ). record { init = i; mapped = false }) (map (λ (c : Constant). c.init) cs)
copied_inits [] = refl
copied_inits (c ∷ cs) = ap (λ (ks : List NewConstant). record { init = c.init; mapped = false } ∷ ks) (copied_inits cs)

abbrev made : List Entry → List ℕ → List ℕ → List Valued → Old
made es os is vs = record { entries = nodes es os; inits = is; overrides = vs }

made_same : (es fs : List Entry) (os ps is js : List ℕ) (vs ws : List Valued) → es ≡ fs → os ≡ ps → is ≡ js → vs ≡ ws → made es os is vs ≡ made fs ps js ws
made_same es fs os ps is js vs ws p q r v = rw (p, q, r, v) refl

module _ (f : Meaning) (s : Source) (old : Read) (a : Memory) (es : old.entries.now ≡ vec_items s.entries) (os : old.operands.now ≡ vec_items s.operands) (vs : old.overrides.now ≡ []) (r : Reserved s a) where
  abbrev read_now : Old
  read_now = made old.entries.now old.operands.now (map (λ (c : NewConstant). c.init) (items a.constants)) old.overrides.now

  room_is : room_of_slices a.expressions (vec_items a.kinds) a.constants (vec_items a.images) [] ≡ room_of s
  room_is = rw (r.entries, r.operands, r.kinds, r.constant_limit, r.images) refl

  old_is : read_now ≡ old_of s
  old_is =
      made_same old.entries.now (vec_items s.entries) old.operands.now (vec_items s.operands) (map (λ (c : NewConstant). c.init) (items a.constants)) (map (λ (c : Constant). c.init) (vec_items s.constants)) old.overrides.now [] es os
      (ap (λ (ks : List NewConstant). map (λ (c : NewConstant). c.init) ks) r.constants ∙ inits_copied (vec_items s.constants)) vs

  as_source : (t : State) (e : Result (Unit {0}) Refusal) →
      WalkedAs f (room_of_slices a.expressions (vec_items a.kinds) a.constants (vec_items a.images) []) read_now (items a.constants) t e →
      WalkedAs f (room_of s) (old_of s) (unmapped (vec_items s.constants)) t e
  as_source t e w =
      subst (λ x. WalkedAs f x (old_of s) (unmapped (vec_items s.constants)) t e) room_is
      (subst (λ o. WalkedAs f (room_of_slices a.expressions (vec_items a.kinds) a.constants (vec_items a.images) []) o (unmapped (vec_items s.constants)) t e) old_is
      (subst (λ cs. WalkedAs f (room_of_slices a.expressions (vec_items a.kinds) a.constants (vec_items a.images) []) read_now cs t e) r.constants w))

  by_cases : (b : Memory) (w : Walk) (e : Result (Unit {0}) Refusal) (x : Result Folded FoldError) (ss : List ℕ) →
      WalkedAs f (room_of s) (old_of s) (unmapped (vec_items s.constants)) (finished b.expressions b.recorded b.constants (vec_items b.images) ss w) e →
      FinishedAs b w e x → FoldedBy f s x
  by_cases b w (Ok u) (Ok g) ss k n =
      let same : state_of g (items b.recorded) (take w.settled ss) ≡ finished b.expressions b.recorded b.constants (vec_items b.images) ss w = rw (n.0, n.1, n.2) refl in (
        items b.recorded,
        take w.settled ss,
        goes_of (folding f s) (finished b.expressions b.recorded b.constants (vec_items b.images) ss w) u k.went ∙ ap goes (sym same),
        λ checked. subst (KeepsTrees (old_of s)) (sym same) (k.keeps (copied_inits (vec_items s.constants)) checked u refl),
      )
  by_cases b w (Ok u) (Err y) ss k n = absurd n
  by_cases b w (Err y) (Ok g) ss k n = absurd n
  by_cases b w (Err y) (Err z) ss k n = subst (λ (v : FoldError). FoldedBy f s (Err v)) (sym n) (stops_of (folding f s) (finished b.expressions b.recorded b.constants (vec_items b.images) ss w) y k.went)

  pub folded_by : (b : Memory) (w : Walk) (x : Result Folded FoldError) → WalkedIn f old a b (Some w) → Finished b w x → FoldedBy f s x
  folded_by b w x k n = by_cases b w w.ended x k.0 (as_source (finished b.expressions b.recorded b.constants (vec_items b.images) k.0 w) w.ended k.1) n
