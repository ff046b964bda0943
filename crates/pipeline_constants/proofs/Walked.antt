-- From a walk in the finished tables to what a settling came to.
use Rattle.std.proofs.Common.{◌≡◌, ℕ, List, [], ◌∷◌, map, false, vec_items, refl, sym, ap, ◌∙◌, subst, Option, Ok, Err, Result}
use Rattle.arena.specs.Items.{items}
use Rattle.arena.specs.Nodes.{nodes}
use Rattle.refusals.specs.declared.Refusal.{Refusal}
use Rattle.ir.specs.declared.tables.Constant.{Constant}
use Rattle.ir.specs.declared.tables.Override.{Override}
use Rattle.ir.specs.declared.tables.Source.{Source}
use Rattle.ir.specs.declared.tables.Sizes.{Sizes}
use Rattle.ir.specs.Tables.{Global, global}
use Rattle.evaluator.specs.declared.tables.NewConstant.{NewConstant}
use Rattle.evaluator.specs.Verdicts.{Meaning}
use Rattle.walking.specs.declared.overrides.Valued.{Valued}
use Rattle.walking.specs.declared.modules.Walked.{Walked as Walk}
use Rattle.walking.specs.States.{State, Outcome, goes, stops}
use Rattle.walking.specs.Works.{Went}
use Rattle.walking.specs.Laws.{Old, CheckedOld, KeepsTrees}
use Rattle.walking.specs.Accepted.{old_of_global}
use Rattle.walking.specs.Modules.{WalkedAs}
use Rattle.pipeline_constants.specs.declared.finished.Finished.{Finished}
use Rattle.pipeline_constants.specs.Contents.{Content, new_constants, all_taken, variables_mapped, stopped, ended}
use Rattle.pipeline_constants.specs.Sizings.{Sizing, sized, unsized, sizing}
use Rattle.pipeline_constants.specs.Settlings.{Limits, refuses, sized_as, after_walk, walked}
use Rattle.pipeline_constants.specs.Lookups.{SizedAs}
use Rattle.pipeline_constants.specs.Views.{content_of, limits_of}
use Rattle.pipeline_constants.specs.Walks.{Walking, old_of}
use Rattle.pipeline_constants.specs.Beginnings.{Begun, Closed, Sized}
use Rattle.pipeline_constants.specs.Endings.{Came, Ending}

-- the inits of constants that are not mapped, and the constants of these inits
inits_of_new : (cs : List Constant) → map (λ (k : NewConstant). k.init) (new_constants false cs) ≡ map (λ (c : Constant). c.init) cs
inits_of_new [] = refl
inits_of_new (c ∷ cs) = ap (λ (is : List ℕ). c.init ∷ is) (inits_of_new cs)

new_of_inits : (cs : List Constant) → new_constants false cs ≡ map (λ (i : ℕ). record { init = i; mapped = false }) (map (λ (c : Constant). c.init) cs)
new_of_inits [] = refl
new_of_inits (c ∷ cs) = ap (λ (ks : List NewConstant). record { init = c.init; mapped = false } ∷ ks) (new_of_inits cs)

abbrev is_err : {A : Type 0} {B : Type 0} → Result A B → Type 0
is_err (Ok a) = ⊥
is_err (Err b) = Unit {0}

-- the sizes or their refusal, with what is written
came_sized : (c d : Content) (s : Sizing) (r : Result Sizes Refusal) → d ≡ c → SizedAs s r → Came (sized_as c s) d r
came_sized c d (sized zs) (Ok z) e h = (e, h)
came_sized c d (sized zs) (Err x) e h = absurd h
came_sized c d (unsized code values) (Ok z) e h = absurd h
came_sized c d (unsized code values) (Err x) e h = (e, h)

goes_of : (o : Outcome) (s : State) (u : Unit {0}) → Went o s (Ok u) → o ≡ goes s
goes_of (goes t) s u w = ap goes (sym w)
goes_of (stops t code values) s u w = absurd w

abbrev content_made : State → List Override → List (Option ℕ) → Content
content_made s os vs = record { walk = s; overrides = os; variables = vs }

module _ (m : Source) (z : Sizes) (os : List Valued) where
  abbrev g : Global
  g = global m z

  came_stopped : (o : Outcome) (s : State) (d : Content) (x : Refusal) (r : Result Sizes Refusal) → Went {A = Unit {0}} o s (Err x) → r ≡ Err x → d ≡ stopped g s → Came (after_walk g o) d r
  came_stopped (goes t) s d x r w e h = absurd w
  came_stopped (stops t code values) s d x r w e h =
      subst (Came (refuses (stopped g t) code values) d) (sym e) (h ∙ ap (stopped g) w.0, w.1)

  module _ (f : Meaning) (a b t e : Finished) (w : Walk) (r : Result Sizes Refusal) (begun : Begun m a b) (walking : Walking f m os b t w) (closed : Closed m z t e w.ended r) where
    abbrev s : State
    s = (content_of t).walk

    -- the walk in the words of the rules
    old_is : old_of m os (new_constants false (vec_items m.constants)) ≡ old_of_global g os
    old_is =
        ap (λ (is : List ℕ). record { entries = nodes (vec_items m.entries) (vec_items m.operands); inits = is; overrides = os })
        (inits_of_new (vec_items m.constants))

    by_rules : WalkedAs f (limits_of a).walk (old_of_global g os) (new_constants false (vec_items m.constants)) s w.ended
    by_rules =
        subst (λ (l : Limits). WalkedAs f l.walk (old_of_global g os) (new_constants false (vec_items m.constants)) s w.ended) begun.room
        (subst (λ (o : Old). WalkedAs f (limits_of b).walk o (new_constants false (vec_items m.constants)) s w.ended) old_is
        (subst (λ (cs : List NewConstant). WalkedAs f (limits_of b).walk (old_of m os cs) cs s w.ended) begun.constants walking.walked))

    -- what the walk wrote stands in the tables afterwards
    walk_is : (content_of e).walk ≡ s
    walk_is = rw (closed.walk.entries, closed.walk.operands, closed.walk.constants, closed.walk.images, closed.walk.settled, closed.walk.kinds) refl

    content_is : (vs : List (Option ℕ)) → items e.variables ≡ vs → content_of e ≡ content_made s (all_taken s (vec_items m.overrides)) vs
    content_is vs v = rw (walk_is, closed.overrides, v) refl

    came : (x : Result (Unit {0}) Refusal) → w.ended ≡ x → Came (after_walk g (walked f (limits_of a) g os)) (content_of e) r
    came (Ok u) q =
        let went : Went (walked f (limits_of a) g os) s (Ok u) = subst (Went (walked f (limits_of a) g os) s) q by_rules.went in
        let sizes : Sized m z t e (Ok u) r = subst (λ (y : Result (Unit {0}) Refusal). Sized m z t e y r) q closed.sized in
        subst (λ (o : Outcome). Came (after_walk g o) (content_of e) r) (sym (goes_of (walked f (limits_of a) g os) s u went))
        (came_sized (ended g s) (content_of e) (sizing s 0 g.sizes) r (content_is (variables_mapped s.images g.variables) sizes.0) sizes.1)
    came (Err x) q =
        let went : Went {A = Unit {0}} (walked f (limits_of a) g os) s (Err x) = subst (Went (walked f (limits_of a) g os) s) q by_rules.went in
        let sizes : Sized m z t e (Err x) r = subst (λ (y : Result (Unit {0}) Refusal). Sized m z t e y r) q closed.sized in
        let same : items e.variables ≡ vec_items m.variables = ap items sizes.0 ∙ (ap items walking.variables ∙ begun.variables) in
        came_stopped (walked f (limits_of a) g os) s (content_of e) x r went sizes.1 (content_is (vec_items m.variables) same)

    keeps : (x : Result (Unit {0}) Refusal) → w.ended ≡ x → CheckedOld (old_of_global g os) → (n : Sizes) → r ≡ Ok n → KeepsTrees (old_of_global g os) (content_of e).walk
    keeps (Ok u) q checked n ok =
        subst (KeepsTrees (old_of_global g os)) (sym walk_is) (by_rules.keeps (new_of_inits (vec_items m.constants)) checked u q)
    keeps (Err x) q checked n ok =
        let sizes : Sized m z t e (Err x) r = subst (λ (y : Result (Unit {0}) Refusal). Sized m z t e y r) q closed.sized in
        absurd (subst is_err (sym sizes.1 ∙ ok) tt)

    pub ending : Ending f g os a (record { finished = e; sized = r })
    ending =
        record {
          came = came w.ended refl;
          keeps = keeps w.ended refl;
          tiled = rw (closed.walk.entries, closed.walk.operands) walking.tiled;
          total = rw (closed.walk.entries, closed.walk.operands) walking.total;
          limits = closed.room ∙ (walking.limits ∙ begun.room);
        }
