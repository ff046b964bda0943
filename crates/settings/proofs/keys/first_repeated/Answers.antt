use Rattle.std.proofs.Common.{◌≡◌, ℕ, ◌<◌, ◌≤◌, List, Option, Bor, length, take, Some, sym, subst, ◌∙◌, ap, ⊎_elim, rules, arith}
use Rattle.std.proofs.lemmas.Bool.{cases_lt, false≢true}
use Rattle.std.proofs.lemmas.Iterator.{YieldsList}
use Rattle.std.proofs.lemmas.Iterator.Consumers.{YieldsList-from_enumerate, YieldsList-at, YieldsList-turn, YieldsList-end}
use Rattle.std.proofs.lemmas.List.{length_push}
use Rattle.std.proofs.lemmas.List.FromFn.{length-enumerate_from}
use Rattle.std.proofs.lemmas.Option.{slice_get_within, same_Some}
use Rattle.std.specs.Iterator.{AlwaysYields}
use Rattle.std.specs.Iterator.Adapters.{enumerate_source, enumerate_count, enumerate_steps}
use Rattle.std.specs.declared.iter.Enumerate.{Enumerate}
use Rattle.std.specs.List.{slice_get, enumerate_from}
use Rattle.settings.specs.Layout.{Among, Repeats}
use Rattle.settings.proofs.Places.{at_turn}
use Rattle.settings.proofs.keys.first_repeated.Goals as goal

-- a walk over keys, each beside its place
numbered : {S : Type 0} (steps : S → Option (Bor (List ℕ)) → S → Type 0) {k : S} {e s : Enumerate S} (ks : List (List ℕ)) → s ≡ e → enumerate_source e ≡ k → enumerate_count e ≡ 0 → AlwaysYields steps (λ x. x.now) k ks
    → YieldsList {B = ℕ × List ℕ} (enumerate_steps steps) (λ p. (p.0, p.1.now)) s (enumerate_from 0 ks)
numbered steps ks same source count given = YieldsList-from_enumerate {steps = steps} {v = λ x. x.now} (YieldsList-at (ap enumerate_source same ∙ source) (record { runs = given })) (ap enumerate_count same ∙ count)

-- the first so many keys, where that number is written in two ways
upto : (ks : List (List ℕ)) {x : List ℕ} {n i : ℕ} → Among x (take n ks) → n ≡ i → Among x (take i ks)
upto ks {x} h e = subst (λ m. Among x (take m ks)) e h

pub loop-i-init : goal.loop-i-init
loop-i-init g c = λ ks given k l. absurd (omega (arith, l))

pub returns-then-has_within : goal.returns-then-has_within
returns-then-has_within g c = λ ks given.
    let e = numbered g.K.Iterator.next_gives ks c.into_iter-i-iterator.ensures.into_iter_gives c.enumerate-i-items.ensures.source c.enumerate-i-items.ensures.count given in
    let t = at_turn ks _ _ _ (YieldsList-turn e c.loop-i.yielded c.loop-i.i-iterator c.loop-i.yielded_by _ c.next.new.self (c.in-Some.i, c.in-Some.key) c.in-Some.is c.next.ensures.steps) in
    ((c.in-Some.key.now, subst (λ n. slice_get ks n ≡ Some c.in-Some.key.now) (sym t.0) t.1, upto ks ((c.has_within.ensures ks given).0 c.if-has_within.true) (search (rules, arith))), λ j l. c.loop-i.invariant ks given j (omega (arith, l, t.0)))

pub loop-i-preserved : goal.loop-i-preserved
loop-i-preserved g c = λ ks given k l r.
    let e = numbered g.K.Iterator.next_gives ks c.into_iter-i-iterator.ensures.into_iter_gives c.enumerate-i-items.ensures.source c.enumerate-i-items.ensures.count given in
    let t = at_turn ks _ _ _ (YieldsList-turn e c.loop-i.yielded c.loop-i.i-iterator c.loop-i.yielded_by _ c.next.new.self (c.in-Some.i, c.in-Some.key) c.in-Some.is c.next.ensures.steps) in
    ⊎_elim (λ (m : k < length c.loop-i.yielded). c.loop-i.invariant ks given k m r)
    (λ (m : length c.loop-i.yielded ≤ k).
    let same : k ≡ c.in-Some.i = omega (arith, l, m, t.0, length_push c.loop-i.yielded (c.in-Some.i, c.in-Some.key)) in
    false≢true (sym c.if-has_within.false ∙ (c.has_within.ensures ks given).1 (upto ks (again ks _ _ _ _ same t.0 t.1 r) (search (rules, arith)))))
    (cases_lt k (length c.loop-i.yielded))
  where
    again : (ks : List (List ℕ)) (k i n : ℕ) (x : List ℕ) → k ≡ i → i ≡ n → slice_get ks n ≡ Some x → Repeats ks k → Among x (take i ks)
    again ks k i n x e f g r =
        let here : slice_get ks k ≡ Some x = subst (λ m. slice_get ks m ≡ Some x) (sym (e ∙ f)) g in
        subst (λ m. Among x (take m ks)) e (subst (λ y. Among y (take k ks)) (same_Some _ _ (sym r.1 ∙ here)) r.2)

pub returns : goal.returns
returns g c = λ ks given k r.
    let e = numbered g.K.Iterator.next_gives ks c.into_iter-i-iterator.ensures.into_iter_gives c.enumerate-i-items.ensures.source c.enumerate-i-items.ensures.count given in
    let t = YieldsList-end e c.loop-i.yielded c.loop-i.i-iterator c.loop-i.yielded_by _ c.next.new.self c.in-None.is c.next.ensures.steps in
    c.loop-i.invariant ks given k (omega (arith, t.1, length-enumerate_from 0 ks, slice_get_within ks k r.0 r.1)) r
