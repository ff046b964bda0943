-- From what a walk in the finished tables came to, to what settling a module gives.
use Rattle.std.proofs.Common.{rules, ◌≡◌, ℕ, ◌<◌, false, List, [], ◌∷◌, length, vec_items, refl, sym, ap, ◌∙◌, subst, Ok, Err, Result}
use Rattle.std.proofs.lemmas.List.{length-map}
use Rattle.std.proofs.lemmas.Option.{none-some}
use Rattle.arena.specs.Items.{items}
use Rattle.arena.specs.Nodes.{node, nodes, operand_total}
use Rattle.arena.specs.Tiles.{Tiled}
use Rattle.refusals.specs.declared.Refusal.{Refusal}
use Rattle.ir.specs.declared.tables.Constant.{Constant}
use Rattle.ir.specs.declared.tables.Override.{Override}
use Rattle.ir.specs.declared.tables.Sizes.{Sizes}
use Rattle.ir.specs.declared.tables.Source.{Source}
use Rattle.ir.specs.Tables.{Global, sizes_of, global}
use Rattle.evaluator.specs.declared.tables.NewConstant.{NewConstant}
use Rattle.evaluator.specs.Verdicts.{Meaning}
use Rattle.settings.specs.Layout.{Given}
use Rattle.walking.specs.declared.overrides.Valued.{Valued}
use Rattle.walking.specs.Laws.{KeepsTrees}
use Rattle.walking.specs.Accepted.{Accepted, ValuesOf, old_of_global}
use Rattle.walking.proofs.Accepting.{accepted_is_checked}
use Rattle.walking.proofs.Numbering.{Numbered, walk_module_numbered}
use Rattle.overrides.specs.Values.{ValuedFor}
use Rattle.overrides.proofs.Standing.{valued_is_values}
use Rattle.pipeline_constants.specs.declared.finished.Finished.{Finished}
use Rattle.pipeline_constants.specs.declared.finished.Written.{Written}
use Rattle.pipeline_constants.specs.declared.module.Module.{Module}
use Rattle.pipeline_constants.specs.declared.settling.Ended.{Ended}
use Rattle.pipeline_constants.specs.Contents.{Content, new_constants, copies}
use Rattle.pipeline_constants.specs.Settlings.{Limits, Answer, settles, settled_by, settling, after_walk, walked}
use Rattle.pipeline_constants.specs.Views.{content_of, limits_of, room_of, tables_of, counts, written_in}
use Rattle.pipeline_constants.specs.Beginnings.{Copied}
use Rattle.pipeline_constants.specs.Endings.{Came, Ending}
use Rattle.pipeline_constants.specs.Standing.{Stands}
use Rattle.pipeline_constants.specs.Laws.{Stays, RunsBy, Runs, SettledAs, StoppedAs}
use Rattle.pipeline_constants.specs.Carried.{Carries}
use Rattle.pipeline_constants.specs.Rows.{RowOf}
use Rattle.pipeline_constants.proofs.Rows.{came_row}
use Rattle.pipeline_constants.proofs.Carrying.{came_carries, copies_carry}
use Rattle.pipeline_constants.proofs.SameTrees.{copies_keep}

-- with an override there is a walk
by_walk : (ps : List Override) (f : Meaning) (r : Limits) (m : Global) (os : List Valued) → 0 < length ps → settled_by ps f r m os ≡ after_walk m (walked f r m os)
by_walk [] f r m os l = absurd (not_below l)
  where
    not_below : 0 < 0 → ⊥
    not_below l = search rules
by_walk (p ∷ ps) f r m os l = refl

runs_tile : (ps : List Override) (a b : Module) → 0 < length ps → Tiled (items b.finished.entries) (length (items b.finished.operands)) → RunsBy ps a b
runs_tile [] a b l t = absurd (not_below l)
  where
    not_below : 0 < 0 → ⊥
    not_below l = search rules
runs_tile (p ∷ ps) a b l t = t

abbrev unmapped : Constant → NewConstant
unmapped c = record { init = c.init; mapped = false }

-- a module with the tables of an accepted one, with the values of its overrides, and with finished tables that keep the trees
stands_by : (a b : Module) (os : List Valued) → b.source ≡ a.source → items b.values ≡ os → Accepted (tables_of a) → ValuesOf (tables_of a) os →
    KeepsTrees (old_of_global (tables_of a) os) (content_of b.finished).walk → Stands b
stands_by a b os source held accepted values trees =
    record {
      sizes = a.sizes;
      accepted = subst (λ (m : Source). Accepted (global m a.sizes)) (sym source) accepted;
      values = subst (λ (m : Source). ValuesOf (global m a.sizes) (items b.values)) (sym source) (subst (ValuesOf (tables_of a)) (sym held) values);
      trees = subst (λ (m : Source). KeepsTrees (old_of_global (global m a.sizes) (items b.values)) (content_of b.finished).walk) (sym source)
          (subst (λ (vs : List Valued). KeepsTrees (old_of_global (tables_of a) vs) (content_of b.finished).walk) (sym held) trees);
    }

module _ (f : Meaning) (a : Module) (os : List Valued) (e : Ended) (some : 0 < length (vec_items a.source.overrides)) (ending : Ending f (tables_of a) os a.finished e) where
  came : (r : Result Sizes Refusal) → e.sized ≡ r → Came (settling f (room_of a) (tables_of a) os) (content_of e.finished) r
  came r q =
      subst (λ (x : Answer). Came x (content_of e.finished) r) (sym (by_walk (vec_items a.source.overrides) f (room_of a) (tables_of a) os some))
      (subst (Came (after_walk (tables_of a) (walked f (room_of a) (tables_of a) os)) (content_of e.finished)) q ending.came)

  carried : Accepted (tables_of a) → ValuesOf (tables_of a) os → (z : Sizes) → e.sized ≡ Ok z → Carries (old_of_global (tables_of a) os) (tables_of a) (content_of e.finished) (sizes_of z)
  carried accepted values z ok =
      came_carries (tables_of a) os accepted values some (walked f (room_of a) (tables_of a) os) (content_of e.finished) z
      (λ s w. subst (λ (n : ℕ). Numbered n s) (length-map (vec_items a.source.constants) unmapped)
      (walk_module_numbered f (room_of a).walk os (nodes (vec_items a.source.entries) (vec_items a.source.operands)) (new_constants false (vec_items a.source.constants)) s w))
      (ending.keeps (accepted_is_checked (tables_of a) os accepted values) z ok) refl
      (subst (Came (after_walk (tables_of a) (walked f (room_of a) (tables_of a) os)) (content_of e.finished)) ok ending.came)

  module _ (b : Module) (source : b.source ≡ a.source) (finished : b.finished ≡ e.finished) where
    stays : Stays a b
    stays =
        record {
          source = source;
          room = ap limits_of finished ∙ ending.limits;
        }

    runs : Runs a b
    runs =
        runs_tile (vec_items a.source.overrides) a b some
        (subst (λ (x : Finished). Tiled (items x.entries) (length (items x.operands))) (sym finished) ending.tiled)

    -- what is finished keeps the trees
    walked_keeps : (g : Given) → Accepted (tables_of a) → ValuedFor g (vec_items a.source.names) (vec_items a.source.overrides) os → e.sized ≡ Ok b.sizes →
        KeepsTrees (old_of_global (tables_of a) os) (content_of b.finished).walk
    walked_keeps g accepted valued ok =
        subst (λ (x : Finished). KeepsTrees (old_of_global (tables_of a) os) (content_of x).walk) (sym finished)
        (ending.keeps (accepted_is_checked (tables_of a) os accepted (valued_is_values g (tables_of a) os valued)) b.sizes ok)

    pub walked_stands : (g : Given) → Accepted (tables_of a) → ValuedFor g (vec_items a.source.names) (vec_items a.source.overrides) os → e.sized ≡ Ok b.sizes →
        items b.values ≡ os → Stands b
    walked_stands g accepted valued ok held =
        stands_by a b os source held accepted (valued_is_values g (tables_of a) os valued) (walked_keeps g accepted valued ok)

    pub settled_walked : (g : Given) (st : ∥ Stands b ∥₁) → Accepted (tables_of a) → ValuedFor g (vec_items a.source.names) (vec_items a.source.overrides) os → e.sized ≡ Ok b.sizes →
        items b.values ≡ os → SettledAs f a os (record { «module» = b; stands = st })
    settled_walked g st accepted valued ok held =
        record {
          rules = subst (λ (x : Finished). Came (settling f (room_of a) (tables_of a) os) (content_of x) (Ok b.sizes)) (sym finished) (came (Ok b.sizes) ok);
          trees = walked_keeps g accepted valued ok;
          carries = subst (λ (x : Finished). Carries (old_of_global (tables_of a) os) (tables_of a) (content_of x) (sizes_of b.sizes)) (sym finished)
              (carried accepted (valued_is_values g (tables_of a) os valued) b.sizes ok);
          runs = runs;
          values = held;
          stays = stays;
        }

    counted : (x : Finished) → length (items x.operands) ≡ operand_total (nodes (items x.entries) (items x.operands)) → written_in x ≡ counts (content_of x)
    counted x total = rw (total, sym (length-map (items x.entries) (node (items x.operands)))) refl

    pub stopped_walked : (x : Refusal) (w : Written) → b.sizes ≡ a.sizes → e.sized ≡ Err x → w ≡ written_in e.finished →
        StoppedAs f a os (record { «module» = b; refusal = x; written = w })
    stopped_walked x w sizes err writ =
        record {
          rules = subst (λ (y : Finished). Came (settling f (room_of a) (tables_of a) os) (content_of y) (Err x)) (sym finished) (came (Err x) err);
          row = subst (λ (y : Finished). RowOf f (room_of a) (tables_of a) os (content_of y).walk x) (sym finished)
              (came_row f (room_of a) (tables_of a) os (content_of e.finished) x (came (Err x) err));
          written =
              writ ∙ (counted e.finished ending.total ∙ ap (λ (y : Finished). counts (content_of y)) (sym finished));
          runs = runs;
          sizes = sizes;
          stays = stays;
        }

-- ---- a module without overrides

pub bare_given : (g : Given) (names : List ℕ) (ps : List Override) → ps ≡ [] → ValuedFor g names ps []
bare_given g names ps bare =
    subst (λ (qs : List Override). ValuedFor g names qs []) (sym bare) (record { every = refl; each = λ p o v e. absurd (none-some o e) })

module _ (a : Module) (bare : vec_items a.source.overrides ≡ []) where
  -- the copies in the words of the rules
  by_copies : (f : Meaning) → settling f (room_of a) (tables_of a) [] ≡ settles (copies (tables_of a)) (tables_of a).sizes
  by_copies f = ap (λ (ps : List Override). settled_by ps f (room_of a) (tables_of a) []) bare

  content_copied : (x : Finished) → Copied a.source a.finished x → content_of x ≡ copies (tables_of a)
  content_copied x c = rw (c.entries, c.operands, c.constants, c.overrides, c.variables, c.images, c.settled, c.kinds) refl

  no_values : ValuesOf (tables_of a) []
  no_values =
      valued_is_values (record { keys = []; values = [] }) (tables_of a) []
      (bare_given (record { keys = []; values = [] }) (vec_items a.source.names) (vec_items a.source.overrides) bare)

  copied_keeps : (x : Finished) → Copied a.source a.finished x → Accepted (tables_of a) → KeepsTrees (old_of_global (tables_of a) []) (content_of x).walk
  copied_keeps x c accepted =
      subst (λ (y : Content). KeepsTrees (old_of_global (tables_of a) []) y.walk) (sym (content_copied x c))
      (copies_keep (tables_of a) (accepted_is_checked (tables_of a) [] accepted no_values))

  pub copied_stands : (b : Module) → b.source ≡ a.source → Copied a.source a.finished b.finished → Accepted (tables_of a) → items b.values ≡ [] → Stands b
  copied_stands b source c accepted held = stands_by a b [] source held accepted no_values (copied_keeps b.finished c accepted)

  pub settled_copied : (f : Meaning) (b : Module) (st : ∥ Stands b ∥₁) → b.source ≡ a.source → b.sizes ≡ a.sizes → Copied a.source a.finished b.finished →
      Accepted (tables_of a) → items b.values ≡ [] → SettledAs f a [] (record { «module» = b; stands = st })
  settled_copied f b st source sizes c accepted held =
      let same = content_copied b.finished c in
      let checked = accepted_is_checked (tables_of a) [] accepted no_values in
      let keeps = copies_keep (tables_of a) checked in
      record {
        rules = subst (λ (x : Answer). Came x (content_of b.finished) (Ok b.sizes)) (sym (by_copies f)) (same, ap sizes_of sizes);
        trees = copied_keeps b.finished c accepted;
        carries = subst (λ (x : Content). Carries (old_of_global (tables_of a) []) (tables_of a) x (sizes_of b.sizes)) (sym same)
            (subst (Carries (old_of_global (tables_of a) []) (tables_of a) (copies (tables_of a))) (sym (ap sizes_of sizes)) (copies_carry (tables_of a) accepted bare keeps));
        runs = subst (λ (ps : List Override). RunsBy ps a b) (sym bare) (c.entries, c.operands);
        values = held;
        stays = record {
          source = source;
          room = c.room;
        };
      }
