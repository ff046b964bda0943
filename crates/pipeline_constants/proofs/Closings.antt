-- After a walk: what stays, step by step.
use Rattle.std.proofs.Common.{◌≡◌, refl, sym, ap, ◌∙◌, subst, Ok, Result, vec_items}
use Rattle.arena.specs.Items.{items}
use Rattle.refusals.specs.declared.Refusal.{Refusal}
use Rattle.ir.specs.declared.tables.Source.{Source}
use Rattle.ir.specs.declared.tables.Sizes.{Sizes}
use Rattle.ir.specs.Tables.{sizes_of}
use Rattle.walking.specs.States.{State}
use Rattle.pipeline_constants.specs.declared.finished.Finished.{Finished}
use Rattle.pipeline_constants.specs.declared.slots.Slots.{Slots}
use Rattle.pipeline_constants.specs.Beginnings.{SameRoom, SameWalk, Sized, Closed, walk_of}
use Rattle.pipeline_constants.specs.Contents.{all_taken, variables_mapped}
use Rattle.pipeline_constants.specs.Lookups.{SizedAs}
use Rattle.pipeline_constants.specs.Sizings.{sizing}
use Rattle.pipeline_constants.specs.Views.{written_of}

pub same_walk : (a b : Finished) → SameWalk a b → walk_of b ≡ walk_of a
same_walk a b w = rw (w.entries, w.operands, w.constants, w.images, w.settled, w.kinds) refl

same_more : (a b c : Finished) → SameWalk a b → SameWalk b c → SameWalk a c
same_more a b c v w =
    record {
      entries = w.entries ∙ v.entries;
      operands = w.operands ∙ v.operands;
      constants = w.constants ∙ v.constants;
      images = w.images ∙ v.images;
      settled = w.settled ∙ v.settled;
      kinds = w.kinds ∙ v.kinds;
    }

-- the inits are taken, then the variables are mapped, then come the sizes
pub closed : (m : Source) (z : Sizes) (a t b : Finished) (e : Result (Unit {0}) Refusal) (u : Unit {0}) (r : Result Sizes Refusal) → e ≡ Ok u →
    items t.overrides ≡ all_taken (walk_of a) (vec_items m.overrides) → SameWalk a t → SameRoom a t →
    b.overrides ≡ t.overrides → items b.variables ≡ variables_mapped (written_of t.images) (vec_items m.variables) → SameWalk t b → SameRoom t b →
    SizedAs (sizing (walk_of b) 0 (sizes_of z)) r → Closed m z a b e r
closed m z a t b e u r ok taken v p same mapped w q sizes =
    record {
      overrides = ap items same ∙ taken;
      sized = subst (λ (x : Result (Unit {0}) Refusal). Sized m z a b x r) (sym ok) (
        mapped ∙ ap (λ (s : Slots). variables_mapped (written_of s) (vec_items m.variables)) v.images,
        subst (λ (s : State). SizedAs (sizing s 0 (sizes_of z)) r) (same_walk a b (same_more a t b v w)) sizes,
      );
      walk = same_more a t b v w;
      room = q ∙ p;
    }
