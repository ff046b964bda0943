-- Where a walk over a body sends handles: what the order and the sight of emitted entries rest on, one image more.
use Rattle.std.proofs.Common.{◌≡◌, ℕ, ◌+◌, ◌-◌, ◌<◌, ◌≤◌, Bool, true, false, cond, eqb, All, List, [], ◌∷◌, ◌++◌, length, unwrap_or, Some, sym, refl, ap, ◌∙◌, subst, inl, inr, ⊎_elim, arith}
use Rattle.std.specs.List.{slice_get, ContainsAt as Has}
use Rattle.std.proofs.lemmas.Bool.{cases_lt, true≢false, false≢true, eqb-false}
use Rattle.std.proofs.lemmas.List.Elements.{All-head, All-tail, All-weaker}
use Rattle.std.proofs.lemmas.Option.{slice_get_within, slice_get_past, same_Some}
use Rattle.arena.specs.Nodes.{Node}
use Rattle.blocks.specs.Sight.{is_pre_emit, pre_emit}
use Rattle.operands.specs.Faults.{absent}
use Rattle.ir.specs.Faults.{constant, overriding}
use Rattle.evaluator.specs.Clauses.{Below, PreEmit, Place, From, Lawful}
use Rattle.evaluator.proofs.Standing.{get_left, get_right}
use Rattle.walking.specs.States.{State}
use Rattle.walking.specs.Images.{image_of, images_of, mapped}
use Rattle.walking.specs.BodyLaws.{Brought, Sends}
use Rattle.walking.proofs.Holding.{each_pushed}

-- ---- what stands stays

image_stays : (images more : List ℕ) (h : ℕ) → Below (length images) h → image_of (images ++ more) h ≡ image_of images h
image_stays images more h b = go (eqb h absent) refl b
  where
    go : (s : Bool) → eqb h absent ≡ s → Below (length images) h → cond s absent (unwrap_or (slice_get (images ++ more) h) absent) ≡ cond s absent (unwrap_or (slice_get images h) absent)
    go true x b = refl
    go false x (inl a) = absurd (eqb-false _ _ x a)
    go false x (inr l) = ap (λ q. unwrap_or q absent) (get_left images more h l)

images_stay : (images more hs : List ℕ) → All (Below (length images)) hs → images_of (images ++ more) hs ≡ images_of images hs
images_stay images more [] all = refl
images_stay images more (h ∷ hs) all =
    ap (λ x. x ∷ images_of (images ++ more) hs) (image_stays images more h (All-head (Below (length images)) h hs all))
    ∙ ap (λ xs. image_of images h ∷ xs) (images_stay images more hs (All-tail (Below (length images)) h hs all))

pre_emit_within : (es : List Node) (h : ℕ) → PreEmit es h → h < length es
pre_emit_within es h p = ⊎_elim (λ (l : h < length es). l) (λ (l : length es ≤ h). absurd (false≢true (sym (ap pre_emit (slice_get_past es h l)) ∙ p))) (cases_lt h (length es))

pre_emit_left : (es more : List Node) (h : ℕ) → PreEmit es h → PreEmit (es ++ more) h
pre_emit_left es more h p = ap pre_emit (get_left es more h (pre_emit_within es h p)) ∙ p

brought_more : (es more : List Node) (images last : List ℕ) (e : Node) → All (Below (length images)) e.operands → (h : ℕ) → Brought es images e h → Brought (es ++ more) (images ++ last) e h
brought_more es more images last e below h (inl x) = inl (subst (λ hs. Has hs h) (sym (images_stay images last e.operands below)) x)
brought_more es more images last e below h (inr x) = inr (pre_emit_left es more h x)

-- a pre-emit entry is mapped to one
mapped_pre_emit : (s : State) (e : Node) → pre_emit (Some e) ≡ true → pre_emit (Some (mapped s e)) ≡ true
mapped_pre_emit s e p = go (eqb e.kind overriding)
  where
    go : (b : Bool) → is_pre_emit (cond b constant e.kind) ≡ true
    go true = refl
    go false = p

-- ---- one image more

-- a lawful fold of the mapped entry, which is that of the next old handle
module _ (old : List Node) (s : State) (e : Node) (added : List Node) (a : ℕ)
    (within : (h i : ℕ) → slice_get s.images h ≡ Some i → i < length s.tables.entries)
    (below : (h : ℕ) (d : Node) → slice_get old h ≡ Some d → All (Below h) d.operands)
    (there : slice_get old (length s.images) ≡ Some e) (law : Lawful s.tables (mapped s e) added a) (so : Sends old s.tables.entries s.images) where
  abbrev es : List Node
  es = s.tables.entries

  abbrev images : List ℕ
  images = s.images

  abbrev new : List Node
  new = es ++ added

  -- the operands of an old entry up to this one have images
  operands_below : (h : ℕ) (d : Node) → h ≤ length images → slice_get old h ≡ Some d → All (Below (length images)) d.operands
  operands_below h d l x = All-weaker (Below h) (Below (length images)) (λ j b. more j b) d.operands (below h d x)
    where
      more : (j : ℕ) → Below h j → Below (length images) j
      more j (inl y) = inl y
      more j (inr y) = inr (omega (arith, y, l))

  -- an earlier image's entry
  stays : (h i : ℕ) → slice_get images h ≡ Some i → slice_get new i ≡ slice_get es i
  stays h i x = get_left es added i (within h i x)

  -- an answer that is not pre-emit is the last added
  newest : pre_emit (slice_get new a) ≡ false → (0 < length added) × (a + 1 ≡ length es + length added)
  newest off = go law.place
    where
      go : Place es added a → (0 < length added) × (a + 1 ≡ length es + length added)
      go (inl p) = absurd (true≢false (sym (pre_emit_left es added a p.1) ∙ off))
      go (inr p) = p

  abbrev Stays : ℕ → ℕ → Type 0
  Stays h i = pre_emit (slice_get old h) ≡ true → pre_emit (slice_get new i) ≡ true

  abbrev Above : ℕ → ℕ → Type 0
  Above h i = pre_emit (slice_get new i) ≡ false → (g j : ℕ) → g < h → slice_get (images ++ a ∷ []) g ≡ Some j → j < i

  abbrev Sent : ℕ → ℕ → Type 0
  Sent h i = (d n : Node) → slice_get old h ≡ Some d → slice_get new i ≡ Some n → pre_emit (Some n) ≡ false → All (Brought new (images ++ a ∷ []) d) n.operands

  earlier : (h i g j : ℕ) → slice_get images h ≡ Some i → g < h → slice_get (images ++ a ∷ []) g ≡ Some j → slice_get images g ≡ Some j
  earlier h i g j x l y = sym (get_left images (a ∷ []) g (omega (arith, l, slice_get_within images h i x))) ∙ y

  sent_last : Sent (length images) a
  sent_last d n x y off = All-weaker (From new (mapped s e)) (Brought new (images ++ a ∷ []) d) go n.operands (law.operands k n (sym (get_right es added k) ∙ ap (slice_get new) place ∙ y))
    where
      last : (0 < length added) × (a + 1 ≡ length es + length added)
      last = newest (ap pre_emit y ∙ off)

      k : ℕ
      k = length added - 1

      place : length es + k ≡ a
      place = omega (arith, last.0, last.1)

      is : e ≡ d
      is = same_Some e d (sym there ∙ x)

      go : (j : ℕ) → From new (mapped s e) j → Brought new (images ++ a ∷ []) d j
      go j (inl z) =
          inl (subst (λ (b : Node). Has (images_of (images ++ a ∷ []) b.operands) j) is
          (subst (λ hs. Has hs j) (sym (images_stay images (a ∷ []) e.operands (operands_below (length images) e (omega arith) there))) z))
      go j (inr z) = inr z

  pub sends_more : Sends old new (images ++ a ∷ [])
  sends_more =
      record {
        pre_emit_stays = each_pushed Stays images a
            (λ h i x p. ap pre_emit (stays h i x) ∙ so.pre_emit_stays h i x p)
            (λ p. law.pre_emit_stays (mapped_pre_emit s e (sym (ap pre_emit there) ∙ p)));
        above = λ h i g j x off l y. each_pushed Above images a
            (λ h i x off g j l y. so.above h i g j x (sym (ap pre_emit (stays h i x)) ∙ off) l (earlier h i g j x l y))
            (λ off g j l y. let last = newest off in omega (arith, last.0, last.1, within g j (sym (get_left images (a ∷ []) g l) ∙ y)))
            h i x off g j l y;
        operands = λ h i d n x. each_pushed Sent images a
            (λ h i x d n y z off. All-weaker (Brought es images d) (Brought new (images ++ a ∷ []) d)
            (λ j. brought_more es added images (a ∷ []) d (operands_below h d (omega (arith, slice_get_within images h i x)) y) j)
            n.operands (so.operands h i d n x y (sym (stays h i x) ∙ z) off))
            sent_last h i x d n;
      }
