-- What a record with its operands sent to their images uses and names.
use Rattle.std.proofs.Common.{◌≡◌, ◌==◌, ℕ, Bool, true, false, cond, not, ◌⊎◌, List, [], ◌∷◌, length, unwrap_or, sym, refl, ap, ◌∙◌, inl, inr}
use Rattle.std.specs.List.{slice_get, ContainsAt as Has, AllByRecursion}
use Rattle.std.proofs.lemmas.Bool.{eqb-false, eq-eqb}
use Rattle.kinds.specs.declared.Slot.{Slot}
use Rattle.kinds.specs.Kinds.{records, result_slot}
use Rattle.arena.specs.Nodes.{Node}
use Rattle.operands.specs.Faults.{absent}
use Rattle.blocks.specs.Sight.{present, slots_for, picked, operands_that, uses, results}
use Rattle.walking.specs.Images.{image_of, images_of}
use Rattle.adjusting.specs.Rules.{adjusted}
use Rattle.adjusting.proofs.Members.{has_none, has_here, has_there, has_cons}
use Rattle.adjusting.proofs.Adding.{length_images}

picked_images : (images : List ℕ) (test : Slot → Bool) (ss : List Slot) (hs : List ℕ) → picked test ss (images_of images hs) ≡ images_of images (picked test ss hs)
picked_images images test [] hs = refl
picked_images images test (s ∷ ss) [] = refl
picked_images images test (s ∷ ss) (h ∷ hs) = go (test s) (picked_images images test ss hs)
  where
    go : (b : Bool) → picked test ss (images_of images hs) ≡ images_of images (picked test ss hs) →
        cond b (image_of images h ∷ picked test ss (images_of images hs)) (picked test ss (images_of images hs)) ≡ images_of images (cond b (h ∷ picked test ss hs) (picked test ss hs))
    go true r = ap (λ (l : List ℕ). image_of images h ∷ l) r
    go false r = r

-- the operands of a record whose slot passes
abbrev pub passing : (Slot → Bool) → Node → List ℕ
passing test n = picked test (slots_for (slice_get records n.kind) (length n.operands)) n.operands

that_images : (images : List ℕ) (test : Slot → Bool) (n : Node) → operands_that test (adjusted images n) ≡ present (images_of images (passing test n))
that_images images test n =
    ap (λ (k : ℕ). present (picked test (slots_for (slice_get records n.kind) k) (images_of images n.operands))) (length_images images n.operands)
    ∙ ap present (picked_images images test (slots_for (slice_get records n.kind) (length n.operands)) n.operands)

pub uses_images : (images : List ℕ) (n : Node) → uses (adjusted images n) ≡ present (images_of images (passing (λ s. not (result_slot s)) n))
unfolding uses
uses_images images n = that_images images (λ s. not (result_slot s)) n

pub uses_are : (n : Node) → uses n ≡ present (passing (λ s. not (result_slot s)) n)
unfolding uses
uses_are n = refl

pub results_images : (images : List ℕ) (n : Node) → results (adjusted images n) ≡ present (images_of images (passing result_slot n))
unfolding results
results_images images n = that_images images result_slot n

pub results_are : (n : Node) → results n ≡ present (passing result_slot n)
unfolding results
results_are n = refl

-- ---- operands that are there

pub image_absent : (images : List ℕ) (h : ℕ) → (h == absent) ≡ true → image_of images h ≡ absent
image_absent images h e = ap (λ (b : Bool). cond b absent (unwrap_or (slice_get images h) absent)) e

pub present_absent : (h : ℕ) (hs : List ℕ) → h ≡ absent → present (h ∷ hs) ≡ present hs
present_absent h hs e = ap (λ (b : Bool). cond (not b) (h ∷ present hs) (present hs)) (eq-eqb h absent e)

pub present_there : (h : ℕ) (hs : List ℕ) → (h == absent) ≡ false → present (h ∷ hs) ≡ h ∷ present hs
present_there h hs e = ap (λ (b : Bool). cond (not b) (h ∷ present hs) (present hs)) e

pub each_present : (os : List ℕ) → AllByRecursion (λ x. x ≡ absent → ⊥) (present os)
each_present [] = tt
each_present (h ∷ hs) = go (h == absent) refl (each_present hs)
  where
    go : (b : Bool) → (h == absent) ≡ b → AllByRecursion (λ x. x ≡ absent → ⊥) (present hs) → AllByRecursion (λ x. x ≡ absent → ⊥) (cond (not b) (h ∷ present hs) (present hs))
    go true e r = r
    go false e r = (eqb-false h absent e, r)

-- what is said of each operand is said of those that are there
pub each_kept : (P : ℕ → Type 0) (os : List ℕ) → AllByRecursion P os → AllByRecursion P (present os)
each_kept P [] a = tt
each_kept P (h ∷ hs) a = go (h == absent) (each_kept P hs a.1)
  where
    go : (b : Bool) → AllByRecursion P (present hs) → AllByRecursion P (cond (not b) (h ∷ present hs) (present hs))
    go true r = r
    go false r = (a.0, r)

-- an image that is there is that of an operand that is there
pub image_from : (images os : List ℕ) (x : ℕ) → Has (images_of images os) x → (x ≡ absent → ⊥) → (o : ℕ) × Has (present os) o × (x ≡ image_of images o)
image_from images [] x a p = absurd (has_none x a)
image_from images (o ∷ os) x a p = go (o == absent) refl (λ q. image_from images os x q p) (has_cons x (image_of images o) (images_of images os) a)
  where
    go : (b : Bool) → (o == absent) ≡ b → (Has (images_of images os) x → (i : ℕ) × Has (present os) i × (x ≡ image_of images i)) → (image_of images o ≡ x) ⊎ Has (images_of images os) x →
        (i : ℕ) × Has (cond (not b) (o ∷ present os) (present os)) i × (x ≡ image_of images i)
    go true e r (inl q) = absurd (p (sym q ∙ image_absent images o e))
    go true e r (inr q) = r q
    go false e r (inl q) = (o, has_here o (present os), sym q)
    go false e r (inr q) = let f = r q in (f.0, has_there f.0 o (present os) f.1, f.2)
