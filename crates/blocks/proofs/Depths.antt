-- The most blocks that were open so far.
use Rattle.std.proofs.Common.{◌≡◌, ℕ, zero, suc, ◌+◌, ◌-◌, ◌<◌, ◌≤◌, max, List, [], ◌∷◌, ◌++◌, length, take, Some, sym, refl, ap, ◌∙◌, ⊎_elim, arith}
use Rattle.std.specs.List.{slice_get}
use Rattle.std.proofs.lemmas.Bool.{cases_lt}
use Rattle.arena.specs.Nodes.{Node}
use Rattle.blocks.specs.declared.Role.{Role}
use Rattle.blocks.specs.declared.Role.TheVariants.{Opening, Closing, Doing}
use Rattle.blocks.specs.Blocks.{role_given_to, opens, closes, opened, closed}
use Rattle.blocks.specs.Depth.{depth_at, Deepest}
use Rattle.blocks.proofs.Parts.{one_more}

-- after i records, o blocks were opened and c closed, and at most d were open at once
pub record Counts (rs : List Node) (i o c d : ℕ) : Type 0 where
  pub opens_are : opened (take i rs) ≡ o
  pub closes_are : closed (take i rs) ≡ c
  pub reached : (k : ℕ) × (k ≤ i) × (depth_at rs k ≡ d)
  pub most : (k : ℕ) → k ≤ i → depth_at rs k ≤ d

pub opens_one : (r : Role) → opens r ≤ 1
opens_one Opening = omega arith
opens_one Closing = omega arith
opens_one (Doing n) = omega arith

pub closes_one : (r : Role) → closes r ≤ 1
closes_one Opening = omega arith
closes_one Closing = omega arith
closes_one (Doing n) = omega arith

opened_push : (rs : List Node) (e : Node) → opened (rs ++ (e ∷ [])) ≡ opened rs + opens (role_given_to e)
opened_push [] e = omega arith
opened_push (x ∷ rs) e = let h = opened_push rs e in omega arith

closed_push : (rs : List Node) (e : Node) → closed (rs ++ (e ∷ [])) ≡ closed rs + closes (role_given_to e)
closed_push [] e = omega arith
closed_push (x ∷ rs) e = let h = closed_push rs e in omega arith

at_start : (rs : List Node) (k : ℕ) → k ≤ 0 → depth_at rs k ≤ 0
at_start rs zero l = omega arith
at_start rs (suc k) l = absurd (omega arith)

pub counts_none : (rs : List Node) → Counts rs 0 0 0 0
counts_none rs = record { opens_are = refl; closes_are = refl; reached = (0, omega arith, refl); most = at_start rs }

pub counts_more : (rs : List Node) (i o c d : ℕ) (e : Node) (r : Role) (p q m : ℕ) → slice_get rs i ≡ Some e →
    role_given_to e ≡ r → p ≡ o + opens r → q ≡ c + closes r → m ≡ max d (p - q) → Counts rs i o c d → Counts rs (i + 1) p q m
counts_more rs i o c d e r p q m n is a b x h =
    let front = one_more rs i e n in
    let ups : opened (take (i + 1) rs) ≡ p = ap opened front ∙ opened_push (take i rs) e ∙ ap (λ t. t + opens (role_given_to e)) h.opens_are ∙ ap (λ t. o + opens t) is ∙ sym a in
    let downs : closed (take (i + 1) rs) ≡ q = ap closed front ∙ closed_push (take i rs) e ∙ ap (λ t. t + closes (role_given_to e)) h.closes_are ∙ ap (λ t. c + closes t) is ∙ sym b in
    let here : depth_at rs (i + 1) ≡ p - q = ap (λ t. t - closed (take (i + 1) rs)) ups ∙ ap (λ t. p - t) downs in
    record {
      opens_are = ups;
      closes_are = downs;
      reached = ⊎_elim
          (λ (l : d < p - q). (i + 1, omega arith, here ∙ greater l))
          (λ (l : p - q ≤ d). (h.reached.0, omega (arith, h.reached.1), h.reached.2 ∙ lesser l))
          (cases_lt d (p - q));
      most = λ k l. ⊎_elim (λ (s : k < i + 1). before k (h.most k (omega arith))) (λ (s : i + 1 ≤ k). at k (omega arith) here) (cases_lt k (i + 1));
    }
  where
    greater : d < p - q → p - q ≡ m
    greater l = omega arith

    lesser : p - q ≤ d → d ≡ m
    lesser l = omega arith

    before : (k : ℕ) → depth_at rs k ≤ d → depth_at rs k ≤ m
    before k l = omega arith

    at : (k : ℕ) → k ≡ i + 1 → depth_at rs (i + 1) ≡ p - q → depth_at rs k ≤ m
    at k s here = let same : depth_at rs k ≡ depth_at rs (i + 1) = ap (depth_at rs) s in omega arith

pub counts_all : (rs : List Node) (i o c d : ℕ) → i ≡ length rs → Counts rs i o c d → Deepest rs d
counts_all rs i o c d l h =
    record { reached = (h.reached.0, omega (arith, h.reached.1), h.reached.2); most = λ k s. h.most k (omega arith) }
