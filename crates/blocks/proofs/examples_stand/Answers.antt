use Rattle.std.proofs.Common.{◌≡◌, ℕ, [], ◌∷◌, refl, inl, inr, arith, lit<}
use Rattle.blocks.specs.Blocks.{blocks_after_of}
use Rattle.blocks.specs.Sight.{uses, results, Sees}
use Rattle.blocks.specs.Examples.{entries}
use Rattle.blocks.proofs.examples_stand.Goals as goal

literal : Sees entries [] 0
literal = inl refl

one : Sees entries (1 ∷ []) 1
one = inr (0, lit< tt, λ d. refl)

two : Sees entries (1 ∷ 2 ∷ []) 2
two = inr (1, lit< tt, λ d. refl)

unseen : Sees entries [] 1 → ⊥
unseen (inl e) = let z : ◌≡◌ {A = ℕ} 0 1 = cc in omega arith
unseen (inr h) = omega (arith, h.1)

pub returns : goal.returns
unfolding uses results blocks_after_of
returns c =
    record {
      woven = refl;
      call_uses = refl;
      call_names = refl;
      two_deep = (refl, refl, ((refl, tt), ((refl, ((refl, refl, ((refl, tt), tt)), ((refl, refl, tt), tt))), tt)));
      not_one_deep = λ h. h.2.1.0.1.0;
      inside = (((literal, tt), tt), (((one, tt), ((((one, tt), tt), tt), (tt, tt))), tt));
      after = λ h. unseen h.1.0.0.0;
      loop = (((((literal, tt), tt), tt), ((((one, tt), tt), tt), (two, tt))), tt);
    }
