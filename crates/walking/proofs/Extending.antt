-- Constants that change where no entry names them: the trees stay.
use Rattle.std.proofs.Common.{◌≡◌, ℕ, suc, true, List, [], ◌∷◌, ◌++◌, Some, None, Option, sym, refl, ap, ◌∙◌, inr}
use Rattle.std.specs.List.{slice_get}
use Rattle.std.specs.Option.{option_map}
use Rattle.std.proofs.lemmas.Option.{slice_get-map}
use Rattle.arena.specs.Nodes.{Node}
use Rattle.evaluator.specs.declared.tables.NewConstant.{NewConstant}
use Rattle.evaluator.specs.Trees.{Tree, Reading, tree_at, tree_if, tree_of, grown, word}
use Rattle.evaluator.specs.Tables.{Constants}
use Rattle.evaluator.specs.Clauses.{inits_of, reading_by, reading, trees, Named, Stands}
use Rattle.evaluator.proofs.Growing.{tree_agrees}
use Rattle.evaluator.proofs.Standing.{operand_is}

-- what is mapped stays as it is
pub record Stays (cs ds : List NewConstant) : Type 0 where
  pub stays : (n : ℕ) (k : NewConstant) → slice_get cs n ≡ Some k → k.mapped ≡ true → slice_get ds n ≡ Some k

-- these constants, in the place of c's
abbrev pub with_list : Constants → List NewConstant → Constants
with_list c ds = record { list = ds; globals = c.globals }

init_at_number : (cs : List NewConstant) (n : ℕ) (k : NewConstant) → slice_get cs n ≡ Some k → slice_get (inits_of (record { list = cs; globals = None })) n ≡ Some k.init
init_at_number cs n k s = slice_get-map (λ (x : NewConstant). x.init) cs n ∙ ap (option_map (λ (x : NewConstant). x.init)) s

constant_by : (inits : List ℕ) (o : Option (List Node)) (ts : List Tree) (n : ℕ) → o ≡ None → (reading_by inits o ts).constant_at n ≡ tree_if ts (slice_get inits n)
constant_by inits o ts n e = ap (λ (x : Option (List Node)). (reading_by inits x ts).constant_at n) e

-- a constant of a module is read at its init
pub constant_is : (c : Constants) (ts : List Tree) (n : ℕ) (k : NewConstant) → c.globals ≡ None → slice_get c.list n ≡ Some k → (reading c ts).constant_at n ≡ tree_at ts k.init
constant_is c ts n k none s = constant_by (inits_of c) c.globals ts n none ∙ ap (tree_if ts) (init_at_number c.list n k s)

pub stand_stays : (c : Constants) (ds : List NewConstant) (k : ℕ) (e : Node) → Stays c.list ds → Stands c k e → Stands (with_list c ds) k e
stand_stays c ds k e x st =
    record {
      shaped = st.shaped;
      below = st.below;
      literal = st.literal;
      no_override = st.no_override;
      named = λ y. named (st.named y);
    }
  where
    named : Named c k (word e 0) → Named (with_list c ds) k (word e 0)
    named m = record { init = m.init; there = x.stays (word e 0) m.init m.there m.mapped; mapped = m.mapped; below = m.below }

reads_alike : (c : Constants) (ds : List NewConstant) (k : ℕ) (e : Node) (ts : List Tree) → c.globals ≡ None → Stays c.list ds → Stands c k e → tree_of (reading (with_list c ds) ts) e ≡ tree_of (reading c ts) e
reads_alike c ds k e ts none x st =
    tree_agrees (reading (with_list c ds) ts) (reading c ts) e
    (λ i d l. inr (operand_is (with_list c ds) ts _ ∙ sym (operand_is c ts _)))
    (λ y. named (st.named y))
    (λ y. absurd (st.no_override y))
  where
    named : Named c k (word e 0) → (reading (with_list c ds) ts).constant_at (word e 0) ≡ (reading c ts).constant_at (word e 0)
    named m =
        constant_is (with_list c ds) ts (word e 0) m.init none (x.stays (word e 0) m.init m.there m.mapped)
        ∙ sym (constant_is c ts (word e 0) m.init none m.there)

-- two ways of reading that agree on each entry
grown_same : (w v : List Tree → Reading) (ts : List Tree) (es : List Node) → ((k : ℕ) (e : Node) → slice_get es k ≡ Some e → (us : List Tree) → tree_of (w us) e ≡ tree_of (v us) e) → grown w ts es ≡ grown v ts es
grown_same w v ts [] agree = refl
grown_same w v ts (e ∷ es) agree =
    ap (λ t. grown w (ts ++ t ∷ []) es) (agree 0 e refl ts)
    ∙ grown_same w v (ts ++ tree_of (v ts) e ∷ []) es (λ k f s us. agree (suc k) f s us)

pub trees_stay_as : (c : Constants) (ds : List NewConstant) (es : List Node) → c.globals ≡ None → Stays c.list ds → ((k : ℕ) (e : Node) → slice_get es k ≡ Some e → Stands c k e) → trees (with_list c ds) es ≡ trees c es
trees_stay_as c ds es none x st =
    grown_same (reading (with_list c ds)) (reading c) [] es (λ k e s us. reads_alike c ds k e us none x (st k e s))
