-- Entries that may stand: all that they read lies below them. One entry put at the end.
use Rattle.std.proofs.Common.{◌≡◌, ℕ, zero, suc, ◌+◌, ◌-◌, ◌<◌, ◌≤◌, true, All, List, [], ◌∷◌, ◌++◌, length, take, replicate, Some, None, Option, sym, refl, ap, ◌∙◌, subst, inl, inr, ⊎_elim, arith}
use Rattle.std.specs.List.{slice_get}
use Rattle.std.specs.Option.{option_map}
use Rattle.std.proofs.lemmas.Bool.{cases_lt, false≢true}
use Rattle.std.proofs.lemmas.List.{length-append, length-replicate, get_or_default}
use Rattle.std.proofs.lemmas.List.Elements.{All-weaker}
use Rattle.std.proofs.lemmas.Option.{slice_get_within, slice_get_past, slice_get-map, none-some, same_Some}
use Rattle.arena.specs.Nodes.{Node}
use Rattle.blocks.specs.Sight.{pre_emit}
use Rattle.evaluator.specs.declared.tables.NewConstant.{NewConstant}
use Rattle.evaluator.specs.Trees.{Tree, tree_at, tree_if, tree_of, word}
use Rattle.evaluator.specs.declared.expression_kind.ExpressionKind.{ExpressionKind}
use Rattle.evaluator.specs.Tables.{Constants, Tables, adding}
use Rattle.evaluator.specs.Clauses.{inits_of, reading_by, reading, trees, tree_next, Below, reach, Named, Stands, WellFormed, From, Place, PreEmit, Lawful}
use Rattle.evaluator.proofs.Growing.{Agree, tree_agrees, tree_stays, tree_below, tree_pushed, tree_there}

-- ---- what is read

operand_by : (inits : List ℕ) (o : Option (List Node)) (ts : List Tree) (h : ℕ) → (reading_by inits o ts).operand h ≡ tree_at ts h
operand_by inits None ts h = refl
operand_by inits (Some gs) ts h = refl

-- an operand is read where it stands
pub operand_is : (c : Constants) (ts : List Tree) (h : ℕ) → (reading c ts).operand h ≡ tree_at ts h
operand_is c ts h = operand_by (inits_of c) c.globals ts h

constant_by : (inits : List ℕ) (o : Option (List Node)) (ts us : List Tree) (k n i : ℕ) → ((j : ℕ) → j < k → tree_at ts j ≡ tree_at us j) → slice_get inits n ≡ Some i → i < reach o k →
    (reading_by inits o ts).constant_at n ≡ (reading_by inits o us).constant_at n
constant_by inits None ts us k n i agree s l = ap (tree_if ts) s ∙ agree i l ∙ ap (tree_if us) (sym s)
constant_by inits (Some gs) ts us k n i agree s l = refl

init_there : (c : Constants) (k n : ℕ) (m : Named c k n) → slice_get (inits_of c) n ≡ Some m.init.init
init_there c k n m = slice_get-map (λ (x : NewConstant). x.init) c.list n ∙ ap (option_map (λ (x : NewConstant). x.init)) m.there

-- a constant that an entry may name is read alike over trees that agree below it
pub constant_agrees : (c : Constants) (ts us : List Tree) (k n : ℕ) → ((j : ℕ) → j < k → tree_at ts j ≡ tree_at us j) → Named c k n → (reading c ts).constant_at n ≡ (reading c us).constant_at n
constant_agrees c ts us k n agree m = constant_by (inits_of c) c.globals ts us k n m.init.init agree (init_there c k n m) m.below

-- an entry that may stand at k reads nothing else than what lies below k
pub reads_below : (c : Constants) (ts us : List Tree) (k : ℕ) (e : Node) → Stands c k e → ((j : ℕ) → j < k → tree_at ts j ≡ tree_at us j) → tree_of (reading c ts) e ≡ tree_of (reading c us) e
reads_below c ts us k e st agree =
    tree_agrees (reading c ts) (reading c us) e
    (All-weaker (Below k) (Agree (reading c ts).operand (reading c us).operand) operands e.operands st.below)
    (λ x. constant_agrees c ts us k (word e 0) agree (st.named x))
    (λ x. absurd (st.no_override x))
  where
    operands : (h : ℕ) → Below k h → Agree (reading c ts).operand (reading c us).operand h
    operands h (inl a) = inl a
    operands h (inr l) = inr (operand_is c ts h ∙ agree h l ∙ sym (operand_is c us h))

-- ---- trees of the tables

pub trees_stay : (c : Constants) (es fs : List Node) (h : ℕ) → h < length es → tree_at (trees c (es ++ fs)) h ≡ tree_at (trees c es) h
trees_stay c es fs h l = tree_stays (reading c) es fs h l

-- an entry that stands has the tree that the whole table gives it
pub tree_standing : (c : Constants) (es : List Node) (h : ℕ) (e : Node) → Stands c h e → slice_get es h ≡ Some e → tree_at (trees c es) h ≡ tree_of (reading c (trees c es)) e
tree_standing c es h e st s =
    let inside : h < length es = slice_get_within es h e s in
    tree_there (reading c) es h e s
    ∙ reads_below c (trees c (take h es)) (trees c es) h e st (λ j l. tree_below (reading c) es h j (omega (arith, inside)) l)

pub tree_of_next : (c : Constants) (es : List Node) (e : Node) → tree_at (trees c (es ++ e ∷ [])) (length es) ≡ tree_of (reading c (trees c es)) e
tree_of_next c es e = tree_pushed (reading c) es e (length es) refl

-- ---- lists of entries

pub get_pushed : {X : Type 0} (xs : List X) (x : X) → slice_get (xs ++ x ∷ []) (length xs) ≡ Some x
get_pushed [] x = refl
get_pushed (y ∷ xs) x = get_pushed xs x

pub get_left : {X : Type 0} (xs ys : List X) (h : ℕ) → h < length xs → slice_get (xs ++ ys) h ≡ slice_get xs h
get_left [] ys h l = absurd (omega (arith, l))
get_left (x ∷ xs) ys zero l = refl
get_left (x ∷ xs) ys (suc h) l = get_left xs ys h (omega (arith, l))

pub get_right : {X : Type 0} (xs ys : List X) (i : ℕ) → slice_get (xs ++ ys) (length xs + i) ≡ slice_get ys i
get_right [] ys i = let e : 0 + i ≡ i = omega arith in rw e refl
get_right (x ∷ xs) ys i = let e : suc (length xs) + i ≡ suc (length xs + i) = omega arith in rw e (get_right xs ys i)

-- what is true of the one entry of a list
one_entry : (P : ℕ → Node → Type 0) (n : Node) → P 0 n → (i : ℕ) (e : Node) → slice_get (n ∷ []) i ≡ Some e → P i e
one_entry P n p zero e s = subst (P 0) (same_Some n e s) p
one_entry P n p (suc i) e s = absurd (none-some e s)

-- every operand of an entry is one of its own
pub own_operands : (es : List Node) (e : Node) → All (From es e) e.operands
own_operands es e = λ k d l. inl (k, l, λ f. get_or_default e.operands k f d l)

-- ---- one entry put at the end

-- for an entry with the same tree
pub push_lawful : (t : Tables) (asked n : Node) → Stands t.constants (length t.entries) n → tree_next t n ≡ tree_next t asked → All (From (t.entries ++ n ∷ []) asked) n.operands →
    (pre_emit (Some asked) ≡ true → pre_emit (Some n) ≡ true) → n.span ≡ asked.span → Lawful t asked (n ∷ []) (length t.entries)
push_lawful t asked n st same from pre span =
    record {
      tree = tree_of_next t.constants t.entries n ∙ same;
      place = inr (omega arith, omega arith);
      others = λ i l. absurd (omega (arith, l));
      pre_emit_stays = λ p. ap pre_emit (get_pushed t.entries n) ∙ pre p;
      stand = one_entry (λ i e. Stands t.constants (length t.entries + i) e) n (let z : length t.entries + 0 ≡ length t.entries = omega arith in rw z st);
      operands = one_entry (λ i e. All (From (t.entries ++ n ∷ []) asked) e.operands) n from;
      span = one_entry (λ i e. e.span ≡ asked.span) n span;
    }

-- for itself
pub self_lawful : (t : Tables) (e : Node) → Stands t.constants (length t.entries) e → Lawful t e (e ∷ []) (length t.entries)
self_lawful t e st = push_lawful t e e st refl (own_operands (t.entries ++ e ∷ []) e) (λ p. p) refl

-- ---- what a lawful fold leaves

pub stand_append : (c : Constants) (es fs : List Node) → ((k : ℕ) (e : Node) → slice_get es k ≡ Some e → Stands c k e) → ((i : ℕ) (e : Node) → slice_get fs i ≡ Some e → Stands c (length es + i) e) →
    (k : ℕ) (e : Node) → slice_get (es ++ fs) k ≡ Some e → Stands c k e
stand_append c es fs old new k e s = ⊎_elim (λ (l : k < length es). old k e (sym (get_left es fs k l) ∙ s)) (λ (l : length es ≤ k). later (k - length es) (omega arith)) (cases_lt k (length es))
  where
    later : (i : ℕ) → length es + i ≡ k → Stands c k e
    later i q = subst (λ x. Stands c x e) q (new i e (sym (get_right es fs i) ∙ ap (slice_get (es ++ fs)) q ∙ s))

pub formed_after : (t : Tables) (asked : Node) (added : List Node) (answer : ℕ) (k : ExpressionKind) → WellFormed t → Lawful t asked added answer → WellFormed (adding k added t)
formed_after t asked added answer k w l =
    record {
      stand = stand_append t.constants t.entries added w.stand l.stand;
      even = omega (arith, w.even, length-append t.kinds (replicate (length added) k), length-replicate (length added) k, length-append t.entries added);
    }

pre_emit_within : (es : List Node) (h : ℕ) → PreEmit es h → h < length es
pre_emit_within es h p = ⊎_elim (λ (l : h < length es). l) (λ (l : length es ≤ h). absurd (false≢true (sym (ap pre_emit (slice_get_past es h l)) ∙ p))) (cases_lt h (length es))

-- the answer stands in the tables
pub answer_within : (es added : List Node) (answer : ℕ) → Place es added answer → answer < length (es ++ added)
answer_within es added answer (inl p) = omega (arith, pre_emit_within es answer p.1, length-append es added)
answer_within es added answer (inr p) = omega (arith, p.0, p.1, length-append es added)
