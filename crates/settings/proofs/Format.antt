-- A settings file, cut into its parts and put together again.
use Rattle.std.proofs.Common.{◌≡◌, ℕ, zero, suc, ◌+◌, ◌*◌, ◌/◌, ◌%◌, ◌^◌, ◌<◌, ◌≤◌, List, [], ◌∷◌, ◌++◌, map, length, get_or, take, drop, Some, sum, sym, refl, ap, ◌∙◌, subst, pow-suc, mul-suc, arith}
use Rattle.std.specs.Simd.{first_chunks}
use Rattle.std.specs.List.{slice_get, flat_map, AllByRecursion, IsSplitAt}
use Rattle.std.proofs.lemmas.List.{take_at, drop_at, take-append-drop, length-take-le, length-drop, length-append, length-map, drop-drop}
use Rattle.std.proofs.lemmas.List.Sums.{sum_by-cons}
use Rattle.std.proofs.ByRecursion.{All-take, All-drop}
use Rattle.settings.specs.Layout.{bytes_of, number_of, Given, Valid, encode, pieces, Encodes}

abbrev Bytes : List ℕ → Type 0
Bytes bs = AllByRecursion (λ b. b < 256) bs

-- ---- numbers and their bytes

bytes_of_number_of : (bs : List ℕ) → Bytes bs → bytes_of (length bs) (number_of bs) ≡ bs
bytes_of_number_of [] h = refl
bytes_of_number_of (b ∷ bs) h =
    let low : (b + 256 * number_of bs) % 256 ≡ b = omega (arith, h.0) in
    let high : (b + 256 * number_of bs) / 256 ≡ number_of bs = omega (arith, h.0) in
    let rest = bytes_of_number_of bs h.1 in cc

number_of_bytes_of : (k v : ℕ) → v < 256 ^ k → number_of (bytes_of k v) ≡ v
number_of_bytes_of zero v h = omega arith
number_of_bytes_of (suc k) v h =
    let p = pow-suc 256 k in
    let less : v / 256 < 256 ^ k = omega arith in
    let rest = number_of_bytes_of k (v / 256) less in omega arith

number_of_lt : (bs : List ℕ) → Bytes bs → number_of bs < 256 ^ length bs
number_of_lt [] h = omega arith
number_of_lt (b ∷ bs) h =
    let p = pow-suc 256 (length bs) in let rest = number_of_lt bs h.1 in omega (arith, h.0)

-- ---- pieces

pub pieces_joined : (ks : List (List ℕ)) → pieces (map length ks) (flat_map (λ k. k) ks) ≡ ks
pieces_joined [] = refl
pieces_joined (k ∷ ks) =
    let t = take_at k (flat_map (λ k. k) ks) (length k) refl in
    let d = drop_at k (flat_map (λ k. k) ks) (length k) refl in
    let rest = pieces_joined ks in cc

module _ (n : ℕ) (ns bs : List ℕ) (e : length bs ≡ sum (n ∷ ns)) where
  front : n ≤ length bs
  front = omega (arith, sum_by-cons (λ x. x) n ns)

  back : length (drop n bs) ≡ sum ns
  back = simp length-drop (omega (arith, sum_by-cons (λ x. x) n ns))

pub joined_pieces : (ns bs : List ℕ) → length bs ≡ sum ns → flat_map (λ k. k) (pieces ns bs) ≡ bs
joined_pieces [] [] e = refl
joined_pieces [] (b ∷ bs) e = absurd (omega arith)
joined_pieces (n ∷ ns) bs e =
    ap (λ r. take n bs ++ r) (joined_pieces ns (drop n bs) (back n ns bs e)) ∙ take-append-drop n bs

pub lengths_pieces : (ns bs : List ℕ) → length bs ≡ sum ns → map length (pieces ns bs) ≡ ns
lengths_pieces [] bs e = refl
lengths_pieces (n ∷ ns) bs e =
    let l = length-take-le n bs (front n ns bs e) in
    let rest = lengths_pieces ns (drop n bs) (back n ns bs e) in cc

pub length_pieces : (ns bs : List ℕ) → length (pieces ns bs) ≡ length ns
length_pieces [] bs = refl
length_pieces (n ∷ ns) bs = ap suc (length_pieces ns (drop n bs))

-- lengths below a limit
short_pieces : (ns bs : List ℕ) → length bs ≡ sum ns → Bytes ns → AllByRecursion (λ (k : List ℕ). length k < 256) (pieces ns bs)
short_pieces [] bs e h = tt
short_pieces (n ∷ ns) bs e h =
    (omega (arith, length-take-le n bs (front n ns bs e), h.0), short_pieces ns (drop n bs) (back n ns bs e) h.1)

-- ---- values

-- so many numbers of eight bytes each
abbrev pub eights_by : ℕ → List ℕ → List ℕ
eights_by n bs = map number_of (first_chunks 8 n bs)

eights_by_joined : (vs : List ℕ) → AllByRecursion (λ v. v < 2 ^ 64) vs → eights_by (length vs) (flat_map (bytes_of 8) vs) ≡ vs
eights_by_joined [] h = refl
eights_by_joined (v ∷ vs) h =
    let t = take_at (bytes_of 8 v) (flat_map (bytes_of 8) vs) 8 refl in
    let d = drop_at (bytes_of 8 v) (flat_map (bytes_of 8) vs) 8 refl in
    let one : number_of (bytes_of 8 v) ≡ v = number_of_bytes_of 8 v h.0 in
    let rest = eights_by_joined vs h.1 in cc

joined_eights_by : (n : ℕ) (bs : List ℕ) → length bs ≡ 8 * n → Bytes bs → flat_map (bytes_of 8) (eights_by n bs) ≡ bs
joined_eights_by zero [] e h = refl
joined_eights_by zero (b ∷ bs) e h = absurd (omega arith)
joined_eights_by (suc n) bs e h =
    let m = mul-suc 8 n in
    let l : length (take 8 bs) ≡ 8 = length-take-le 8 bs (omega arith) in
    let r : length (drop 8 bs) ≡ 8 * n = simp length-drop (omega arith) in
    let one = bytes_of_number_of (take 8 bs) (All-take _ 8 bs h) in
    let same : bytes_of 8 (number_of (take 8 bs)) ≡ take 8 bs = ap (λ k. bytes_of k (number_of (take 8 bs))) (sym l) ∙ one in
    let rest = joined_eights_by n (drop 8 bs) r (All-drop _ 8 bs h) in
    let all = take-append-drop 8 bs in cc

doubles_eights_by : (n : ℕ) (bs : List ℕ) → length bs ≡ 8 * n → Bytes bs → AllByRecursion (λ v. v < 2 ^ 64) (eights_by n bs)
doubles_eights_by zero bs e h = tt
doubles_eights_by (suc n) bs e h =
    let m = mul-suc 8 n in
    let l : length (take 8 bs) ≡ 8 = length-take-le 8 bs (omega arith) in
    let r : length (drop 8 bs) ≡ 8 * n = simp length-drop (omega arith) in
    (subst (λ k. number_of (take 8 bs) < 256 ^ k) l (number_of_lt (take 8 bs) (All-take _ 8 bs h)), doubles_eights_by n (drop 8 bs) r (All-drop _ 8 bs h))

length_joined : (vs : List ℕ) → length (flat_map (bytes_of 8) vs) ≡ 8 * length vs
length_joined [] = refl
length_joined (v ∷ vs) = let m = mul-suc 8 (length vs) in let rest = length_joined vs in omega arith

length_keys : (ks : List (List ℕ)) → length (flat_map (λ k. k) ks) ≡ sum (map length ks)
length_keys [] = refl
length_keys (k ∷ ks) =
    let s = sum_by-cons (λ x. x) (length k) (map length ks) in let rest = length_keys ks in
    simp length-append (omega arith)

length_first_chunks : (n : ℕ) (bs : List ℕ) → length (first_chunks 8 n bs) ≡ n
length_first_chunks zero bs = refl
length_first_chunks (suc n) bs = ap suc (length_first_chunks n (drop 8 bs))

pub length_eights_by : (n : ℕ) (bs : List ℕ) → length (eights_by n bs) ≡ n
length_eights_by n bs = length-map (first_chunks 8 n bs) number_of ∙ length_first_chunks n bs

-- ---- the file

abbrev after : Given → List ℕ
after g = map length g.keys ++ (flat_map (λ k. k) g.keys ++ flat_map (bytes_of 8) g.values)

given_is : (g : Given) (ks : List (List ℕ)) (vs : List ℕ) → g.keys ≡ ks → g.values ≡ vs → (◌≡◌ {A = Given} g (record { keys = ks; values = vs }))
given_is g ks vs p q =
    ap (λ (x : List (List ℕ)). record { keys = x; values = g.values }) p ∙ ap (λ (x : List ℕ). record { keys = ks; values = x }) q

module _ (low high : ℕ) (rest : List ℕ) (g : Given) (ok : Valid g) (e : encode g ≡ low ∷ high ∷ rest) where
  the_count : low + 256 * high ≡ length g.keys
  the_count =
      let a : length g.keys % 256 ≡ low = cc in
      let b : (length g.keys / 256) % 256 ≡ high = cc in
      omega (arith, ok.few)

  the_rest : rest ≡ after g
  the_rest = cc

  the_lengths : take (low + 256 * high) rest ≡ map length g.keys
  the_lengths =
      let l : length (map length g.keys) ≡ low + 256 * high = length-map g.keys length ∙ sym the_count in
      ap (take (low + 256 * high)) the_rest ∙ take_at (map length g.keys) _ (low + 256 * high) l

  the_others : drop (low + 256 * high) rest ≡ flat_map (λ k. k) g.keys ++ flat_map (bytes_of 8) g.values
  the_others =
      let l : length (map length g.keys) ≡ low + 256 * high = length-map g.keys length ∙ sym the_count in
      ap (drop (low + 256 * high)) the_rest ∙ drop_at (map length g.keys) _ (low + 256 * high) l

  pub fits : length (drop (low + 256 * high) rest) ≡ sum (take (low + 256 * high) rest) + 8 * (low + 256 * high)
  fits =
      let l = ap length the_others ∙ length-append (flat_map (λ k. k) g.keys) (flat_map (bytes_of 8) g.values) in
      let m = length_keys g.keys in
      let v = length_joined g.values in
      let s = ap sum the_lengths in
      let c = the_count in
      omega (arith, ok.paired)

  pub the_same : (lengths keys values : List ℕ) → take (low + 256 * high) rest ≡ lengths → drop (low + 256 * high) rest ≡ keys ++ values →
      length keys ≡ sum lengths → (◌≡◌ {A = Given} g (record { keys = pieces lengths keys; values = eights_by (length lengths) values }))
  the_same lengths keys values p q l =
      let a : map length g.keys ≡ lengths = cc (the_lengths) in
      let b : flat_map (λ k. k) g.keys ++ flat_map (bytes_of 8) g.values ≡ keys ++ values = cc (the_others) in
      let m : length (flat_map (λ k. k) g.keys) ≡ length keys = length_keys g.keys ∙ ap sum a ∙ sym l in
      let ks : flat_map (λ k. k) g.keys ≡ keys =
      sym (take_at (flat_map (λ k. k) g.keys) _ (length keys) m) ∙ ap (take (length keys)) b ∙ take_at keys values (length keys) refl in
      let vs : flat_map (bytes_of 8) g.values ≡ values =
      sym (drop_at (flat_map (λ k. k) g.keys) _ (length keys) m) ∙ ap (drop (length keys)) b ∙ drop_at keys values (length keys) refl in
      let n : length g.values ≡ length lengths = ok.paired ∙ sym (length-map g.keys length) ∙ ap length a in
      let k = pieces_joined g.keys in
      let v = eights_by_joined g.values ok.doubles in
      let kk : g.keys ≡ pieces lengths keys = cc in
      let vv : g.values ≡ eights_by (length lengths) values = cc in
      given_is g (pieces lengths keys) (eights_by (length lengths) values) kk vv

pub accept : (low high : ℕ) (rest lengths keys values : List ℕ) → low < 256 → high < 256 → low + 256 * high ≤ 4096 →
    length lengths ≡ low + 256 * high → rest ≡ lengths ++ (keys ++ values) → length keys ≡ sum lengths →
    length values ≡ 8 * length lengths → Bytes lengths → Bytes values →
    Encodes (low ∷ high ∷ rest) (record { keys = pieces lengths keys; values = eights_by (length lengths) values })
accept low high rest lengths keys values lo hi few c r k v bl bv =
    let n : length (pieces lengths keys) ≡ low + 256 * high = length_pieces lengths keys ∙ c in
    let a : length (pieces lengths keys) % 256 ≡ low = omega arith in
    let q : length (pieces lengths keys) / 256 ≡ high = omega arith in
    let z : high % 256 ≡ high = omega arith in
    let b : (length (pieces lengths keys) / 256) % 256 ≡ high = ap (λ x. x % 256) q ∙ z in
    let ls = lengths_pieces lengths keys k in
    let ks = joined_pieces lengths keys k in
    let vs = joined_eights_by (length lengths) values v bv in
    let ln : length (eights_by (length lengths) values) ≡ length lengths =
    length_eights_by (length lengths) values in
    let tl : take (low + 256 * high) rest ≡ lengths = ap (take (low + 256 * high)) r ∙ take_at lengths (keys ++ values) (low + 256 * high) c in
    let dl : drop (low + 256 * high) rest ≡ keys ++ values = ap (drop (low + 256 * high)) r ∙ drop_at lengths (keys ++ values) (low + 256 * high) c in
    record {
      valid = record { few = omega arith; paired = ln ∙ sym (length_pieces lengths keys); short = short_pieces lengths keys k bl; doubles = doubles_eights_by (length lengths) values v bv };
      is = cc;
      only = λ h ok e. the_same low high rest h ok e lengths keys values tl dl k;
    }

-- the two bytes of the count, and the others
whole : (file head rest : List ℕ) → head ≡ take 2 file → rest ≡ drop 2 file → length rest + 2 ≡ length file → file ≡ get_or head 0 0 ∷ get_or head 1 0 ∷ rest
whole [] head rest h r l = absurd (omega arith)
whole (a ∷ []) head rest h r l = absurd (omega (arith, ap length r))
whole (a ∷ (b ∷ bs)) head rest h r l =
    let low : get_or head 0 0 ≡ a = ap (λ x. get_or x 0 0) h in
    let high : get_or head 1 0 ≡ b = ap (λ x. get_or x 1 0) h in cc

module _ (file head rest : List ℕ) (count : ℕ) (h : head ≡ take 2 file) (r : rest ≡ drop 2 file) (l : length rest + 2 ≡ length file) (c : count ≡ get_or head 0 0 + get_or head 1 0 * 256) where
  pub room : (g : Given) → Valid g → encode g ≡ file → length (drop count rest) ≡ sum (take count rest) + 8 * count
  room g ok e =
      let same : get_or head 0 0 + 256 * get_or head 1 0 ≡ count = omega arith in
      subst (λ n. length (drop n rest) ≡ sum (take n rest) + 8 * n) same (fits (get_or head 0 0) (get_or head 1 0) rest g ok (e ∙ whole file head rest h r l))

  pub accepted : (lengths others keys values : List ℕ) → Bytes file → count ≤ 4096 → IsSplitAt rest count lengths others → IsSplitAt others (sum lengths) keys values →
      length values ≡ 8 * count → Encodes file (record { keys = pieces lengths keys; values = eights_by (length values / 8) values })
  accepted lengths others keys values b few p q v =
      let e = whole file head rest h r l in
      let all = subst Bytes e b in
      let bytes : Bytes others = subst Bytes (sym p.2) (All-drop _ count rest all.1.1) in
      let n : length lengths ≡ length values / 8 = omega (arith, p.3) in
      let joined : rest ≡ lengths ++ (keys ++ values) =
      sym (take-append-drop count rest) ∙ ap (λ x. x ++ drop count rest) (sym p.1) ∙ ap (λ x. lengths ++ x) (sym p.2 ∙ sym (take-append-drop (sum lengths) others) ∙ ap (λ x. x ++ drop (sum lengths) others) (sym q.1) ∙ ap (λ x. keys ++ x) (sym q.2)) in
      subst (λ m. Encodes file (record { keys = pieces lengths keys; values = eights_by m values })) n
      (subst (λ f. Encodes f (record { keys = pieces lengths keys; values = eights_by (length lengths) values })) (sym e)
      (accept (get_or head 0 0) (get_or head 1 0) rest lengths keys values all.0 all.1.0 (omega arith) (p.3 ∙ c ∙ omega arith) joined q.3 (omega (arith, p.3))
      (subst Bytes (sym p.1) (All-take _ count rest all.1.1)) (subst Bytes (sym q.2) (All-drop _ (sum lengths) others bytes))))

-- what is within the format is the only such that its encoding encodes
pub encodes_valid : (g : Given) → Valid g → Encodes (encode g) g
encodes_valid g ok =
    let n = length g.keys in
    let to : (h : Given) → Valid h → encode h ≡ encode g → (◌≡◌ {A = Given} h (record { keys = pieces (map length g.keys) (flat_map (λ k. k) g.keys); values = eights_by (length (map length g.keys)) (flat_map (bytes_of 8) g.values) })) =
    λ h fine e. the_same (n % 256) ((n / 256) % 256) (after g) h fine e (map length g.keys) (flat_map (λ k. k) g.keys) (flat_map (bytes_of 8) g.values)
    (the_lengths (n % 256) ((n / 256) % 256) (after g) g ok refl) (the_others (n % 256) ((n / 256) % 256) (after g) g ok refl) (length_keys g.keys) in
    record { valid = ok; is = refl; only = λ h fine e. to h fine e ∙ sym (to g ok refl) }

-- ---- one key

pub piece_at : (ns bs : List ℕ) (i : ℕ) → i < length ns → slice_get (pieces ns bs) i ≡ Some (take (get_or ns i 0) (drop (sum (take i ns)) bs))
piece_at [] bs i h = absurd (omega arith)
piece_at (n ∷ ns) bs zero h = refl
piece_at (n ∷ ns) bs (suc i) h =
    let s : sum (n ∷ take i ns) ≡ n + sum (take i ns) = sum_by-cons (λ x. x) n (take i ns) in
    let d = drop-drop (sum (take i ns)) n bs in
    piece_at ns (drop n bs) i (omega arith) ∙ ap (λ r. Some (take (get_or ns i 0) r)) (d ∙ ap (λ m. drop m bs) (omega arith))
