-- What a `HandleVec` holds, and what an insertion does to it.
use Rattle.std.specs.Prelude.{◌≡◌, ℕ, ◌+◌, ◌<◌, List, [], ◌∷◌, ◌++◌, length, take, Ok, Err, Result, slice_set}
use Rattle.arena.specs.declared.handle_vec.HandleVec.{HandleVec}
use Rattle.arena.specs.declared.handle_vec.InsertError.{InsertError}
use Rattle.arena.specs.declared.handle_vec.InsertError.TheVariants.{WrongHandle, Full}

module _ {U : Type 0} where
  -- every slot of the lent slice, with a value or without
  abbrev pub slots : HandleVec U → List U
  slots v = v.slots.now

  -- the values that are held: the one at h is that of the handle h
  abbrev pub held : HandleVec U → List U
  held v = take v.count v.slots.now

  -- v took x for its next handle and became w; no other slot was written
  pub record Grew (handle : ℕ) (x : U) (v w : HandleVec U) : Type 0 where
    pub next : handle ≡ length (held v)
    pub room : length (held v) < length (slots v)
    pub more : held w ≡ held v ++ x ∷ []
    pub count : length (held w) ≡ length (held v) + 1
    pub wrote : slots w ≡ slice_set (slots v) handle x

  -- what `insert` of x for a handle answers, and what it makes of v
  abbrev pub Inserted : ℕ → U → HandleVec U → HandleVec U → Result (Unit {0}) InsertError → Type 0
  Inserted handle x v w (Ok _) = Grew handle x v w
  Inserted handle x v w (Err WrongHandle) = (handle ≡ length (held v) → ⊥) × (w ≡ v)
  Inserted handle x v w (Err Full) = (handle ≡ length (held v)) × (length (held v) ≡ length (slots v)) × (w ≡ v)

  -- what `push` of x answers, and what it makes of v
  abbrev pub Pushed : U → HandleVec U → HandleVec U → Result (Unit {0}) InsertError → Type 0
  Pushed x v w (Ok _) = Grew (length (held v)) x v w
  Pushed x v w (Err WrongHandle) = ⊥
  Pushed x v w (Err Full) = (length (held v) ≡ length (slots v)) × (w ≡ v)
