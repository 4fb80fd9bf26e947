-- Laws of `sets` of `lib.Seq`, which stores a run of values as far as it falls within the list. Assumes nothing.
use mathlib.Core.Path.{◌≡◌, refl, sym, ap, ◌∙◌}
use mathlib.Core.Logic.{◌⊎◌, inl, inr, ⊎_elim}
use mathlib.Core.List.{List, [], ◌∷◌, ◌++◌, map}
use Prim.Native.Nat.{ℕ, zero, suc, ◌+◌, ◌-◌, ◌≤◌, ◌<◌, min}
use native.Mathlib.Nat.{add-zero, zero-add}
use borrow.Author.Tests.{leb-true, leb-false}
use lib.Dec.{leb}
use mathlib.Core.Bool.{Bool, true, false}
use native.Mathlib.Numerals.{add-one}
use native.Mathlib.Omega.{arith}
use mathlib.Core.List.{append-nil}
use lib.ListN.{length, take, drop, get_or, set, length-set, drop_of_length-le}
use lib.Seq.{sets, paste, sets-eq, set_out, take-nil, take_all, take-suc, take-append_seam, drop-append_seam}
use lib.Seq.{length-take-le}
use borrow.Rule.Slice.PartMut.{put_mid}
use Rattle.std.proofs.lemmas.List.{length-map, get_or-map}
use Rattle.std.proofs.Common.{get_or-take}
use Rattle.std.proofs.lemmas.Slice.{put_mid-paste}
use Rattle.lists.specs.Bytes.{overwrite}

-- what a comparison of two numbers says
by_leb : (a b : ℕ) (t : Bool) → leb a b ≡ t → (a ≤ b) ⊎ (b < a)
by_leb a b true e = inl (leb-true a b e)
by_leb a b false e = inr (leb-false a b e)

-- of two numbers the first is at most the second, or it is larger
pub le_or_lt : (a b : ℕ) → (a ≤ b) ⊎ (b < a)
le_or_lt a b = by_leb a b (leb a b) refl

-- past the end nothing is stored
pub sets_out : (l : List ℕ) (i : ℕ) (vs : List ℕ) → length l ≤ i → sets l i vs ≡ l
sets_out l i [] h = refl
sets_out l i (a ∷ vs) h = rw (set_out l i a) (sets_out l (suc i) vs (omega arith))

-- two runs joined are stored one after the other
pub sets_append : (l : List ℕ) (i : ℕ) (vs ws : List ℕ) → sets l i (vs ++ ws) ≡ sets (sets l i vs) (i + length vs) ws
sets_append l i [] ws = ap (λ (k : ℕ). sets l k ws) (sym (add-zero i))
sets_append l i (a ∷ vs) ws =
    let e : suc i + length vs ≡ i + suc (length vs) = omega arith in
    sets_append (set l i a) (suc i) vs ws ∙ ap (λ (k : ℕ). sets (sets (set l i a) (suc i) vs) k ws) e

-- if the first j values of a run are stored, one more store makes them the first j + 1
pub sets_take_suc : (l : List ℕ) (i : ℕ) (vs : List ℕ) (j : ℕ) → j < length vs → length (take j vs) ≡ j
    → set (sets l i (take j vs)) (i + j) (get_or vs j 0) ≡ sets l i (take (j + 1) vs)
sets_take_suc l i vs j h e =
    sym
    (ap (λ (k : ℕ). sets l i (take k vs)) (add-one j) ∙ ap (sets l i) (take-suc vs j 0 h) ∙ sets_append l i (take j vs) (get_or vs j 0 ∷ [])
    ∙ ap (λ (k : ℕ). set (sets l i (take j vs)) (i + k) (get_or vs j 0)) e)

-- what falls past the end may be left off
pub sets_clip : (l : List ℕ) (i : ℕ) (vs : List ℕ) (k : ℕ) → length l ≤ i + k → sets l i (take k vs) ≡ sets l i vs
sets_clip l i [] k h = ap (sets l i) (take-nil k)
sets_clip l i (a ∷ vs) zero h = sym (sets_out l i (a ∷ vs) (omega arith))
sets_clip l i (a ∷ vs) (suc k) h = sets_clip (set l i a) (suc i) vs k (omega (arith, length-set l i a))

-- so it is enough to store the values for which there is room
pub sets_min : (l : List ℕ) (i : ℕ) (vs : List ℕ) (k : ℕ) → k ≡ min (length vs) (length l - i) → sets l i (take k vs) ≡ sets l i vs
sets_min l i vs k e =
    ⊎_elim (λ (h : length vs ≤ k). ap (sets l i) (take_all k vs h)) (λ (h : k < length vs). sets_clip l i vs k (omega arith)) (le_or_lt (length vs) k)

-- a write to the part of the list from the place on, as far as it has the bytes, is a store that stops at the list's end
pub put_is : (l vs ys : List ℕ) (i a k k' : ℕ) → a ≡ min i (length l) → k ≡ min (length vs) (length l - a) → k' ≡ k → ys ≡ take k vs
    → put_mid a k' l ys ≡ sets l i vs
put_is l vs ys i a k k' start room same stored =
    put_mid-paste a k' l ys (take k vs) k stored (sym same) (sym full) ∙ ⊎_elim within outside (le_or_lt i (length l))
  where
    full : length (take k vs) ≡ k
    full = length-take-le k vs (omega arith)

    within : i ≤ length l → paste l a (take k vs) k ≡ sets l i vs
    within h =
        let e : a ≡ i = omega arith in
        let fits : i + length (take k vs) ≤ length l = omega (arith, full) in
        rw (e, take_all k (take k vs) (omega (arith, full)))
        (sym (rw full at (sets-eq (take k vs) l i fits)) ∙ sets_min l i vs k (omega arith))

    outside : length l < i → paste l a (take k vs) k ≡ sets l i vs
    outside h =
        let e : a ≡ length l = omega arith in
        let z : k ≡ 0 = omega arith in
        let all : length l ≤ length l = omega arith in
        rw (e, z, take_all (length l) l all, add-zero, drop_of_length-le l all)
        (simp append-nil (sym (sets_out l i vs (omega arith))))

-- a run that fits is stored over the front of the list
pub sets_front : (l vs : List ℕ) → length vs ≤ length l → sets l 0 vs ≡ overwrite vs l
sets_front l vs h = sets-eq vs l 0 (omega arith) ∙ rw zero-add

-- the new bytes stand in front, and "bytes past the result stay"
pub overwrite_past : (new old : List ℕ) → (take (length new) (overwrite new old) ≡ new) × (drop (length new) (overwrite new old) ≡ drop (length new) old)
overwrite_past new old = (take-append_seam new (drop (length new) old), drop-append_seam new (drop (length new) old))

-- a store of a text with f applied to each byte, as a loop makes it
module _ (f : ℕ → ℕ) (old : List ℕ) (at : ℕ) (src : List ℕ) where
  -- the first i bytes are stored
  abbrev pub stored : ℕ → List ℕ
  stored i = sets old at (take i (map f src))

  -- the loop runs over the n bytes for which there is room
  module _ (n i : ℕ) (room : n ≡ min (length src) (length old - at)) where
    -- the part that is stored has n bytes, and f keeps the length of the text
    fits : (length (take n src) ≡ n) × (length (map f src) ≡ length src)
    fits = (length-take-le n src (omega arith), length-map src f)

    -- one more is stored
    pub stored_more : i < length (take n src) → set (stored i) (at + i) (f (get_or (take n src) i 0)) ≡ stored (i + 1)
    stored_more h =
        rw (get_or-take n src i 0 (omega (arith, fits.0)), ← get_or-map f src i 0 0 (omega (arith, fits.0)))
        (sets_take_suc old at (map f src) i (omega (arith, fits)) (length-take-le i (map f src) (omega (arith, fits))))

    -- the loop ends, and all is stored
    pub stored_all : i ≡ length (take n src) → stored i ≡ sets old at (map f src)
    stored_all h = sets_min old at (map f src) i (omega (arith, fits))
