-- Laws of the parts of a text between separators, for loops that take one part after the other. They hold for every separator and
-- for every test of a part. Assumes nothing.
use mathlib.Core.Path.{◌≡◌, refl, sym, ◌∙◌}
use mathlib.Core.Bool.{Bool, true, false, cond, not, ◌||◌}
use mathlib.Core.List.{List, [], ◌∷◌}
use Prim.Native.Nat.{ℕ, zero, suc, ◌+◌, ◌≤◌, ◌<◌, min}
use native.Mathlib.Numerals.{add-one}
use native.Mathlib.Omega.{arith}
use lib.Dec.{eqb, leb, ltb, leb-suc-suc}
use lib.ListN.{length, take, drop}
use lib.Seq.{take_all}
use borrow.Author.Tests.{ltb-true, ltb-false, lt-ltb, le-leb}
use Rattle.lists.specs.Bytes.{span, elem, split, onto, all, non_empty, any}
use Rattle.lists.specs.Classes.{except}

-- there is always a part
pub split_some : (c : ℕ) (s : List ℕ) → 0 < length (split c s)
unfolding split onto
split_some c [] = omega arith
split_some c (b ∷ s) = go (eqb b c) (split c s)
  where
    go : (t : Bool) (ps : List (List ℕ)) → 0 < length (cond t ([] ∷ ps) (onto b ps))
    go true ps = omega arith
    go false [] = omega arith
    go false (p ∷ ps) = omega arith

-- if there is a separator, the first part stands before it, and the others are the parts of what follows it
pub split_more : (c : ℕ) (s : List ℕ) → span (except c) s < length s → split c s ≡ take (span (except c) s) s ∷ split c (drop (span (except c) s + 1) s)
unfolding split span onto
split_more c [] h = absurd (omega arith)
split_more c (b ∷ s) h = go (eqb b c) h (split_more c s)
  where
    go : (t : Bool) → cond (not t) (suc (span (except c) s)) 0 < suc (length s)
        → (span (except c) s < length s → split c s ≡ take (span (except c) s) s ∷ split c (drop (span (except c) s + 1) s))
        → cond t ([] ∷ split c s) (onto b (split c s))
        ≡ take (cond (not t) (suc (span (except c) s)) 0) (b ∷ s) ∷ split c (drop (cond (not t) (suc (span (except c) s)) 0 + 1) (b ∷ s))
    go true h i = refl
    go false h i = rw (i (omega arith)) (simp add-one)

-- if there is no separator, the text is the only part
pub split_last : (c : ℕ) (s : List ℕ) → length s ≤ span (except c) s → split c s ≡ s ∷ []
unfolding split span onto
split_last c [] h = refl
split_last c (b ∷ s) h = go (eqb b c) h (split_last c s)
  where
    go : (t : Bool) → suc (length s) ≤ cond (not t) (suc (span (except c) s)) 0
        → (length s ≤ span (except c) s → split c s ≡ s ∷ [])
        → cond t ([] ∷ split c s) (onto b (split c s)) ≡ (b ∷ s) ∷ []
    go true h i = absurd (omega arith)
    go false h i = rw (i (omega arith))

-- there is more than one part exactly if there is a separator
pub split_two : (c : ℕ) (s : List ℕ) → leb 2 (length (split c s)) ≡ ltb (span (except c) s) (length s)
split_two c s = go (ltb (span (except c) s) (length s)) refl
  where
    go : (t : Bool) → ltb (span (except c) s) (length s) ≡ t → leb 2 (length (split c s)) ≡ t
    go true e =
        rw (split_more c s (ltb-true _ _ e))
        (le-leb 2 (suc (length (split c (drop (span (except c) s + 1) s)))) (omega (arith, split_some c (drop (span (except c) s + 1) s))))
    go false e = rw (split_last c s (ltb-false _ _ e))

-- if the first part fails, not all parts pass
pub parts_fail : (p : List ℕ → Bool) (c : ℕ) (s : List ℕ) → p (take (span (except c) s) s) ≡ false → all p (split c s) ≡ false
unfolding all
parts_fail p c s f = go (ltb (span (except c) s) (length s)) refl
  where
    go : (t : Bool) → ltb (span (except c) s) (length s) ≡ t → all p (split c s) ≡ false
    go true e = rw (split_more c s (ltb-true _ _ e), f)
    go false e = rw (split_last c s (ltb-false _ _ e), ← take_all (span (except c) s) s (ltb-false _ _ e), f)

-- a separator stands in the text exactly if a scan for it stops before the end
pub elem_span : (c : ℕ) (s : List ℕ) → elem c s ≡ ltb (span (except c) s) (length s)
unfolding any span
elem_span c [] = refl
elem_span c (b ∷ s) = go (eqb b c) (elem_span c s)
  where
    go : (t : Bool) → elem c s ≡ ltb (span (except c) s) (length s) → (t || elem c s) ≡ ltb (cond (not t) (suc (span (except c) s)) 0) (suc (length s))
    go true i = sym (lt-ltb 0 (suc (length s)) (omega arith))
    go false i = i ∙ sym (leb-suc-suc (suc (span (except c) s)) (length s))

-- the first part is counted if it is not empty
non_empty_front : (n : ℕ) (s : List ℕ) (ps : List (List ℕ)) → n ≤ length s → length (non_empty (take n s ∷ ps)) ≡ min n 1 + length (non_empty ps)
unfolding non_empty
non_empty_front zero s ps h = omega arith
non_empty_front (suc n) [] ps h = absurd (omega arith)
non_empty_front (suc n) (b ∷ s) ps h = omega arith
