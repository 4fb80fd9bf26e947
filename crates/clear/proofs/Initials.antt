-- Two or more capitals with single dots between. Assumes nothing.
use mathlib.Core.Path.{◌≡◌, refl, sym, ◌∙◌}
use mathlib.Core.Bool.{Bool, true, false, cond, not, ◌&&◌, or-false, true≢false, false≢true, and-eq-true_iff}
use mathlib.Core.List.{List, [], ◌∷◌}
use Prim.Native.Nat.{ℕ, suc, ◌-◌, ◌≤◌}
use Prim.Native.Char.{code}
use native.Mathlib.Omega.{arith}
use lib.Dec.{leb, eqb}
use lib.ListN.{length}
use borrow.Author.Tests.{eqb-true, ne_eqb, leb-true, le-leb, not-true}
use Rattle.lists.specs.Bytes.{all, uppercase, ends_with, split, onto}
use Rattle.lists.proofs.Scan.{class_apart}
use Rattle.shapes.specs.Shapes.{is_alpha, is_one_letter, is_dotted_abbrev}
use Rattle.clear.specs.Clear.{dotted_initials, Clear, clear_initials}
use Rattle.clear.specs.Test.{uppercase_or_point, is_initials_clear}

-- each part is one letter
abbrev all_one_letter : List (List ℕ) → Bool
all_one_letter = all is_one_letter

abbrev point_byte : ℕ
point_byte = code "."

-- without its first byte a text ends in the same byte, if it still has one
ends_more : (c b d : ℕ) (s : List ℕ) → ends_with c (b ∷ d ∷ s) ≡ ends_with c (d ∷ s)
ends_more c b d s =
    let e : suc (suc (length s)) - 1 ≡ suc (length s) = omega arith in
    let f : suc (length s) - 1 ≡ length s = omega arith in
    rw (e, f, ne_eqb (suc (suc (length s))) 0 (omega arith), ne_eqb (suc (length s)) 0 (omega arith))

-- what the test looks at
record DottedParts (s : List ℕ) (n : ℕ) : Type 0 where
  parts : all_one_letter (split point_byte s) ≡ true
  count : length (split point_byte s) ≡ n
  last : ends_with point_byte s ≡ false
  among : all uppercase_or_point s ≡ true

dotted_initials_parts : (c : ℕ) (cs : List ℕ) → all uppercase (c ∷ cs) ≡ true → DottedParts (dotted_initials c cs) (suc (length cs))
unfolding split onto all is_alpha dotted_initials
dotted_initials_parts c [] h =
    let p = ((and-eq-true_iff (uppercase c) true).0 h).0 in
    let n = class_apart uppercase point_byte c refl p in
    record { parts = rw (n, p); count = rw n; last = n; among = rw p }
dotted_initials_parts c (d ∷ cs) h =
    let p = (and-eq-true_iff (uppercase c) (all uppercase (d ∷ cs))).0 h in
    let n = class_apart uppercase point_byte c refl p.0 in
    let r = dotted_initials_parts d cs p.1 in
    record { parts = rw (n, p.0, r.parts); count = rw (n, r.count); last = ends_dotted c d cs ∙ r.last; among = rw (p.0, r.among) }
  where
    ends_dotted : (c d : ℕ) (cs : List ℕ) → ends_with point_byte (c ∷ point_byte ∷ dotted_initials d cs) ≡ ends_with point_byte (dotted_initials d cs)
    ends_dotted c d [] = ends_more point_byte c point_byte (d ∷ []) ∙ ends_more point_byte point_byte d []
    ends_dotted c d (b ∷ cs) = ends_more point_byte c point_byte (d ∷ point_byte ∷ dotted_initials b cs)
        ∙ ends_more point_byte point_byte d (point_byte ∷ dotted_initials b cs)

-- two or more capitals with dots between pass the test
pub initials_test : (c d : ℕ) (cs : List ℕ) → all uppercase (c ∷ d ∷ cs) ≡ true → is_initials_clear (dotted_initials c (d ∷ cs)) ≡ true
unfolding is_dotted_abbrev
initials_test c d cs h =
    let r = dotted_initials_parts c (d ∷ cs) h in
    rw (r.last, r.count, r.parts, r.among, le-leb 2 (suc (suc (length cs))) (omega arith))

-- capitals with dots between
record InitialsOf (s : List ℕ) : Type 0 where
  first : ℕ
  others : List ℕ
  capitals : all uppercase (first ∷ others) ≡ true
  whole : dotted_initials first others ≡ s

long_fails : (b d : ℕ) (ps : List (List ℕ)) → all_one_letter (onto b (onto d ps)) ≡ false
unfolding onto all
long_fails b d [] = refl
long_fails b d (p ∷ ps) = rw (ne_eqb (suc (suc (length p))) 1 (omega arith))

-- a byte of the class that is no point is a capital
uppercase_only : (b : ℕ) (t : Bool) → (uppercase_or_point b && t) ≡ true → eqb b point_byte ≡ false → (uppercase b ≡ true) × (t ≡ true)
uppercase_only b t h e = let p = (and-eq-true_iff (uppercase_or_point b) t).0 h in (rw (e, or-false (uppercase b)) at p.0, p.1)

test_initials_of : (s : List ℕ) → all_one_letter (split point_byte s) ≡ true → all uppercase_or_point s ≡ true → InitialsOf s
unfolding split onto all dotted_initials
test_initials_of [] h a = absurd (false≢true h)
test_initials_of (b ∷ []) h a = go (eqb b point_byte) refl h
  where
    go : (t : Bool) → eqb b point_byte ≡ t → all_one_letter (cond t ([] ∷ [] ∷ []) ((b ∷ []) ∷ [])) ≡ true → InitialsOf (b ∷ [])
    go true e h = absurd (false≢true h)
    go false e h = record { first = b; others = []; capitals = rw (uppercase_only b true a e).0; whole = refl }
test_initials_of (b ∷ d ∷ s) h a = go (eqb b point_byte) (eqb d point_byte) refl refl h (test_initials_of s)
  where
    go : (t u : Bool) → eqb b point_byte ≡ t → eqb d point_byte ≡ u
        → all_one_letter (cond t ([] ∷ cond u ([] ∷ split point_byte s) (onto d (split point_byte s)))
        (onto b (cond u ([] ∷ split point_byte s) (onto d (split point_byte s))))) ≡ true
        → (all_one_letter (split point_byte s) ≡ true → all uppercase_or_point s ≡ true → InitialsOf s) → InitialsOf (b ∷ d ∷ s)
    go true u e f h i = absurd (false≢true h)
    go false false e f h i = absurd (true≢false (sym h ∙ long_fails b d (split point_byte s)))
    go false true e f h i =
        let p = uppercase_only b (all uppercase_or_point (d ∷ s)) a e in
        let r =
        i ((and-eq-true_iff (is_one_letter (b ∷ [])) (all_one_letter (split point_byte s))).0 h).1
        ((and-eq-true_iff (uppercase_or_point d) (all uppercase_or_point s)).0 p.1).1 in
        let g : d ≡ point_byte = eqb-true d point_byte f in
        record { first = b; others = r.first ∷ r.others; capitals = rw (p.0, r.capitals); whole = cc }

-- a name that passes the test is clear
pub test_initials : (s : List ℕ) → is_initials_clear s ≡ true → Clear s
unfolding is_dotted_abbrev
test_initials s h =
    let p = (and-eq-true_iff (is_dotted_abbrev s && not (ends_with point_byte s)) (all uppercase_or_point s)).0 h in
    let q = (and-eq-true_iff (is_dotted_abbrev s) (not (ends_with point_byte s))).0 p.0 in
    let e : ends_with point_byte s ≡ false = not-true _ q.1 in
    let r = (and-eq-true_iff (leb 2 (length (split point_byte s))) (all_one_letter (split point_byte s))).0 (rw e at q.0) in
    let d = test_initials_of s r.1 p.1 in
    go d.first d.others d.capitals (leb-true 2 _ r.0) d.whole
  where
    go : (c : ℕ) (cs : List ℕ) → all uppercase (c ∷ cs) ≡ true → 2 ≤ length (split point_byte s) → dotted_initials c cs ≡ s → Clear s
    go c [] h l e = let k = (dotted_initials_parts c [] h).count in absurd (omega (arith, rw e at k))
    go c (d ∷ cs) h l e = rw e at (clear_initials c d cs h)
