-- How the rows read a name. Assumes nothing.
use mathlib.Core.Path.{◌≡◌, refl}
use mathlib.Core.Bool.{Bool, true, false, false≢true, and-eq-true_iff}
use mathlib.Core.List.{List, [], ◌∷◌, map}
use Prim.Native.Nat.{ℕ, ◌+◌, ◌-◌, ◌<◌, ◌≤◌}
use Prim.Native.Char.{code}
use native.Mathlib.Omega.{arith}
use lib.Dec.{ltb}
use lib.ListN.{length, take, drop, length-take, length-drop}
use lib.Seq.{length-take-le}
use borrow.Author.Tests.{ltb-true}
use Rattle.lists.specs.Bytes.{span, ends_with, to_lower}
use Rattle.lists.specs.Classes.{except}
use Rattle.lists.proofs.Recursion.{Local, recur_eq}
use Rattle.shapes.specs.Shapes.{split_once, are_digits, is_range}
use Rattle.rows.specs.Rows.{Rule, ◌reads◌, Reading, no_reading, row_number, row_sign, sign_number, sign_of, before, after, rows, read_step, read_with, read}

-- a text that ends in a byte is not empty
pub ends_some : (c : ℕ) (s : List ℕ) → ends_with c s ≡ true → 1 ≤ length s
ends_some c [] e = absurd (let z : ◌≡◌ {A = Bool} false true = e in false≢true z)
ends_some c (b ∷ s) e = omega arith

-- without its last byte a text is shorter
pub shorter : (s : List ℕ) → 1 ≤ length s → length (take (length s - 1) s) < length s
shorter s h = let e = length-take-le (length s - 1) s (omega arith) in omega arith

-- a range has the bytes of its parts, and one byte more
pub parts_fit : (s : List ℕ) → is_range s ≡ true → length (before (code "-") s) + 1 + length (after (code "-") s) ≡ length s
unfolding split_once
parts_fit s h =
    let n = span (except (code "-")) s in
    let l = ltb-true n (length s) ((and-eq-true_iff (ltb n (length s)) (are_digits (take n s) (drop (n + 1) s))).0 h).0 in
    omega (arith, length-take n s, length-drop 1 (drop n s), length-drop n s)

read_local : (word : List ℕ → List ℕ) → Local (read_step word)
unfolding read_step
read_local word f g s h = go (is_range s) refl (ends_with (code "%") s) refl
  where
    go : (a : Bool) → is_range s ≡ a → (b : Bool) → ends_with (code "%") s ≡ b → read_step word f s ≡ read_step word g s
    go true d b e = let l = parts_fit s d in rw (d, h (before (code "-") s) (omega arith), h (after (code "-") s) (omega arith))
    go false d true e = rw (d, h (take (length s - 1) s) (shorter s (ends_some (code "%") s e)))
    go false d false e = rw (d, e)

-- to read a name is one step, in which shorter names are read the same way
pub step_eq : (word : List ℕ → List ℕ) (s : List ℕ) → read_with word s ≡ read_step word (read_with word) s
unfolding read_with
step_eq word s = recur_eq no_reading (read_step word) (read_local word) s

-- the same for `read`, whose row 12 lowers the name
pub read_eq : (s : List ℕ) → read s ≡ read_step (map to_lower) read s
read_eq s = step_eq (map to_lower) s

-- the number of a rule's row
abbrev pub number_in : Rule → ℕ
number_in (takes reads g) = row_number g.row

-- the rows stand in the order of their numbers, and the two new ones after row 5
pub rows_numbered : (word : List ℕ → List ℕ) (again : List ℕ → Reading) (s : List ℕ)
    → map number_in (rows word again s) ≡ 1 ∷ 2 ∷ 3 ∷ 4 ∷ 5 ∷ 13 ∷ 14 ∷ 6 ∷ 7 ∷ 8 ∷ 9 ∷ 10 ∷ 11 ∷ 12 ∷ []
rows_numbered word again s = refl

-- the value of the sign of a rule's row
abbrev pub sign_in : Rule → ℕ
sign_in (takes reads g) = row_sign g.row

-- of the rows only row 8 has a sign
pub rows_signed : (word : List ℕ → List ℕ) (again : List ℕ → Reading) (s : List ℕ)
    → map sign_in (rows word again s) ≡ 0 ∷ 0 ∷ 0 ∷ 0 ∷ 0 ∷ 0 ∷ 0 ∷ 0 ∷ 0 ∷ sign_number (sign_of s) ∷ 0 ∷ 0 ∷ 0 ∷ 0 ∷ []
rows_signed word again s = refl
