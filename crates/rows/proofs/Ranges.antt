-- What row 5a says of a range, and row 5b of a fraction, from their parts. Assumes nothing.
use mathlib.Core.Path.{◌≡◌, refl, ◌∙◌}
use mathlib.Core.Bool.{true, false, and-eq-true_iff}
use mathlib.Core.List.{List, ◌∷◌, ◌++◌, map}
use Prim.Native.Nat.{ℕ, ◌+◌}
use Prim.Native.Char.{code}
use native.Mathlib.Omega.{arith}
use lib.Dec.{ltb, eqb}
use lib.ListN.{length, take, drop, get_or}
use lib.Seq.{take-append_seam, drop-append_seam}
use borrow.Author.Tests.{ltb-true, eqb-true}
use Rattle.lists.specs.Bytes.{bytes, all, span, to_lower}
use Rattle.lists.specs.Classes.{digit, letter, except}
use Rattle.lists.proofs.Bools.{or_true_elim}
use Rattle.lists.proofs.Scan.{all_at, all_span, span_before}
use Rattle.shapes.specs.Shapes.{is_digits, split_once, are_digits, is_range, is_digits_slash_digits}
use Rattle.shapes.proofs.Grammar.{no_separator, once_taken}
use Rattle.fractions.specs.Fraction.{fraction}
use Rattle.fractions.proofs.Read.{over}
use Rattle.rows.specs.Rows.{by, before, after, to, read_step, read_with, read}
use Rattle.rows.specs.declared.Row.TheVariants.{Range, Fraction}
use Rattle.rows.proofs.Laws.{step_eq}
use Rattle.rows.proofs.Taken.{digit_no_letter, digit_or, range_bytes, fraction_bytes, no_meridiem, no_range, PastTimes, past_times}

-- a name of digits and of one byte c more, which is no letter, comma, colon or point: rows 1 to 5 do not take it
past_separated : (c : ℕ) (s : List ℕ) → split_once c are_digits s ≡ true → all (digit_or c) s ≡ true → letter c ≡ false
    → digit_or c (code ",") ≡ false → digit_or c (code ":") ≡ false → digit_or c (code ".") ≡ false → PastTimes s
unfolding split_once
past_separated c s h k l comma colon point =
    let n = span (except c) s in
    let some = ltb-true n (length s) ((and-eq-true_iff (ltb n (length s)) (are_digits (take n s) (drop (n + 1) s))).0 h).0 in
    let b = get_or s 0 0 in
    let first : letter b ≡ false =
    or_true_elim (digit b) (eqb b c) (digit_no_letter b) (λ e. rw (eqb-true b c e) l) (all_at (digit_or c) 0 s 0 k (omega arith)) in
    past_times (digit_or c) s k comma colon (omega arith) first (no_meridiem (digit_or c) s k colon point)

-- ---- ranges

-- row 5a reads the two parts of a range again
pub range_with : (word : List ℕ → List ℕ) (s : List ℕ) → is_range s ≡ true
    → read_with word s ≡ by Range ((read_with word (before (code "-") s)).words ++ to ∷ (read_with word (after (code "-") s)).words)
unfolding read_step
range_with word s h =
    let p = past_separated (code "-") s h (range_bytes s h) refl refl refl refl in
    step_eq word s ∙ rw (p.dotted, p.comma, p.time, p.meridiem, h, p.empty)

-- the same for `read`, whose row 12 lowers the name
pub range_read : (s : List ℕ) → is_range s ≡ true → read s ≡ by Range ((read (before (code "-") s)).words ++ to ∷ (read (after (code "-") s)).words)
range_read s h = range_with (map to_lower) s h

-- 02, A2: "the left part read from row 1, the word "to", the right part read from row 1"
pub range_row : (word : List ℕ → List ℕ) (a b : List ℕ) → is_digits a ≡ true → is_digits b ≡ true
    → read_with word (a ++ (bytes "-" ++ b)) ≡ by Range ((read_with word a).words ++ to ∷ (read_with word b).words)
range_row word a b p q =
    let s = a ++ (code "-" ∷ b) in
    let n : all (except (code "-")) a ≡ true = no_separator (code "-") refl a p in
    let e : span (except (code "-")) s ≡ length a = span_before (except (code "-")) a (code "-") b refl ∙ all_span (except (code "-")) a n in
    range_with word s (once_taken (code "-") are_digits a b n (rw (p, q)))
    ∙ rw (e, take-append_seam a (code "-" ∷ b), drop-append_seam a (code "-" ∷ b))

-- ---- fractions

-- row 5b reads a fraction
pub fraction_with : (word : List ℕ → List ℕ) (s : List ℕ) → is_digits_slash_digits s ≡ true → read_with word s ≡ by Fraction (fraction s)
unfolding read_step
fraction_with word s h =
    let k = fraction_bytes s h in
    let p = past_separated (code "/") s h k refl refl refl refl in
    step_eq word s ∙ rw (p.dotted, p.comma, p.time, p.meridiem, no_range (digit_or (code "/")) s k refl, h, p.empty)

-- so it reads digits, a slash, digits; what a fraction is called stands in fractions/Read
pub fraction_row : (word : List ℕ → List ℕ) (a b : List ℕ) → is_digits a ≡ true → is_digits b ≡ true
    → read_with word (over a b) ≡ by Fraction (fraction (over a b))
fraction_row word a b p q = fraction_with word (over a b) (once_taken (code "/") are_digits a b (no_separator (code "/") refl a p) (rw (p, q)))
