-- Which rows take a number, and what it is read as there. Assumes nothing.
use mathlib.Core.Path.{◌≡◌, refl, sym, ◌∙◌}
use mathlib.Core.Bool.{Bool, true, false, cond, not, ◌&&◌, and-false, true≢false, false≢true, and-eq-true_iff}
use mathlib.Core.List.{List, [], ◌∷◌, ◌++◌, append-nil}
use Prim.Native.Nat.{ℕ, ◌+◌, ◌-◌, ◌<◌}
use Prim.Native.Char.{code}
use native.Mathlib.Omega.{arith}
use lib.Dec.{ltb}
use lib.ListN.{length, drop, get_or}
use lib.Seq.{drop-append_seam}
use borrow.Author.Tests.{not-true}
use Rattle.lists.specs.Bytes.{all, span, starts_with, uppercase, to_lower}
use Rattle.lists.specs.Classes.{digit, letter}
use Rattle.lists.proofs.Scan.{all_append, all_at, starts_with_first}
use Rattle.shapes.specs.Shapes.{is_digits, is_range, is_digits_slash_digits, is_leading_zero_digits, is_exponent, is_unsigned, is_double}
use Rattle.shapes.specs.Times.{is_meridiem_time}
use Rattle.shapes.proofs.Laws.{digits_all, digits_some, digits_nonempty}
use Rattle.numerals.specs.Cardinal.{cardinal, digits}
use Rattle.reals.specs.Real.{real}
use Rattle.rows.specs.Rows.{first_taking, rows, read_step, read_with}
use Rattle.rows.proofs.Laws.{step_eq}
use Rattle.rows.proofs.Taken.{digit_no_letter, untaken, double_byte, meridiem_last, double_bytes, no_fraction, PastTimes, past_times}
use Rattle.clear.specs.Clear.{plain, OptionalMinus, no_minus, a_minus, Decimals, no_point, a_point, Exponent, no_exponent, an_exponent, Number, number_digits, number_figure}
use Rattle.clear.proofs.Figures.{plain_digits, strip_sign_lem, exponent_front, exponent_point}
use Rattle.clear.proofs.Bytes.{number_no_range}
use Rattle.clear.proofs.Cuts.{span_seam, starts_with_digits}
use Rattle.decoder.proofs.Real.{real_digits, minus_words, decimals_words, exponent_words, real_figure}

-- ---- rows 1 to 5b take no such name

-- a byte of a figure is no m
not_m : (b : ℕ) → double_byte b ≡ true → to_lower b ≡ code "m" → ⊥
not_m b h = go (uppercase b)
  where
    go : (t : Bool) → cond t (b + 32) b ≡ code "m" → ⊥
    go true e = let z : b ≡ code "M" = omega arith in false≢true (rw z at h)
    go false e = false≢true (rw e at h)

module _ (s : List ℕ) (z : 0 < length s) (l : letter (get_or s 0 0) ≡ false) (d : is_double s ≡ true) (n : Number s) where
  h : all double_byte s ≡ true
  h = double_bytes s d

  not_range : is_range s ≡ false
  not_range = untaken (is_range s) (number_no_range s n)

  not_fraction : is_digits_slash_digits s ≡ false
  not_fraction = no_fraction double_byte s h refl

  not_meridiem : is_meridiem_time s ≡ false
  not_meridiem = untaken (is_meridiem_time s) (λ e. not_m (get_or s (length s - 1) 0) (all_at double_byte 0 s (length s - 1) h (omega arith)) (meridiem_last s e))

  past : PastTimes s
  past = past_times double_byte s h refl refl z l not_meridiem

  -- no row before row 6 takes it; in the list seven rows stand before it
  from_leading_zero : (word : List ℕ → List ℕ) → read_with word s ≡ first_taking (drop 7 (rows word (read_with word) s))
  unfolding read_step
  from_leading_zero word =
      step_eq word s ∙ rw (past.dotted, past.comma, past.time, past.meridiem, not_range, not_fraction, past.empty)

  -- row 6 reads it if it has a leading zero
  read_leading : (word : List ℕ → List ℕ) → is_leading_zero_digits s ≡ true → (read_with word s).words ≡ digits s
  read_leading word e = rw (from_leading_zero word, e)

  -- else row 7 or row 8 reads it; both say what `real` says
  read_real : (word : List ℕ → List ℕ) → is_leading_zero_digits s ≡ false → (read_with word s).words ≡ real s
  read_real word e = go (is_digits s) refl
    where
      go : (t : Bool) → is_digits s ≡ t → (read_with word s).words ≡ real s
      go true k = rw (from_leading_zero word, e, k) (sym (real_digits s k))
      go false k = rw (from_leading_zero word, e, k, d)

-- ---- a figure is a double

exponent_is : {x : List ℕ} → Exponent x → is_exponent x ≡ true
unfolding is_exponent
exponent_is no_exponent = refl
exponent_is (an_exponent g x s h) = let d = plain_digits x h in rw (starts_with_first (code "e") (code "e") (g ++ x), strip_sign_lem g x s d) d

unsigned_is : (a : List ℕ) → is_digits a ≡ true → {f x : List ℕ} → Decimals f → Exponent x → is_unsigned (a ++ (f ++ x)) ≡ true
unfolding is_unsigned span
unsigned_is a h {f} {x} no_point e =
    rw (span_seam digit a x (digits_all a h) (exponent_front x e), drop-append_seam a x, exponent_point x e, digits_nonempty a h) (exponent_is e)
unsigned_is a h {x = x} (a_point f k) e =
    rw (
      span_seam digit a (code "." ∷ (f ++ x)) (digits_all a h) refl,
      drop-append_seam a (code "." ∷ (f ++ x)),
      starts_with_first (code ".") (code ".") (f ++ x),
      span_seam digit f x (digits_all f k) (exponent_front x e),
      drop-append_seam f x,
      digits_nonempty a h,
    )
    (exponent_is e)

figure_double : {m f x : List ℕ} → OptionalMinus m → (a : List ℕ) → is_digits a ≡ true → Decimals f → Exponent x → is_double (m ++ (a ++ (f ++ x))) ≡ true
figure_double {f = f} {x = x} no_minus a h t e = rw (starts_with_digits (code "-") a (f ++ x) refl h) (unsigned_is a h t e)
figure_double {f = f} {x = x} a_minus a h t e = rw (starts_with_first (code "-") (code "-") (a ++ (f ++ x))) (unsigned_is a h t e)

-- ---- what numbers are read as

-- a figure is not empty, and does not start with a letter
figure_front : {m : List ℕ} → OptionalMinus m → (a r : List ℕ) → is_digits a ≡ true → (0 < length (m ++ (a ++ r))) × (letter (get_or (m ++ (a ++ r)) 0 0) ≡ false)
unfolding is_digits all
figure_front a_minus a r h = (omega arith, refl)
figure_front no_minus [] r h = absurd (false≢true h)
figure_front no_minus (b ∷ a) r h = (omega arith, digit_no_letter b ((and-eq-true_iff (digit b) (all digit a)).0 (digits_all (b ∷ a) h)).0)

-- a name with a byte that is no digit is not digits with a leading zero
sign_not_leading_zero : (a : List ℕ) (c : ℕ) (r : List ℕ) → digit c ≡ false → is_leading_zero_digits (a ++ c ∷ r) ≡ false
unfolding all
sign_not_leading_zero a c r n =
    let s = a ++ c ∷ r in
    untaken (is_leading_zero_digits s)
    (λ e.
    true≢false
    (sym (digits_all s ((and-eq-true_iff (ltb 1 (length s) && starts_with (code "0") s) (is_digits s)).0 e).1) ∙ all_append digit a (c ∷ r)
    ∙ rw n (and-false (all digit a))))

figure_leading : {m f x : List ℕ} → OptionalMinus m → (a : List ℕ) → plain a ≡ true → Decimals f → Exponent x → is_leading_zero_digits (m ++ (a ++ (f ++ x))) ≡ false
figure_leading {f = f} {x = x} a_minus a h t e = sign_not_leading_zero [] (code "-") (a ++ (f ++ x)) refl
figure_leading no_minus a h no_point no_exponent =
    rw (append-nil a) (not-true (is_leading_zero_digits a) ((and-eq-true_iff (is_digits a) (not (is_leading_zero_digits a))).0 h).1)
figure_leading no_minus a h no_point (an_exponent g x s k) = sign_not_leading_zero a (code "e") (g ++ x) refl
figure_leading {x = x} no_minus a h (a_point f k) e = sign_not_leading_zero a (code ".") (f ++ x) refl

-- a figure is read as the words of its parts
pub figure_read : (word : List ℕ → List ℕ) {m f x : List ℕ} (p : OptionalMinus m) (a : List ℕ) → plain a ≡ true → (t : Decimals f) (e : Exponent x)
    → (read_with word (m ++ (a ++ (f ++ x)))).words ≡ minus_words p ++ (cardinal a ++ (decimals_words t ++ exponent_words e))
figure_read word {m} {f} {x} p a h t e =
    let s = m ++ (a ++ (f ++ x)) in
    let k = plain_digits a h in
    let d = figure_double p a k t e in
    let o = figure_front p a (f ++ x) k in
    read_real s o.0 o.1 d (number_figure m a f x p h t e) word (figure_leading p a h t e) ∙ real_figure p a k t e

-- plain digits are read as a cardinal number
pub plain_read : (word : List ℕ → List ℕ) (s : List ℕ) → plain s ≡ true → (read_with word s).words ≡ cardinal s
plain_read word s h = rw (append-nil s, append-nil (cardinal s)) at (figure_read word no_minus s h no_point no_exponent)

-- digits with a leading zero are read one by one
pub leading_read : (word : List ℕ → List ℕ) (s : List ℕ) → is_leading_zero_digits s ≡ true → (read_with word s).words ≡ digits s
leading_read word s h =
    let k = ((and-eq-true_iff (ltb 1 (length s) && starts_with (code "0") s) (is_digits s)).0 h).1 in
    let d : is_double s ≡ true = rw (append-nil s) at (figure_double no_minus s k no_point no_exponent) in
    let o = figure_front no_minus s [] k in
    read_leading s (digits_some s k) (rw (append-nil s) at o.1) d (number_digits s k) word h
