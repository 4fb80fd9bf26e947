-- The first two kinds, and either of them with one %. Assumes nothing.
use mathlib.Core.Path.{◌≡◌, refl, ap, ◌∙◌}
use mathlib.Core.Bool.{Bool, true, false, cond, not, ◌&&◌, ◌||◌, or-true, and-eq-true_iff}
use mathlib.Core.List.{List, [], ◌∷◌, ◌++◌}
use Prim.Native.Nat.{ℕ, suc, ◌-◌}
use Prim.Native.Char.{code}
use native.Mathlib.Omega.{arith}
use lib.Dec.{eqb}
use lib.ListN.{length, take, drop, take-append-drop}
use lib.Seq.{length-take-le}
use borrow.Author.Tests.{eqb-true, not-true}
use Rattle.lists.specs.Bytes.{bytes, span, starts_with, ends_with, strip_prefix, take_while, drop_while}
use Rattle.lists.specs.Classes.{digit}
use Rattle.lists.proofs.Scan.{span_all, span_le, starts_with_first}
use Rattle.lists.proofs.Bools.{or_true_elim}
use Rattle.shapes.specs.Shapes.{is_digits, is_leading_zero_digits, strip_sign}
use Rattle.shapes.proofs.Laws.{digits_all, digits_nonempty, starts_with_cons}
use Rattle.clear.specs.Clear.{plain, OptionalMinus, no_minus, a_minus, Decimals, no_point, a_point, ExponentSign, no_sign, plus_sign, minus_sign}
use Rattle.clear.specs.Clear.{Exponent, no_exponent, an_exponent, Number, number_digits, number_figure, Clear, clear_percent}
use Rattle.clear.specs.Test.{is_exponent_clear, is_decimals_clear, is_figure_clear, is_number_clear, is_percent_clear}
use Rattle.clear.proofs.Cuts.{cut_front, ends_with_snoc, snoc_ends_with, take_while_seam, drop_while_seam, span_seam, starts_with_digits, digits_alone}

-- plain digits are digits
pub plain_digits : (s : List ℕ) → plain s ≡ true → is_digits s ≡ true
plain_digits s h = ((and-eq-true_iff (is_digits s) (not (is_leading_zero_digits s))).0 h).0

-- ---- exponents

empty_text : (s : List ℕ) → eqb (length s) 0 ≡ true → [] ≡ s
empty_text [] h = refl
empty_text (b ∷ s) h = absurd (let e = eqb-true (suc (length s)) 0 h in omega arith)

signed_exponent : (s : List ℕ) → plain (strip_sign s) ≡ true → Exponent (code "e" ∷ s)
signed_exponent s h = go (starts_with (code "+") s) (starts_with (code "-") s) refl refl h
  where
    go : (t u : Bool) → starts_with (code "+") s ≡ t → starts_with (code "-") s ≡ u → plain (cond (t || u) (drop 1 s) s) ≡ true → Exponent (code "e" ∷ s)
    go true u e f h = rw (starts_with_cons (code "+") s e) at (an_exponent (bytes "+") (drop 1 s) plus_sign h)
    go false true e f h = rw (starts_with_cons (code "-") s f) at (an_exponent (bytes "-") (drop 1 s) minus_sign h)
    go false false e f h = an_exponent [] s no_sign h

test_exponent : (s : List ℕ) → is_exponent_clear s ≡ true → Exponent s
unfolding is_exponent_clear
test_exponent s h = go (starts_with (code "e") s) refl h
  where
    go : (t : Bool) → starts_with (code "e") s ≡ t → cond t (plain (strip_sign (drop 1 s))) (eqb (length s) 0) ≡ true → Exponent s
    go true e h = rw (starts_with_cons (code "e") s e) at (signed_exponent (drop 1 s) h)
    go false e h = rw (empty_text s h) at no_exponent

-- without its sign, if there is one, an exponent is its digits
pub strip_sign_lem : (g x : List ℕ) → ExponentSign g → is_digits x ≡ true → strip_sign (g ++ x) ≡ x
strip_sign_lem g x no_sign h = rw (digits_alone (code "+") x refl h, digits_alone (code "-") x refl h)
strip_sign_lem g x plus_sign h = rw (starts_with_first (code "+") (code "+") x)
strip_sign_lem g x minus_sign h = rw (starts_with_first (code "+") (code "-") x, starts_with_first (code "-") (code "-") x)

exponent_test : (s : List ℕ) → Exponent s → is_exponent_clear s ≡ true
unfolding is_exponent_clear
exponent_test s no_exponent = refl
exponent_test s (an_exponent g x r h) = rw (starts_with_first (code "e") (code "e") (g ++ x), strip_sign_lem g x r (plain_digits x h)) h

-- an exponent does not start with a digit
pub exponent_front : (s : List ℕ) → Exponent s → span digit s ≡ 0
unfolding span
exponent_front s no_exponent = refl
exponent_front s (an_exponent g x r h) = refl

-- ---- a point with digits, and an exponent

-- what follows the whole digits
record DecimalsTail (s : List ℕ) : Type 0 where
  f : List ℕ
  x : List ℕ
  point : Decimals f
  exponent : Exponent x
  whole : f ++ x ≡ s

span_digits : (s : List ℕ) → eqb (span digit s) 0 ≡ false → is_digits (take_while digit s) ≡ true
unfolding is_digits
span_digits s h = rw (length-take-le (span digit s) s (span_le digit s), h, span_all digit s)

test_decimals : (s : List ℕ) → is_decimals_clear s ≡ true → DecimalsTail s
unfolding is_decimals_clear
test_decimals s h = go (starts_with (code ".") s) refl h
  where
    d : List ℕ
    d = drop 1 s

    go : (t : Bool) → starts_with (code ".") s ≡ t
        → cond t (not (eqb (span digit d) 0) && is_exponent_clear (drop_while digit d)) (is_exponent_clear s) ≡ true → DecimalsTail s
    go true e h =
        let p = (and-eq-true_iff (not (eqb (span digit d) 0)) (is_exponent_clear (drop_while digit d))).0 h in
        record {
          f = code "." ∷ take_while digit d;
          x = drop_while digit d;
          point = a_point (take_while digit d) (span_digits d (not-true _ p.0));
          exponent = test_exponent (drop_while digit d) p.1;
          whole = ap (λ (r : List ℕ). code "." ∷ r) (take-append-drop (span digit d) d) ∙ starts_with_cons (code ".") s e;
        }
    go false e h = record { f = []; x = s; point = no_point; exponent = test_exponent s h; whole = refl }

-- an exponent does not start with a point
pub exponent_point : (x : List ℕ) → Exponent x → starts_with (code ".") x ≡ false
exponent_point x no_exponent = refl
exponent_point x (an_exponent g y r h) = starts_with_first (code ".") (code "e") (g ++ y)

decimals_test : (f x : List ℕ) → Decimals f → Exponent x → is_decimals_clear (f ++ x) ≡ true
unfolding is_decimals_clear
decimals_test f x no_point e = rw (exponent_point x e) (exponent_test x e)
decimals_test f x (a_point d h) e =
    let z = exponent_front x e in
    let a = digits_all d h in
    rw (starts_with_first (code ".") (code ".") (d ++ x), drop_while_seam digit d x a z, span_seam digit d x a z, digits_nonempty d h) (exponent_test x e)

decimals_front : (f x : List ℕ) → Decimals f → Exponent x → span digit (f ++ x) ≡ 0
unfolding span
decimals_front f x no_point e = exponent_front x e
decimals_front f x (a_point d h) e = refl

-- ---- figures

figure_number : (m s : List ℕ) → OptionalMinus m → is_figure_clear s ≡ true → Number (m ++ s)
unfolding is_figure_clear
figure_number m s r h =
    let p = (and-eq-true_iff (plain (take_while digit s)) (is_decimals_clear (drop_while digit s))).0 h in
    let t = test_decimals (drop_while digit s) p.1 in
    rw (t.whole, take-append-drop) at (number_figure m (take_while digit s) t.f t.x r p.0 t.point t.exponent)

-- a name that passes the test is a number
pub test_number : (s : List ℕ) → is_number_clear s ≡ true → Number s
test_number s = or_true_elim (is_digits s) (is_figure_clear (strip_prefix (code "-") s)) (number_digits s) (go (starts_with (code "-") s) refl)
  where
    go : (t : Bool) → starts_with (code "-") s ≡ t → is_figure_clear (cond t (drop 1 s) s) ≡ true → Number s
    go true e k = rw (starts_with_cons (code "-") s e) at (figure_number (bytes "-") (drop 1 s) a_minus k)
    go false e k = figure_number [] s no_minus k

strip_minus : (m a t : List ℕ) → OptionalMinus m → is_digits a ≡ true → strip_prefix (code "-") (m ++ (a ++ t)) ≡ a ++ t
strip_minus m a t no_minus h = rw (starts_with_digits (code "-") a t refl h)
strip_minus m a t a_minus h = rw (starts_with_first (code "-") (code "-") (a ++ t))

-- a number passes the test
pub number_test : (s : List ℕ) → Number s → is_number_clear s ≡ true
unfolding is_figure_clear
number_test s (number_digits t h) = rw h
number_test s (number_figure m a f x r h p e) =
    let d = plain_digits a h in
    let z = decimals_front f x p e in
    rw (
      strip_minus m a (f ++ x) r d,
      take_while_seam digit a (f ++ x) (digits_all a d) z,
      drop_while_seam digit a (f ++ x) (digits_all a d) z,
      h,
      decimals_test f x p e,
    )
    (or-true (is_digits (m ++ (a ++ (f ++ x)))))

-- ---- with one %

-- a name that passes the test is clear
pub test_percent : (s : List ℕ) → is_percent_clear s ≡ true → Clear s
test_percent s h =
    let p = (and-eq-true_iff (ends_with (code "%") s) (is_number_clear (take (length s - 1) s))).0 h in
    rw (ends_with_snoc (code "%") s p.0) at (clear_percent (take (length s - 1) s) (test_number (take (length s - 1) s) p.1))

-- a number with one % passes the test
pub percent_test : (s : List ℕ) → Number s → is_percent_clear (s ++ bytes "%") ≡ true
percent_test s n = rw (snoc_ends_with (code "%") s, cut_front s (bytes "%") 1 refl) (number_test s n)
