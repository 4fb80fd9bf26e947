-- The words of a figure: how `real` reads its parts. Assumes nothing.
use mathlib.Core.Path.{◌≡◌, refl, sym, ap, ◌∙◌}
use mathlib.Core.Bool.{true, false}
use mathlib.Core.List.{List, [], ◌∷◌, ◌++◌, append-nil, append_assoc}
use Prim.Native.Nat.{ℕ}
use Prim.Native.Char.{code}
use native.Mathlib.Omega.{arith}
use lib.ListN.{length, length-append}
use lib.Seq.{take-append_seam, drop-append-add}
use borrow.Author.Tests.{lt-ltb, le-ltb}
use Rattle.lists.specs.Bytes.{bytes, all, starts_with}
use Rattle.lists.specs.Classes.{digit, except, not_e}
use Rattle.lists.proofs.Scan.{all_append, all_span, all_within, span_before, class_apart, starts_with_first}
use Rattle.shapes.specs.Shapes.{is_digits}
use Rattle.shapes.proofs.Laws.{digits_all}
use Rattle.numerals.specs.Words.{Word, other}
use Rattle.numerals.specs.Cardinal.{cardinal, digits}
use Rattle.reals.specs.Real.{point_at, e_at, pointed, real_step, real}
use Rattle.reals.proofs.RealLaws.{real_eq, real_plain}
use Rattle.clear.proofs.Figures.{plain_digits}
use Rattle.clear.proofs.Cuts.{starts_with_digits, digits_alone}
use Rattle.clear.specs.Clear.{OptionalMinus, no_minus, a_minus, Decimals, no_point, a_point, ExponentSign, no_sign, plus_sign, minus_sign, Exponent, no_exponent, an_exponent}

-- ---- digits

-- no digit is another byte of a figure: a point, a sign or an e
digits_but : (c : ℕ) (s : List ℕ) → digit c ≡ false → all digit s ≡ true → all (except c) s ≡ true
digits_but c s n h = all_within digit (except c) (λ b k. rw (class_apart digit c b n k)) s h

digits_not_e : (s : List ℕ) → all digit s ≡ true → all not_e s ≡ true
digits_not_e s h = all_within digit not_e (λ b k. rw (class_apart digit (code "e") b refl k, class_apart digit (code "E") b refl k)) s h

-- ---- `pointed`

pointed_none : (s : List ℕ) → all digit s ≡ true → pointed s ≡ cardinal s
unfolding pointed
pointed_none s h =
    let e = all_span (except (code ".")) s (digits_but (code ".") s refl h) in
    rw (e, le-ltb (length s) (length s) (omega arith))

pointed_some : (s f : List ℕ) → all digit s ≡ true → pointed (s ++ (bytes "." ++ f)) ≡ cardinal s ++ other (bytes "point") ∷ digits f
unfolding pointed
pointed_some s f h =
    let e : point_at (s ++ code "." ∷ f) ≡ length s =
    span_before (except (code ".")) s (code ".") f refl ∙ all_span (except (code ".")) s (digits_but (code ".") s refl h) in
    rw (
      e,
      lt-ltb (length s) (length (s ++ code "." ∷ f)) (omega (arith, length-append s (code "." ∷ f))),
      take-append_seam s (code "." ∷ f),
      drop-append-add s (code "." ∷ f) 1,
    )

-- ---- `real`

real_minus : (s : List ℕ) → real (bytes "-" ++ s) ≡ other (bytes "minus") ∷ real s
unfolding real_step
real_minus s = real_eq (code "-" ∷ s) ∙ rw (starts_with_first (code "-") (code "-") s)

real_plus : (s : List ℕ) → real (bytes "+" ++ s) ≡ other (bytes "plus") ∷ real s
unfolding real_step
real_plus s = real_eq (code "+" ∷ s) ∙ rw (starts_with_first (code "-") (code "+") s, starts_with_first (code "+") (code "+") s)

-- a text without an e that does not start with a sign
module _ (s : List ℕ) (m : starts_with (code "-") s ≡ false) (p : starts_with (code "+") s ≡ false) (n : all not_e s ≡ true) where
  real_pointed : real s ≡ pointed s
  real_pointed = real_plain s m p (omega (arith, all_span not_e s n))

  real_e : (r : List ℕ) → starts_with (code "-") (s ++ (bytes "e" ++ r)) ≡ false → starts_with (code "+") (s ++ (bytes "e" ++ r)) ≡ false
      → real (s ++ (bytes "e" ++ r)) ≡ real s ++ other (bytes "e") ∷ real r
  unfolding real_step
  real_e r a b =
      let e : e_at (s ++ code "e" ∷ r) ≡ length s = span_before not_e s (code "e") r refl ∙ all_span not_e s n in
      real_eq (s ++ code "e" ∷ r)
      ∙ rw (
        a,
        b,
        e,
        lt-ltb (length s) (length (s ++ code "e" ∷ r)) (omega (arith, length-append s (code "e" ∷ r))),
        take-append_seam s (code "e" ∷ r),
        drop-append-add s (code "e" ∷ r) 1,
      )

-- `real` reads digits alone as `cardinal` does
pub real_digits : (s : List ℕ) → is_digits s ≡ true → real s ≡ cardinal s
real_digits s h =
    real_pointed s (digits_alone (code "-") s refl h) (digits_alone (code "+") s refl h) (digits_not_e s (digits_all s h))
    ∙ pointed_none s (digits_all s h)

-- ---- the words of each part of a figure, as the part is written

abbrev pub minus_words : {m : List ℕ} → OptionalMinus m → List Word
minus_words no_minus = []
minus_words a_minus = other (bytes "minus") ∷ []

abbrev pub decimals_words : {f : List ℕ} → Decimals f → List Word
decimals_words no_point = []
decimals_words (a_point f h) = other (bytes "point") ∷ digits f

abbrev pub sign_words : {g : List ℕ} → ExponentSign g → List Word
sign_words no_sign = []
sign_words plus_sign = other (bytes "plus") ∷ []
sign_words minus_sign = other (bytes "minus") ∷ []

abbrev pub exponent_words : {x : List ℕ} → Exponent x → List Word
exponent_words no_exponent = []
exponent_words (an_exponent g x s h) = other (bytes "e") ∷ (sign_words s ++ cardinal x)

real_sign : {g : List ℕ} (s : ExponentSign g) (x : List ℕ) → real (g ++ x) ≡ sign_words s ++ real x
real_sign no_sign x = refl
real_sign plus_sign x = real_plus x
real_sign minus_sign x = real_minus x

decimals_not_e : {f : List ℕ} → Decimals f → all not_e f ≡ true
unfolding all
decimals_not_e no_point = refl
decimals_not_e (a_point f h) = digits_not_e f (digits_all f h)

module _ (a : List ℕ) (h : is_digits a ≡ true) where
  pointed_decimals : {f : List ℕ} (t : Decimals f) → pointed (a ++ f) ≡ cardinal a ++ decimals_words t
  pointed_decimals no_point = rw (append-nil a, append-nil (cardinal a)) (pointed_none a (digits_all a h))
  pointed_decimals (a_point f k) = pointed_some a f (digits_all a h)

  -- digits and decimals, alone or before an exponent
  module _ {f : List ℕ} (t : Decimals f) where
    start : (c : ℕ) → digit c ≡ false → starts_with c (a ++ f) ≡ false
    start c n = starts_with_digits c a f n h

    not_e_all : all not_e (a ++ f) ≡ true
    not_e_all = all_append not_e a f ∙ rw (digits_not_e a (digits_all a h)) (decimals_not_e t)

    real_decimals : real (a ++ f) ≡ cardinal a ++ decimals_words t
    real_decimals = real_pointed (a ++ f) (start (code "-") refl) (start (code "+") refl) not_e_all ∙ pointed_decimals t

    real_exponent : {x : List ℕ} (e : Exponent x) → real (a ++ (f ++ x)) ≡ cardinal a ++ (decimals_words t ++ exponent_words e)
    real_exponent no_exponent = rw (append-nil f, append-nil (decimals_words t)) real_decimals
    real_exponent (an_exponent g x s k) =
        let whole : (c : ℕ) → digit c ≡ false
        → starts_with c ((a ++ f) ++ (bytes "e" ++ (g ++ x))) ≡ false = λ c n.
        rw (append_assoc a f (bytes "e" ++ (g ++ x))) (starts_with_digits c a (f ++ (bytes "e" ++ (g ++ x))) n h) in
        ap real (sym (append_assoc a f (bytes "e" ++ (g ++ x))))
        ∙ real_e (a ++ f) (start (code "-") refl) (start (code "+") refl) not_e_all (g ++ x) (whole (code "-") refl) (whole (code "+") refl)
        ∙ rw (real_decimals, real_sign s x, real_digits x (plain_digits x k))
        (append_assoc (cardinal a) (decimals_words t) (other (bytes "e") ∷ (sign_words s ++ cardinal x)))

-- the words of a figure are those of its parts
pub real_figure : {m f x : List ℕ} (p : OptionalMinus m) (a : List ℕ) → is_digits a ≡ true → (t : Decimals f) (e : Exponent x)
    → real (m ++ (a ++ (f ++ x))) ≡ minus_words p ++ (cardinal a ++ (decimals_words t ++ exponent_words e))
real_figure no_minus a h t e = real_exponent a h t e
real_figure {f = f} {x = x} a_minus a h t e = real_minus (a ++ (f ++ x)) ∙ ap (λ (ws : List Word). other (bytes "minus") ∷ ws) (real_exponent a h t e)
