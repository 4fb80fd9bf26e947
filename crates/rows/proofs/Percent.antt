-- Names that end in %: no row before 10 takes them. Assumes nothing.
use mathlib.Core.Path.{◌≡◌, refl, ◌∙◌}
use mathlib.Core.Bool.{Bool, true, false, not, ◌&&◌, and-eq-true_iff, or-true}
use mathlib.Core.List.{List, [], ◌∷◌, ◌++◌, map}
use Prim.Native.Nat.{ℕ, zero, suc, ◌-◌, ◌<◌}
use Prim.Native.Char.{code}
use native.Mathlib.Omega.{arith}
use lib.Dec.{eqb, ltb}
use lib.ListN.{length, take, get_or}
use borrow.Author.Tests.{eqb-true, eq-eqb, ne_eqb}
use Rattle.lists.specs.Bytes.{all, elem, to_lower, starts_with, ends_with, any}
use Rattle.lists.specs.Classes.{digit, digit_or_comma}
use Rattle.shapes.specs.Shapes.{is_dotted_abbrev, is_comma_int, is_time, is_range, is_digits_slash_digits, is_leading_zero_digits, is_digits, is_double, is_ordinal}
use Rattle.shapes.specs.Times.{is_meridiem_time}
use Rattle.shapes.proofs.Laws.{digits_all}
use Rattle.rows.specs.Rows.{by, per_cent, read_step, read_with, read}
use Rattle.rows.specs.declared.Row.TheVariants.{Percent}
use Rattle.rows.proofs.Laws.{ends_some, step_eq}
use Rattle.rows.proofs.Taken.{outside, dotted_byte, digit_or, meridiem_byte, double_byte, ordinal_byte, dotted_bytes, comma_bytes, time_bytes, meridiem_bytes, range_bytes, fraction_bytes, double_bytes, ordinal_bytes, PastTimes}

elem_at : (c : ℕ) (s : List ℕ) (i : ℕ) → i < length s → get_or s i 0 ≡ c → elem c s ≡ true
unfolding any
elem_at c [] i h e = absurd (omega arith)
elem_at c (b ∷ s) zero h e = rw (eq-eqb b c e)
elem_at c (b ∷ s) (suc i) h e = rw (elem_at c s i (omega arith) e, or-true (eqb b c))

-- a text has the byte that it ends in
ends_elem : (c : ℕ) (s : List ℕ) → ends_with c s ≡ true → elem c s ≡ true
ends_elem c s e =
    elem_at c s (length s - 1) (omega (arith, ends_some c s e))
    (eqb-true (get_or s (length s - 1) 0) c ((and-eq-true_iff (not (eqb (length s) 0)) (eqb (get_or s (length s - 1) 0) c)).0 e).1)

-- the name passes none of the tests of rows 1 to 9
pub record Untaken (s : List ℕ) : Type 0 where
  pub past : PastTimes s
  pub range : is_range s ≡ false
  pub fraction : is_digits_slash_digits s ≡ false
  pub leading : is_leading_zero_digits s ≡ false
  pub digits : is_digits s ≡ false
  pub double : is_double s ≡ false
  pub ordinal : is_ordinal s ≡ false

-- a name that ends in % passes none of them
pub percent_untaken : (s : List ℕ) → ends_with (code "%") s ≡ true → Untaken s
percent_untaken s e = record {
  past =
      record {
        empty = ne_eqb (length s) 0 (λ z. omega (arith, ends_some (code "%") s e));
        dotted = other dotted_byte refl (is_dotted_abbrev s) (dotted_bytes s);
        comma = other digit_or_comma refl (is_comma_int s) (comma_bytes s);
        time = other (digit_or (code ":")) refl (is_time s) (time_bytes s);
        meridiem = other meridiem_byte refl (is_meridiem_time s) (meridiem_bytes s);
      };
  range = other (digit_or (code "-")) refl (is_range s) (range_bytes s);
  fraction = other (digit_or (code "/")) refl (is_digits_slash_digits s) (fraction_bytes s);
  leading = other digit refl (is_leading_zero_digits s) (λ h. digits_all s ((and-eq-true_iff (ltb 1 (length s) && starts_with (code "0") s) (is_digits s)).0 h).1);
  digits = other digit refl (is_digits s) (digits_all s);
  double = other double_byte refl (is_double s) (double_bytes s);
  ordinal = other ordinal_byte refl (is_ordinal s) (ordinal_bytes s);
}
  where
    other : (p : ℕ → Bool) → p (code "%") ≡ false → (shape : Bool) → (shape ≡ true → all p s ≡ true) → shape ≡ false
    other p h shape f = outside shape p (code "%") s f h (ends_elem (code "%") s e)

-- so row 10 reads it
pub percent_with : (word : List ℕ → List ℕ) (s : List ℕ) → ends_with (code "%") s ≡ true
    → read_with word s ≡ by Percent ((read_with word (take (length s - 1) s)).words ++ per_cent)
unfolding read_step
percent_with word s e =
    let u = percent_untaken s e in
    let p = u.past in
    step_eq word s ∙ rw (p.dotted, p.comma, p.time, p.meridiem, u.range, u.fraction, u.leading, u.digits, u.double, u.ordinal, e, p.empty)

-- the same for `read`, whose row 12 lowers the name
pub percent_read : (s : List ℕ) → ends_with (code "%") s ≡ true → read s ≡ by Percent ((read (take (length s - 1) s)).words ++ per_cent)
percent_read s e = percent_with (map to_lower) s e
