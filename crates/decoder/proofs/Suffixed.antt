-- Digits with letters after them: the rows that do not take such a name, and what it is read as by the others. Assumes nothing.
use mathlib.Core.Path.{◌≡◌, refl, sym, ◌∙◌}
use mathlib.Core.Bool.{Bool, true, false, ◌&&◌, ◌||◌, and-false, or-true, true≢false}
use mathlib.Core.List.{List, [], ◌∷◌, ◌++◌}
use Prim.Native.Nat.{ℕ, ◌-◌, ◌<◌}
use Prim.Native.Char.{code}
use native.Mathlib.Omega.{arith}
use lib.Dec.{ltb}
use lib.ListN.{length, take, drop, get_or, length-append, get_or-append}
use Rattle.lists.specs.Bytes.{all, starts_with}
use Rattle.lists.specs.Classes.{digit, letter}
use Rattle.lists.proofs.Scan.{all_append, all_within, all_at}
use Rattle.shapes.specs.Shapes.{is_range, is_digits_slash_digits, is_leading_zero_digits, is_digits, is_double, is_ordinal, unit_at, has_unit}
use Rattle.shapes.proofs.Laws.{digits_all, digits_some}
use Rattle.units.specs.Units.{unit_word}
use Rattle.numerals.specs.Words.{other}
use Rattle.numerals.specs.Cardinal.{cardinal}
use Rattle.numerals.specs.Ordinal.{ordinal}
use Rattle.rows.specs.Rows.{first_taking, rows, read_step, read_with}
use Rattle.rows.proofs.Laws.{step_eq}
use Rattle.rows.proofs.Taken.{digit_no_letter, untaken, double_byte, double_bytes, digit_double, no_meridiem, no_range, no_fraction, no_ending, PastTimes, past_times}

abbrev letter_or_digit : ℕ → Bool
letter_or_digit b = letter b || digit b

letter_in : (b : ℕ) → letter b ≡ true → letter_or_digit b ≡ true
letter_in b h = rw h

digit_in : (b : ℕ) → digit b ≡ true → letter_or_digit b ≡ true
digit_in b h = rw h (or-true (letter b))

-- ---- the name

module _ (s u : List ℕ) (h : is_digits s ≡ true) (l : all letter u ≡ true) (x : all double_byte u ≡ false) where
  abbrev name : List ℕ
  name = s ++ u

  some : 0 < length name
  some = omega (arith, length-append s u, digits_some s h)

  plain_bytes : all letter_or_digit name ≡ true
  plain_bytes = all_append letter_or_digit s u ∙ rw (all_within digit letter_or_digit digit_in s (digits_all s h), all_within letter letter_or_digit letter_in u l)

  first : letter (get_or name 0 0) ≡ false
  first =
      let z = digits_some s h in
      rw (get_or-append s u 0 0 z) (digit_no_letter (get_or s 0 0) (all_at digit 0 s 0 (digits_all s h) z))

  not_double : all double_byte name ≡ true → ⊥
  not_double e = true≢false (sym e ∙ all_append double_byte s u ∙ rw x (and-false (all double_byte s)))

  suffix_not_digits : is_digits name ≡ false
  suffix_not_digits = untaken (is_digits name) (λ e. not_double (all_within digit double_byte digit_double name (digits_all name e)))

  no_double : is_double name ≡ false
  no_double = untaken (is_double name) (λ e. not_double (double_bytes name e))

  no_leading : is_leading_zero_digits name ≡ false
  no_leading = rw suffix_not_digits (and-false (ltb 1 (length name) && starts_with (code "0") name))

  past : PastTimes name
  past = past_times letter_or_digit name plain_bytes refl refl some first (no_meridiem letter_or_digit name plain_bytes refl refl)

  not_range : is_range name ≡ false
  not_range = no_range letter_or_digit name plain_bytes refl

  not_fraction : is_digits_slash_digits name ≡ false
  not_fraction = no_fraction letter_or_digit name plain_bytes refl

  -- no row before row 9 takes the name; in the list ten rows stand before it
  from_ordinal : (word : List ℕ → List ℕ) → read_with word name ≡ first_taking (drop 10 (rows word (read_with word) name))
  unfolding read_step
  from_ordinal word =
      step_eq word name
      ∙ rw (past.dotted, past.comma, past.time, past.meridiem, not_range, not_fraction, no_leading, suffix_not_digits, no_double, past.empty)

  -- row 9 reads it if it is an ordinal number
  pub read_ordinal : (word : List ℕ → List ℕ) → is_ordinal name ≡ true → (read_with word name).words ≡ ordinal (take (length name - 2) name)
  read_ordinal word o = rw (from_ordinal word, o)

  -- row 11 reads it if it is no ordinal number and has a unit
  pub read_unit : (word : List ℕ → List ℕ) → is_ordinal name ≡ false → has_unit name ≡ true
      → (read_with word name).words ≡ cardinal (take (unit_at name) name) ++ other (unit_word (drop (unit_at name) name)) ∷ []
  read_unit word o k = rw (from_ordinal word, o, no_ending letter_or_digit (code "%") name refl plain_bytes, k)
