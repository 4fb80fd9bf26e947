-- A clear name of letters is read by row 12 alone, and is decoded if that row says it as it is. Assumes nothing.
use mathlib.Core.Path.{◌≡◌, refl, sym, ap₂, ◌∙◌}
use mathlib.Core.Bool.{true, false, ◌&&◌, and-false, and-eq-true_iff, false≢true}
use mathlib.Core.List.{List, [], ◌∷◌, map}
use Prim.Native.Nat.{ℕ, zero, suc, ◌-◌, ◌≤◌}
use Prim.Native.Char.{code}
use native.Mathlib.Omega.{arith}
use lib.Dec.{leb, ltb}
use lib.ListN.{length, take, get_or}
use borrow.Author.Tests.{leb-true, le-ltb, lt-leb, ne_eqb}
use Rattle.lists.specs.Bytes.{all, span, lowercase, to_lower, starts_with, listed}
use Rattle.lists.specs.Classes.{digit, except}
use Rattle.lists.proofs.Scan.{all_within, all_span, last_none, class_apart, starts_with_first}
use Rattle.lists.proofs.Parts.{split_two}
use Rattle.shapes.specs.Shapes.{is_digits, is_leading_zero_digits, is_unsigned, is_double, is_dotted_abbrev, is_ordinal, has_unit}
use Rattle.shapes.proofs.Laws.{digits_all}
use Rattle.numerals.specs.Words.{other, spell, spelled}
use Rattle.rows.specs.Rows.{read_step, read_with, by}
use Rattle.rows.specs.declared.Row.TheVariants.{OneWord}
use Rattle.rows.proofs.Laws.{step_eq}
use Rattle.rows.proofs.Taken.{untaken, no_comma, no_time, no_meridiem, no_range, no_fraction, no_ending}
use Rattle.clear.specs.Clear.{table_words}
use Rattle.decoder.specs.Decode.{decode}
use Rattle.decoder.proofs.Decoded.{DecodedWith}

-- ---- a letter a to z

at_least : (b : ℕ) → lowercase b ≡ true → 97 ≤ b
at_least b h = leb-true 97 b ((and-eq-true_iff (leb 97 b) (leb b 122)).0 h).0

not_digit : (b : ℕ) → lowercase b ≡ true → digit b ≡ false
not_digit b h = rw (lt-leb b 57 (omega (arith, at_least b h))) (and-false (leb 48 b))

lower_lowercase : (b : ℕ) → lowercase b ≡ true → to_lower b ≡ b
lower_lowercase b h = rw (lt-leb b 90 (omega (arith, at_least b h)), and-false (leb 65 b))

-- lowering leaves small letters as they are
pub lowercase_lowered : (s : List ℕ) → all lowercase s ≡ true → map to_lower s ≡ s
unfolding all
lowercase_lowered [] h = refl
lowercase_lowered (b ∷ s) h = let k = (and-eq-true_iff (lowercase b) (all lowercase s)).0 h in ap₂ (λ (c : ℕ) (t : List ℕ). c ∷ t)
    (lower_lowercase b k.0) (lowercase_lowered s k.1)

lowercase_except : (c : ℕ) → lowercase c ≡ false → (s : List ℕ) → all lowercase s ≡ true → all (except c) s ≡ true
lowercase_except c n = all_within lowercase (except c) (λ b k. rw (class_apart lowercase c b n k))

-- ---- no row but the last takes letters a to z, whatever that row says

module _ (b : ℕ) (t : List ℕ) (h : all lowercase (b ∷ t) ≡ true) where
  first : lowercase b ≡ true
  unfolding all
  first = ((and-eq-true_iff (lowercase b) (all lowercase t)).0 h).0

  starts_with_otherwise : (c : ℕ) → lowercase c ≡ false → starts_with c (b ∷ t) ≡ false
  starts_with_otherwise c n = starts_with_first c b t ∙ class_apart lowercase c b n first

  not_dotted : is_dotted_abbrev (b ∷ t) ≡ false
  unfolding is_dotted_abbrev
  not_dotted =
      let e : span (except (code ".")) (b ∷ t) ≡ length (b ∷ t) = all_span (except (code ".")) (b ∷ t) (lowercase_except (code ".") refl (b ∷ t) h) in
      rw (no_ending lowercase (code ".") (b ∷ t) refl h, split_two (code ".") (b ∷ t), le-ltb (span (except (code ".")) (b ∷ t)) (length (b ∷ t)) (omega arith))

  not_digits : is_digits (b ∷ t) ≡ false
  unfolding all
  not_digits = untaken (is_digits (b ∷ t)) (λ e.
      false≢true (sym (not_digit b first) ∙ ((and-eq-true_iff (digit b) (all digit t)).0 (digits_all (b ∷ t) e)).0))

  not_zeros : is_leading_zero_digits (b ∷ t) ≡ false
  not_zeros = rw not_digits (and-false (ltb 1 (length (b ∷ t)) && starts_with (code "0") (b ∷ t)))

  not_double : is_double (b ∷ t) ≡ false
  unfolding is_unsigned span
  not_double = rw (starts_with_otherwise (code "-") refl, not_digit b first, starts_with_otherwise (code ".") refl)

  front_digit : (n : ℕ) → digit (get_or (take n (b ∷ t)) 0 0) ≡ false
  front_digit zero = refl
  front_digit (suc n) = not_digit b first

  not_ordinal : is_ordinal (b ∷ t) ≡ false
  unfolding is_ordinal
  not_ordinal = rw (front_digit (length (b ∷ t) - 2)) (simp and-false)

  no_unit : has_unit (b ∷ t) ≡ false
  unfolding has_unit
  no_unit = rw (last_none digit lowercase not_digit (b ∷ t) h)

  one_word_read : (word : List ℕ → List ℕ) → read_with word (b ∷ t) ≡ by OneWord (other (word (b ∷ t)) ∷ [])
  unfolding read_step
  one_word_read word =
      step_eq word (b ∷ t)
      ∙ rw (
        not_dotted,
        no_comma lowercase (b ∷ t) h refl,
        no_time lowercase (b ∷ t) h refl,
        no_meridiem lowercase (b ∷ t) h refl refl,
        no_range lowercase (b ∷ t) h refl,
        no_fraction lowercase (b ∷ t) h refl,
        not_zeros,
        not_digits,
        not_double,
        not_ordinal,
        no_ending lowercase (code "%") (b ∷ t) refl h,
        no_unit,
        ne_eqb (suc (length t)) 0 (omega arith),
      )

-- a word outside the tables is decoded if row 12 says it as it is
pub word_decoded : {word : List ℕ → List ℕ} (s : List ℕ) → word s ≡ s → 2 ≤ length s → all lowercase s ≡ true → listed s table_words ≡ false → DecodedWith word s
unfolding decode spelled spell
word_decoded [] e l h n = absurd (omega arith)
word_decoded {word} (b ∷ t) e l h n = record { decoded = rw (one_word_read b t h word, e, n) }
