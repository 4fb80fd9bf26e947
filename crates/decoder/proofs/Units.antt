-- Plain digits with a unit are decoded. Assumes nothing.
use mathlib.Core.Path.{◌≡◌, refl, ◌∙◌}
use mathlib.Core.Bool.{Bool, true, false, not, ◌&&◌, and-false}
use mathlib.Core.List.{List, [], ◌∷◌, ◌++◌}
use Prim.Native.Nat.{ℕ, ◌+◌, ◌-◌, ◌≤◌, ◌<◌}
use native.Mathlib.Omega.{arith}
use lib.Dec.{leb}
use lib.ListN.{length, drop, get_or, length-append}
use lib.Seq.{take_at, drop_at, drop-append-add}
use borrow.Author.Tests.{lt-ltb, leb-true, not-true}
use Rattle.lists.specs.Bytes.{all, same_by, any}
use Rattle.lists.specs.Classes.{digit, letter, digit_or_comma}
use Rattle.lists.proofs.Scan.{all_within}
use Rattle.lists.proofs.Table.{upto, below}
use Rattle.shapes.specs.Shapes.{is_ordinal, is_ordinal_suffix, has_unit}
use Rattle.shapes.proofs.Laws.{digits_all, digits_nonempty}
use Rattle.units.proofs.Laws.{listed_index_of}
use Rattle.units.specs.Units.{unit_abbreviations, abbreviations, unit_words, index_of, is_unit}
use Rattle.numerals.specs.Words.{other}
use Rattle.numerals.specs.Cardinal.{cardinal}
use Rattle.rows.specs.Rows.{read_with}
use Rattle.clear.specs.Clear.{plain}
use Rattle.decoder.proofs.Decoded.{DecodedWith}
use Rattle.rows.proofs.Taken.{double_byte}
use Rattle.clear.proofs.Figures.{plain_digits}
use Rattle.clear.proofs.Suffixes.{unit_facts_lem, unit_at_lem}
use Rattle.numerals.proofs.NumberWords.{cardinal_number_words}
use Rattle.decoder.proofs.NumberWords.{decode_plain}
use Rattle.decoder.proofs.Suffixed.{read_unit}
use Rattle.decoder.proofs.Dispatch.{is_ordinary_end, plain_not_one_word, decode_unit_lem, decoded_ordinary}

-- ---- the rows of the table

abbrev abbreviation_at : ℕ → List ℕ
abbreviation_at k = get_or abbreviations k []

abbrev unit_word_at : ℕ → List ℕ
unit_word_at k = get_or unit_words k []

-- if all 22 rows pass a test, row k passes it
each_unit_test : (p : ℕ → Bool) → upto p 22 ≡ true → (k : ℕ) → k < length unit_words → p k ≡ true
unfolding unit_words unit_abbreviations
each_unit_test p t k h = below p 22 t k h

module _ (k : ℕ) (h : k < length unit_words) where
  letters : all letter (abbreviation_at k) ≡ true
  unfolding abbreviations unit_abbreviations all
  letters = each_unit_test (λ k. all letter (abbreviation_at k)) refl k h

  no_double : all double_byte (abbreviation_at k) ≡ false
  unfolding abbreviations unit_abbreviations all
  no_double = not-true (all double_byte (abbreviation_at k)) (each_unit_test (λ k. not (all double_byte (abbreviation_at k))) refl k h)

  size : 2 ≤ length (abbreviation_at k)
  unfolding abbreviations unit_abbreviations
  size = leb-true 2 (length (abbreviation_at k)) (each_unit_test (λ k. leb 2 (length (abbreviation_at k))) refl k h)

  no_suffix : is_ordinal_suffix (drop (length (abbreviation_at k) - 2) (abbreviation_at k)) ≡ false
  unfolding abbreviations unit_abbreviations same_by
  no_suffix =
      not-true (is_ordinal_suffix (drop (length (abbreviation_at k) - 2) (abbreviation_at k)))
      (each_unit_test (λ k. not (is_ordinal_suffix (drop (length (abbreviation_at k) - 2) (abbreviation_at k)))) refl k h)

  in_table : is_unit (abbreviation_at k) ≡ true
  unfolding abbreviations unit_abbreviations index_of any same_by
  in_table = each_unit_test (λ k. is_unit (abbreviation_at k)) refl k h

  unit_ordinary_end : is_ordinary_end (unit_word_at k) ≡ true
  unfolding unit_words unit_abbreviations same_by all
  unit_ordinary_end = each_unit_test (λ k. is_ordinary_end (unit_word_at k)) refl k h

-- ---- the name

module _ (s : List ℕ) (k : ℕ) (p : plain s ≡ true) (h : k < length unit_words) where
  abbrev u : List ℕ
  u = abbreviation_at k

  abbrev name : List ℕ
  name = s ++ u

  digits_s : all digit s ≡ true
  digits_s = digits_all s (plain_digits s p)

  not_ordinal : is_ordinal name ≡ false
  unfolding is_ordinal
  not_ordinal =
      let e : length name - 2 ≡ length s + (length u - 2) = omega (arith, length-append s u, size k h) in
      rw (e, drop-append-add s u (length u - 2), no_suffix k h, and-false (leb 3 (length name) && _))

  with_unit : has_unit name ≡ true
  unfolding has_unit
  with_unit =
      rw (
        unit_at_lem s k p h,
        take_at s u (length s) refl,
        drop_at s u (length s) refl,
        in_table k h,
        all_within digit digit_or_comma (λ b d. rw d) s digits_s,
        digits_nonempty s (plain_digits s p),
      )

  words : (word : List ℕ → List ℕ) → (read_with word name).words ≡ cardinal s ++ other (unit_word_at k) ∷ []
  words word =
      read_unit s u (plain_digits s p) (letters k h) (no_double k h) word not_ordinal with_unit
      ∙ rw (unit_at_lem s k p h, take_at s u (length s) refl, drop_at s u (length s) refl, (unit_facts_lem k h).first)

-- plain digits with a unit are decoded, if no row before has the unit's word
pub unit_decoded : {word : List ℕ → List ℕ} (s : List ℕ) (k : ℕ) → plain s ≡ true → k < length unit_words → index_of (get_or unit_words k []) unit_words ≡ k
    → DecodedWith word (s ++ get_or abbreviations k [])
unit_decoded {word} s k p h b =
    let e = cardinal_number_words s in
    let q = unit_ordinary_end k h in
    let l = plain_not_one_word s p (unit_word_at k) [] in
    decoded_ordinary (cardinal s) (unit_word_at k) e q l (s ++ abbreviation_at k) (words s k p h word)
    (decode_unit_lem (cardinal s) (unit_word_at k) e q l (listed_index_of (unit_word_at k) unit_words ∙ rw b (lt-ltb k (length unit_words) h)) ∙ rw (b, decode_plain s p))
