-- Plain digits with their ordinal suffix are decoded. Assumes nothing.
use mathlib.Core.Path.{◌≡◌, refl, sym, ap, ◌∙◌}
use mathlib.Core.Bool.{Bool, true, false, not, ◌||◌}
use mathlib.Core.Logic.{⊎_elim}
use mathlib.Core.List.{List, [], ◌∷◌, ◌++◌, map}
use Prim.Native.Nat.{ℕ, suc, ◌-◌, ◌≤◌, ◌<◌}
use native.Mathlib.Omega.{arith}
use lib.Dec.{eqb}
use lib.ListN.{length, take, get_or, length-append}
use lib.Seq.{take_at, drop_at, take-suc, take-length}
use borrow.Author.Tests.{le-leb, eqb-true, not-true}
use Rattle.lists.specs.Bytes.{bytes, all, same, same_by, Every, listed, any}
use Rattle.lists.specs.Classes.{digit, letter, digit_or_comma}
use Rattle.lists.proofs.Scan.{all_within, all_at}
use Rattle.lists.proofs.Sets.{le_or_lt}
use Rattle.lists.proofs.Table.{same_true}
use Rattle.lists.proofs.Every.{every_take, every_last}
use Rattle.vocabulary.specs.Vocabulary.{ordinals}
use Rattle.vocabulary.proofs.Laws.{unfold_vocabulary}
use Rattle.shapes.specs.Shapes.{starts_char, is_ordinal, is_ordinal_suffix}
use Rattle.shapes.proofs.Laws.{digits_all, digits_some}
use Rattle.units.specs.Units.{unit_abbreviations, unit_words, index_of}
use Rattle.numerals.specs.Words.{Word, one, hundred, other, spell, spelled, consecutive_words, number_words}
use Rattle.numerals.specs.Cardinal.{digit_values, cardinal}
use Rattle.numerals.specs.Ordinal.{form_in, ordinal_form, ordinal}
use Rattle.numerals.specs.Value.{value_from, words_value}
use Rattle.numerals.proofs.Digits.{digit_values_commas, spelled_append}
use Rattle.numerals.proofs.Flushing.{on_last_snoc}
use Rattle.rows.specs.Rows.{read_with}
use Rattle.clear.specs.Clear.{plain, suffix, table_words}
use Rattle.decoder.specs.Decode.{is_one_word_name, cardinal_word}
use Rattle.decoder.proofs.Decoded.{DecodedWith}
use Rattle.rows.proofs.Taken.{double_byte}
use Rattle.clear.proofs.Figures.{plain_digits}
use Rattle.clear.proofs.Suffixes.{suffix_elim, suffix_two}
use Rattle.numerals.proofs.NumberWords.{NumberWord, number_word_test, cardinal_number_words}
use Rattle.decoder.proofs.NumberWords.{plain_some, zero_named, long_length, decode_plain}
use Rattle.decoder.proofs.Suffixed.{read_ordinal}
use Rattle.decoder.proofs.Dispatch.{is_ordinary_end, not_one_word, number_words_parsed, decode_ordinal_lem, decoded_ordinary}

-- ---- the name

module _ (s : List ℕ) (p : plain s ≡ true) where
  abbrev u : List ℕ
  u = suffix s

  abbrev name : List ℕ
  name = s ++ u

  digits_s : all digit s ≡ true
  digits_s = digits_all s (plain_digits s p)

  before_suffix : length name - 2 ≡ length s
  before_suffix = omega (arith, length-append s u, suffix_two s)

  ordinal_name : is_ordinal name ≡ true
  unfolding is_ordinal same_by
  ordinal_name =
      let z = digits_some s (plain_digits s p) in
      rw (
        before_suffix,
        take_at s u (length s) refl,
        drop_at s u (length s) refl,
        suffix_elim (λ u. starts_char (get_or u 0 0) ≡ true) refl refl refl refl s,
        suffix_elim (λ u. is_ordinal_suffix u ≡ true) refl refl refl refl s,
        all_at digit 0 s 0 digits_s z,
        all_within digit digit_or_comma (λ b d. rw d) s digits_s,
        le-leb 3 (length name) (omega (arith, before_suffix)),
      )

  words : (word : List ℕ → List ℕ) → (read_with word name).words ≡ ordinal s
  unfolding all
  words word =
      read_ordinal s u (plain_digits s p) (suffix_elim (λ u. all letter u ≡ true) refl refl refl refl s)
      (suffix_elim (λ u. all double_byte u ≡ false) refl refl refl refl s) word ordinal_name
      ∙ rw (before_suffix, take_at s u (length s) refl)

-- ---- the forms

abbrev form_of : Word → List ℕ
form_of w = ordinal_form (spell w)

module _ (w : Word) (n : NumberWord w) where
  form_ordinary_end : is_ordinary_end (form_of w) ≡ true
  unfolding number_words consecutive_words spell unfold_vocabulary ordinal_form form_in all
  form_ordinary_end = number_word_test (λ w. is_ordinary_end (form_of w)) refl w n

  form_no_unit : listed (form_of w) unit_words ≡ false
  unfolding number_words consecutive_words spell unfold_vocabulary ordinal_form form_in index_of any unit_words unit_abbreviations all
  form_no_unit = not-true (listed (form_of w) unit_words) (number_word_test (λ w. not (listed (form_of w) unit_words)) refl w n)

  form_listed : listed (form_of w) (map bytes ordinals) ≡ true
  unfolding number_words consecutive_words spell unfold_vocabulary ordinal_form form_in index_of any all
  form_listed = number_word_test (λ w. listed (form_of w) (map bytes ordinals)) refl w n

  -- "ten" is spelled in two tables, and so is its form
  form_back : cardinal_word (form_of w) ≡ spell w
  unfolding number_words consecutive_words spell unfold_vocabulary ordinal_form form_in index_of any all
  form_back = same_true (cardinal_word (form_of w)) (spell w) (number_word_test (λ w. same (cardinal_word (form_of w)) (spell w)) refl w n)

  -- a word's form is in the tables, unless the word alone has the value 0; "hundred" and the scales alone have the value 0
  form_in_table : (eqb (words_value (w ∷ [])) 0 || listed (form_of w) table_words) ≡ true
  unfolding number_words consecutive_words spell unfold_vocabulary ordinal_form form_in index_of any table_words words_value value_from all
  form_in_table = number_word_test (λ w. eqb (words_value (w ∷ [])) 0 || listed (form_of w) table_words) refl w n

zeroth_in_table : listed (form_of (one 0)) table_words ≡ true
unfolding spell unfold_vocabulary ordinal_form form_in index_of any table_words
zeroth_in_table = refl

-- ---- the words

module _ (s : List ℕ) (p : plain s ≡ true) where
  -- a number of one word has its form in the tables
  one_word_form : (w : Word) → NumberWord w → cardinal s ≡ w ∷ [] → listed (form_of w) table_words ≡ true
  one_word_form w n e = go (eqb (words_value (w ∷ [])) 0) refl (form_in_table w n)
    where
      short : length (digit_values s) ≤ 12
      short =
          ⊎_elim (λ (l : length (digit_values s) ≤ 12). l) (λ (l : 12 < length (digit_values s)). absurd (omega (arith, long_length s l, ap length e)))
          (le_or_lt (length (digit_values s)) 12)

      go : (b : Bool) → eqb (words_value (w ∷ [])) 0 ≡ b → (b || listed (form_of w) table_words) ≡ true → listed (form_of w) table_words ≡ true
      go true z h =
          let f : w ∷ [] ≡ one 0 ∷ [] = sym e ∙ zero_named s p short (ap words_value e ∙ eqb-true (words_value (w ∷ [])) 0 z) in
          let g : w ≡ one 0 = cc in
          rw g zeroth_in_table
      go false z h = h

  not_one_word_form : (a : List Word) (w : Word) → NumberWord w → cardinal s ≡ a ++ w ∷ [] → is_one_word_name (spelled a ++ form_of w ∷ []) ≡ false
  unfolding spelled
  not_one_word_form [] w n e = rw (one_word_form w n e)
  not_one_word_form (v ∷ a) w n e = not_one_word (spell v ∷ (map spell a ++ form_of w ∷ [])) (omega (arith, length-append (map spell a) (form_of w ∷ [])))

  ordinal_words : (a : List Word) (w : Word) → cardinal s ≡ a ++ w ∷ [] → ordinal s ≡ a ++ other (form_of w) ∷ []
  unfolding ordinal cardinal
  ordinal_words a w e = rw (digit_values_commas s, e) (on_last_snoc a w)

  by_last : {word : List ℕ → List ℕ} (a : List Word) (w : Word) → cardinal s ≡ a ++ w ∷ [] → Every NumberWord a → NumberWord w → DecodedWith word (s ++ suffix s)
  unfolding spelled
  by_last {word} a w e es n =
      let q = form_ordinary_end w n in
      let l = not_one_word_form a w n e in
      let k : spelled (cardinal s) ≡ spelled a ++ spell w ∷ [] = ap spelled e ∙ spelled_append a (w ∷ []) in
      decoded_ordinary a (form_of w) es q l (s ++ suffix s) (words s p word ∙ ordinal_words a w e)
      (decode_ordinal_lem a (form_of w) es q l (form_no_unit w n) (form_listed w n)
      ∙ rw (form_back w n, ← k, number_words_parsed (cardinal s) (cardinal_number_words s), decode_plain s p))

-- plain digits with their suffix are decoded
pub ordinal_decoded : {word : List ℕ → List ℕ} (s : List ℕ) → plain s ≡ true → DecodedWith word (s ++ suffix s)
ordinal_decoded s p =
    let c = cardinal s in
    let j = length c - 1 in
    let z : suc j ≡ length c = omega (arith, ap length (plain_some s p).2) in
    let e : c ≡ take j c ++ get_or c j hundred ∷ [] = sym (take-length c) ∙ rw z at (take-suc c j hundred (omega arith)) in
    let n = cardinal_number_words s in
    by_last s p (take j c) (get_or c j hundred) e (every_take NumberWord j c n) (every_last NumberWord (take j c) (get_or c j hundred) (rw e at n))
