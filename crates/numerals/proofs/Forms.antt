-- The words of `cardinal` are words of the vocabulary that have ordinal forms. Assumes nothing.
use mathlib.Core.Path.{◌≡◌, refl, ap, ◌∙◌}
use mathlib.Core.List.{List, [], ◌∷◌}
use Rattle.std.specs.Prelude.{Some}
use Prim.Native.Nat.{ℕ, ◌+◌, ◌-◌, ◌<◌}
use native.Mathlib.Omega.{arith}
use lib.Dec.{ltb}
use lib.ListN.{get_or}
use borrow.Author.Tests.{ltb-true, lt-ltb, le-leb}
use Rattle.lists.specs.Bytes.{bytes, all, Every}
use Rattle.lists.proofs.Every.{every_imply}
use Rattle.vocabulary.specs.Vocabulary.{word_of, cardinals, ordinals, ones_at, scales_at, ordinal_step}
use Rattle.vocabulary.proofs.Laws.{unfold_vocabulary}
use Rattle.numerals.specs.Words.{Word, one, hundred, spell, consecutive_words, number_words}
use Rattle.numerals.specs.Cardinal.{cardinal}
use Rattle.numerals.specs.Ordinal.{form_in, ordinal_form, or_zero}
use Rattle.numerals.specs.Walk.{number_of, ordinal_number}
use Rattle.numerals.proofs.NumberWords.{NumberWord, number_word_test, number_word_same, one_number_word, hundred_number_word, cardinal_number_words}

-- a word is spelled as the vocabulary has it at the word's number
pub spell_number : (w : Word) → NumberWord w → spell w ≡ word_of (number_of w)
unfolding number_words consecutive_words spell number_of unfold_vocabulary
spell_number = number_word_same spell (λ w. word_of (number_of w)) refl

-- no word of a number has the number 0, which is that of a unit's word
pub number_some : (w : Word) → NumberWord w → 0 < number_of w
unfolding number_words consecutive_words number_of all
number_some w n = ltb-true 0 (number_of w) (number_word_test (λ w. ltb 0 (number_of w)) refl w n)

-- what the code does to the number of the last word is what `ordinal` does to its spelling
pub form_number : (w : Word) → NumberWord w → ordinal_form (spell w) ≡ word_of (ordinal_number (Some (number_of w)))
unfolding number_words consecutive_words spell number_of unfold_vocabulary ordinal_form form_in ordinal_number
form_number = number_word_same (λ w. ordinal_form (spell w)) (λ w. word_of (ordinal_number (Some (number_of w)))) refl

-- the word of a digit, by its number
pub digit_number : (d : ℕ) → d < 10 → spell (one d) ≡ word_of (ones_at + d)
unfolding number_of
digit_number d h = spell_number (one d) (one_number_word d h)

-- the word "hundred", by its number
pub hundred_number : spell hundred ≡ word_of scales_at
unfolding number_of
hundred_number = spell_number hundred hundred_number_word

-- the ordinal form of a digit's word, by its number
pub digit_form : (d : ℕ) → d < 10 → ordinal_form (spell (one d)) ≡ word_of (ones_at + ordinal_step + d)
unfolding number_of ordinal_number
digit_form d h =
    let e : ones_at + d + ordinal_step ≡ ones_at + ordinal_step + d = omega arith in
    form_number (one d) (one_number_word d h)
    ∙ rw (le-leb ones_at (ones_at + d) (omega arith), lt-ltb (ones_at + d) (ones_at + ordinal_step) (omega arith)) (ap word_of e)

-- the word stands in `cardinals`, and its ordinal form at the same place in `ordinals`
pub record Listed (w : Word) : Type 0 where
  pub place : ℕ
  pub within : place < ordinal_step
  pub word : spell w ≡ bytes (get_or cardinals place "")
  pub form : ordinal_form (spell w) ≡ bytes (get_or ordinals place "")

place_of : Word → ℕ
place_of w = number_of w - ones_at

number_word_listed : (w : Word) → NumberWord w → Listed w
unfolding place_of number_words consecutive_words spell number_of unfold_vocabulary ordinal_form form_in all
number_word_listed w n =
    record {
      place = place_of w;
      within = ltb-true (place_of w) ordinal_step (number_word_test (λ w. ltb (place_of w) ordinal_step) refl w n);
      word = number_word_same spell (λ w. bytes (get_or cardinals (place_of w) "")) refl w n;
      form = number_word_same (λ w. ordinal_form (spell w)) (λ w. bytes (get_or ordinals (place_of w) "")) refl w n;
    }

-- each word of a number stands in `cardinals`, so `ordinal` never puts "th" at the end of a word
pub no_th : (s : List ℕ) → Every Listed (or_zero (cardinal s))
unfolding or_zero
no_th s = go (cardinal s) (cardinal_number_words s)
  where
    go : (ws : List Word) → Every NumberWord ws → Every Listed (or_zero ws)
    go [] h = (number_word_listed (one 0) (one_number_word 0 (omega arith)), tt)
    go (w ∷ ws) h = every_imply NumberWord Listed number_word_listed (w ∷ ws) h
