-- The words of a figure are decoded as the figure, from the right, one symbol with the digits after it at a time.
-- Assumes nothing.
use mathlib.Core.Path.{◌≡◌, refl, ap, ◌∙◌}
use mathlib.Core.Bool.{Bool, true, false, not, ◌&&◌, and-eq-true_iff}
use mathlib.Core.List.{List, [], ◌∷◌, ◌++◌, map, append-nil}
use Prim.Native.Nat.{ℕ, ◌<◌}
use Prim.Native.Char.{code}
use native.Mathlib.Omega.{arith}
use lib.Dec.{ltb, eqb}
use lib.ListN.{length, length-map}
use Rattle.lists.specs.Bytes.{bytes, all, same, Every, listed, any, starts_with}
use Rattle.lists.proofs.Every.{every_append, every_imply}
use Rattle.vocabulary.specs.Vocabulary.{ordinals}
use Rattle.vocabulary.proofs.Laws.{unfold_vocabulary}
use Rattle.units.specs.Units.{unit_abbreviations, unit_words, index_of}
use Rattle.shapes.specs.Shapes.{is_digits, is_leading_zero_digits}
use Rattle.shapes.proofs.Laws.{digits_some}
use Rattle.numerals.specs.Words.{Word, one, other, spell, consecutive_words, number_words}
use Rattle.numerals.specs.Cardinal.{digit_values, cardinal, digits}
use Rattle.rows.specs.Rows.{to}
use Rattle.clear.specs.Clear.{plain, table_words, Decimals, no_point, a_point, no_sign, plus_sign, minus_sign, Exponent, no_exponent, an_exponent}
use Rattle.decoder.specs.Decode.{parse_word_in, parse_word, digit_bytes, digit_of, symbol_byte, value_below_hundred, decode_digits, decode_after_symbol, decode_from_right, decode_figure}
use Rattle.decoder.proofs.DecimalDigits.{digit_bytes_digit_values, digit_values_length}
use Rattle.numerals.proofs.NumberWords.{NumberWord, number_word_test, cardinal_number_words, digits_number_words}
use Rattle.decoder.proofs.NumberWords.{number_word_parsed, digits_back, plain_some, decode_plain, decode_leading}
use Rattle.decoder.proofs.NotTime.{NotTime, cardinal_not_time, digits_not_time}
use Rattle.decoder.proofs.Real.{decimals_words, exponent_words}

-- ---- words that a figure may have

-- a last word with which `decode` goes on to times and figures
abbrev pub is_figure_end : List ℕ → Bool
is_figure_end w = not (same w (bytes "cent")) && not (same w (bytes "m")) && not (listed w unit_words) && not (listed w (map bytes ordinals))

-- the word is parsed from its spelling, and is such a last word
pub record FigureWord (w : Word) : Type 0 where
  pub parsed : parse_word (spell w) ≡ w
  pub ending : is_figure_end (spell w) ≡ true

-- unfolds what is needed to compute the tests of words
unfoldable pub unfold_decoder : Unit {0}
unfolding unfold_vocabulary spell number_words consecutive_words parse_word parse_word_in all index_of any unit_words unit_abbreviations table_words digit_of value_below_hundred symbol_byte
unfold_decoder = tt

-- a figure may have the words of numbers
pub number_word_figure : (w : Word) → NumberWord w → FigureWord w
unfolding unfold_decoder
number_word_figure w n =
    record {
      parsed = number_word_parsed w n;
      ending = number_word_test (λ v. is_figure_end (spell v)) refl w n;
    }

-- a word between digits, and its byte
pub record SymbolWord (w : Word) (c : ℕ) : Type 0 where
  pub figure : FigureWord w
  pub byte : symbol_byte w ≡ c
  pub some : eqb c 0 ≡ false
  pub large : ltb (value_below_hundred w) 100 ≡ false

-- the words between digits and their bytes
pub minus_is : SymbolWord (other (bytes "minus")) (code "-")
unfolding unfold_decoder
minus_is = record { figure = record { parsed = refl; ending = refl }; byte = refl; some = refl; large = refl }

plus_is : SymbolWord (other (bytes "plus")) (code "+")
unfolding unfold_decoder
plus_is = record { figure = record { parsed = refl; ending = refl }; byte = refl; some = refl; large = refl }

point_is : SymbolWord (other (bytes "point")) (code ".")
unfolding unfold_decoder
point_is = record { figure = record { parsed = refl; ending = refl }; byte = refl; some = refl; large = refl }

e_is : SymbolWord (other (bytes "e")) (code "e")
unfolding unfold_decoder
e_is = record { figure = record { parsed = refl; ending = refl }; byte = refl; some = refl; large = refl }

pub to_is : SymbolWord to (code "-")
unfolding unfold_decoder
to_is = record { figure = record { parsed = refl; ending = refl }; byte = refl; some = refl; large = refl }

-- ---- symbols, each with the digits after it

-- a text that is empty or starts with a symbol, and its words
pub data SymbolTail : List ℕ → List Word → Type 0 where
  no_tail : SymbolTail [] []
  symbol_part : (w : Word) (c : ℕ) (a : List Word) (d : List ℕ) {t : List ℕ} {r : List Word} → SymbolWord w c → Every NumberWord a → decode_after_symbol c a ≡ d
      → SymbolTail t r → SymbolTail (c ∷ (d ++ t)) (w ∷ (a ++ r))

number_words_pending : (a r : List Word) → Every NumberWord a
    → decode_from_right (a ++ r) ≡ record { pending = a ++ (decode_from_right r).pending; bytes = (decode_from_right r).bytes }
unfolding decode_from_right unfold_decoder
number_words_pending [] r h = refl
number_words_pending (w ∷ a) r h = rw (number_word_test (λ v. eqb (symbol_byte v) 0) refl w h.0, number_words_pending a r h.1)

tail_decoded : {t : List ℕ} {r : List Word} → SymbolTail t r → decode_from_right r ≡ record { pending = []; bytes = t }
unfolding decode_from_right
tail_decoded no_tail = refl
tail_decoded (symbol_part w c a d {t} {r} s n h k) = rw (s.byte, s.some, number_words_pending a r n, tail_decoded k, append-nil a, h)

-- words of digits with symbols after them are decoded as the digits and the symbols
pub front_decoded : (a : List Word) {t : List ℕ} {r : List Word} → Every NumberWord a → SymbolTail t r → decode_figure (a ++ r) ≡ decode_after_symbol 0 a ++ t
unfolding decode_figure
front_decoded a {t} {r} n k = rw (number_words_pending a r n, tail_decoded k, append-nil a)

-- a figure may have the words of symbols and their digits
pub tail_figure_words : {t : List ℕ} {r : List Word} → SymbolTail t r → Every FigureWord r
tail_figure_words no_tail = tt
tail_figure_words (symbol_part w c a d {t} {r} s n h k) =
    (s.figure, every_append FigureWord a r (every_imply NumberWord FigureWord number_word_figure a n) (tail_figure_words k))

-- ---- digits after a symbol

-- the words ws are those of a number, and are decoded as the digits s
pub record DigitsDecoded (s : List ℕ) (ws : List Word) : Type 0 where
  pub some : 0 < length ws
  pub numbers : Every NumberWord ws
  pub not_time : NotTime ws
  pub decoded : decode_digits ws ≡ s

-- plain digits are decoded from their cardinal number
pub plain_words : (s : List ℕ) → plain s ≡ true → DigitsDecoded s (cardinal s)
plain_words s h =
    let k = plain_some s h in
    record { some = rw k.2 (omega arith); numbers = cardinal_number_words s; not_time = cardinal_not_time s; decoded = decode_plain s h }

-- digits with a leading zero are decoded from their words, one by one
pub leading_words : (s : List ℕ) → is_leading_zero_digits s ≡ true → DigitsDecoded s (digits s)
unfolding digits
leading_words s h =
    let k = ((and-eq-true_iff (ltb 1 (length s) && starts_with (code "0") s) (is_digits s)).0 h).1 in
    record {
      some = omega (arith, length-map (digit_values s) one, digit_values_length s k, digits_some s k);
      numbers = digits_number_words s;
      not_time = digits_not_time s;
      decoded = decode_leading s h;
    }

digits_after : (c : ℕ) (ws : List Word) (s : List ℕ) → eqb c (code ".") ≡ false → 0 < length ws → decode_digits ws ≡ s
    → decode_after_symbol c ws ≡ s
unfolding decode_after_symbol
digits_after c [] s n z e = absurd (omega arith)
digits_after c (w ∷ ws) s n z e = rw n e

-- a symbol and digits may stand before other symbols
pub digits_part : {w : Word} {c : ℕ} → SymbolWord w c → eqb c (code ".") ≡ false → {x : List ℕ} {ws : List Word} → DigitsDecoded x ws
    → {t : List ℕ} {r : List Word} → SymbolTail t r → SymbolTail (c ∷ (x ++ t)) (w ∷ (ws ++ r))
digits_part {w} {c} s n {x} {ws} d k = symbol_part w c ws x s d.numbers (digits_after c ws x n d.some d.decoded) k

point_after : (s : List ℕ) → is_digits s ≡ true → decode_after_symbol (code ".") (digits s) ≡ s
unfolding decode_after_symbol digit_bytes digits
point_after s h = go (digits s) (ap digit_bytes (digits_back (digit_values s)) ∙ digit_bytes_digit_values s h)
  where
    go : (ws : List Word) → digit_bytes (map digit_of ws) ≡ s → decode_after_symbol (code ".") ws ≡ s
    go [] e = e
    go (w ∷ ws) e = e

-- ---- the symbols of a figure

exponent_tail : {x t : List ℕ} {r : List Word} (e : Exponent x) → SymbolTail t r → SymbolTail (x ++ t) (exponent_words e ++ r)
unfolding decode_after_symbol
exponent_tail no_exponent k = k
exponent_tail (an_exponent g x no_sign h) k = digits_part e_is refl (plain_words x h) k
exponent_tail (an_exponent g x plus_sign h) k = symbol_part (other (bytes "e")) (code "e") [] [] e_is tt refl (digits_part plus_is refl (plain_words x h) k)
exponent_tail (an_exponent g x minus_sign h) k = symbol_part (other (bytes "e")) (code "e") [] [] e_is tt refl (digits_part minus_is refl (plain_words x h) k)

decimals_tail : {f t : List ℕ} {r : List Word} (d : Decimals f) → SymbolTail t r → SymbolTail (f ++ t) (decimals_words d ++ r)
decimals_tail no_point k = k
decimals_tail (a_point f h) k = symbol_part (other (bytes "point")) (code ".") (digits f) f point_is (digits_number_words f) (point_after f h) k

-- decimals and an exponent, and the words that are decoded as them
pub figure_tail : {f x : List ℕ} (d : Decimals f) (e : Exponent x) → SymbolTail (f ++ x) (decimals_words d ++ exponent_words e)
figure_tail {f} {x} d e = rw (append-nil x, append-nil (exponent_words e)) at (decimals_tail d (exponent_tail e no_tail))
