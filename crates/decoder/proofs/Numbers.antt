-- Numbers, also with a percent sign, and ranges are decoded. Assumes nothing.
use mathlib.Core.Path.{◌≡◌, refl, ap, ◌∙◌}
use mathlib.Core.Bool.{Bool, true, false, not, ◌&&◌, ◌||◌, and-eq-true_iff}
use mathlib.Core.List.{List, [], ◌∷◌, ◌++◌, map, append-nil}
use Prim.Native.Nat.{ℕ, ◌-◌, ◌<◌}
use Prim.Native.Char.{code}
use native.Mathlib.Omega.{arith}
use lib.Dec.{ltb}
use lib.ListN.{length, length-append, length-map, get_or-append}
use lib.Seq.{append_snoc}
use borrow.Author.Tests.{not-true, not-false}
use Rattle.lists.specs.Bytes.{bytes, all, same, same_by, Every, listed}
use Rattle.lists.proofs.Every.{every_append, every_map, every_imply, every_at}
use Rattle.vocabulary.specs.Vocabulary.{ordinals}
use Rattle.units.specs.Units.{unit_words}
use Rattle.shapes.specs.Shapes.{is_digits, is_leading_zero_digits}
use Rattle.numerals.specs.Words.{Word, other, spell, spelled}
use Rattle.numerals.specs.Cardinal.{cardinal}
use Rattle.numerals.proofs.Digits.{spelled_append}
use Rattle.rows.specs.Rows.{read_with, per_cent, to}
use Rattle.rows.proofs.Percent.{percent_with}
use Rattle.rows.proofs.Ranges.{range_row}
use Rattle.clear.proofs.Cuts.{cut_front, snoc_ends_with}
use Rattle.clear.specs.Clear.{plain, table_words, OptionalMinus, no_minus, a_minus, Decimals, Exponent, Number, number_digits, number_figure}
use Rattle.decoder.specs.Decode.{parse_word, parse_words, first_word, last_word, value_below_hundred, time_like, decode_after_symbol, decode_figure, is_letter_word, is_one_word_name, decode, is_below_hundred}
use Rattle.decoder.proofs.Decoded.{DecodedWith}
use Rattle.numerals.proofs.NumberWords.{NumberWord, number_word_test}
use Rattle.decoder.proofs.NumberWords.{every_parsed, plain_some}
use Rattle.decoder.proofs.Dispatch.{last_word_lem, but_last_lem, not_one_word, number_word_no_letter, decoded}
use Rattle.decoder.proofs.Real.{minus_words}
use Rattle.decoder.proofs.FigureWords.{FigureWord, is_figure_end, unfold_decoder, number_word_figure, minus_is, to_is, SymbolTail, no_tail}
use Rattle.decoder.proofs.FigureWords.{symbol_part, front_decoded, tail_figure_words, DigitsDecoded, plain_words, leading_words, digits_part, figure_tail}
use Rattle.decoder.proofs.FigureRows.{figure_read, plain_read, leading_read}
use Rattle.decoder.proofs.NotTime.{NotTime, large_not_time}

-- ---- what holds of the words of a number

-- the words ws are decoded as the number s
record NumberDecoded (s : List ℕ) (ws : List Word) : Type 0 where
  pub some : 0 < length ws
  pub figure : Every FigureWord ws
  pub first : is_letter_word (first_word (spelled ws)) ≡ false
  pub not_one_word : is_one_word_name (spelled ws) ≡ false
  pub not_time_like : time_like ws ≡ false
  pub decoded : decode_figure ws ≡ s

-- words of numbers with symbols after them are not those of a time
tail_not_time : (a : List Word) {t : List ℕ} {r : List Word} → 0 < length a → NotTime a → SymbolTail t r → NotTime (a ++ r)
tail_not_time a z h no_tail = rw (append-nil a) h
tail_not_time a z h (symbol_part w c b d {t} {r} s n e k) = large_not_time a w (b ++ r) s.large (omega arith)

-- a number's word below a hundred is in the tables
below_hundred_listed : (w : Word) → NumberWord w → (not (ltb (value_below_hundred w) 100) || listed (spell w) table_words) ≡ true
unfolding unfold_decoder
below_hundred_listed = number_word_test (λ w. not (ltb (value_below_hundred w) 100) || listed (spell w) table_words) refl

not_time_not_one_word : (w : Word) (v : List Word) → NumberWord w → NotTime (w ∷ v) → is_one_word_name (spelled (w ∷ v)) ≡ false
unfolding spelled all
not_time_not_one_word w [] n o =
    let h : ltb (value_below_hundred w) 100 ≡ true = ((and-eq-true_iff (ltb (value_below_hundred w) 100) true).0 (not-false (all is_below_hundred (w ∷ [])) o.alone)).0 in
    let k : listed (spell w) table_words ≡ true = rw h at (below_hundred_listed w n) in
    rw k
not_time_not_one_word w (x ∷ v) n o = not_one_word (spelled (w ∷ x ∷ v)) (omega arith)

-- words of numbers with symbols after them are decoded
front_number : {s : List ℕ} (a : List Word) → DigitsDecoded s a → {t : List ℕ} {r : List Word} → SymbolTail t r → NumberDecoded (s ++ t) (a ++ r)
unfolding spelled decode_after_symbol
front_number [] d k = absurd (omega (arith, d.some))
front_number (w ∷ a) d {t} {r} k =
    let n = d.numbers in
    let o = tail_not_time (w ∷ a) (omega arith) d.not_time k in
    record {
      some = omega arith;
      figure = every_append FigureWord (w ∷ a) r (every_imply NumberWord FigureWord number_word_figure (w ∷ a) n) (tail_figure_words k);
      first = number_word_no_letter w n.0;
      not_one_word = not_time_not_one_word w (a ++ r) n.0 o;
      not_time_like = o.not_time_like;
      decoded = front_decoded (w ∷ a) n k ∙ ap (λ (x : List ℕ). x ++ t) d.decoded;
    }

-- plain digits with or without a minus before them, and with symbols after them
plain_number : {m : List ℕ} (p : OptionalMinus m) (a : List ℕ) → plain a ≡ true → {t : List ℕ} {r : List Word} → SymbolTail t r
    → NumberDecoded (m ++ (a ++ t)) (minus_words p ++ (cardinal a ++ r))
unfolding spelled spell decode_after_symbol same_by
plain_number p a h {t} {r} k = let e = plain_some a h in go p (rw e.2 (omega arith))
  where
    go : {m : List ℕ} (p : OptionalMinus m) → 0 < length (cardinal a) → NumberDecoded (m ++ (a ++ t)) (minus_words p ++ (cardinal a ++ r))
    go no_minus z = front_number (cardinal a) (plain_words a h) k
    go a_minus z =
        let w = other (bytes "minus") in
        let l = length-append (cardinal a) r in
        let j : SymbolTail (code "-" ∷ (a ++ t)) (w ∷ (cardinal a ++ r)) = digits_part minus_is refl (plain_words a h) k in
        record {
          some = omega arith;
          figure = tail_figure_words j;
          first = refl;
          not_one_word = not_one_word (spelled (w ∷ (cardinal a ++ r))) (omega (arith, length-map (cardinal a ++ r) spell));
          not_time_like = (large_not_time [] w (cardinal a ++ r) minus_is.large (omega arith)).not_time_like;
          decoded = front_decoded [] tt j;
        }

-- digits are decoded, with or without a leading zero
digits_words : (word : List ℕ → List ℕ) (s : List ℕ) → is_digits s ≡ true → DigitsDecoded s (read_with word s).words
digits_words word s h = go (is_leading_zero_digits s) refl
  where
    go : (b : Bool) → is_leading_zero_digits s ≡ b → DigitsDecoded s (read_with word s).words
    go true e = rw (leading_read word s e) (leading_words s e)
    go false e = let k : plain s ≡ true = rw (e, h) in rw (plain_read word s k) (plain_words s k)

figure_number_decoded : (word : List ℕ → List ℕ) {m f x : List ℕ} → OptionalMinus m → (a : List ℕ) → plain a ≡ true → Decimals f → Exponent x
    → NumberDecoded (m ++ (a ++ (f ++ x))) (read_with word (m ++ (a ++ (f ++ x)))).words
figure_number_decoded word p a h t e = rw (figure_read word p a h t e) (plain_number p a h (figure_tail t e))

number_words_decoded : (word : List ℕ → List ℕ) (s : List ℕ) → Number s → NumberDecoded s (read_with word s).words
number_words_decoded word n (number_figure m a f x p h t e) = figure_number_decoded word p a h t e
number_words_decoded word n (number_digits s h) =
    let ws = (read_with word s).words in
    rw (append-nil s, append-nil ws) at (front_number ws (digits_words word s h) no_tail)

-- a range is read as the words of its parts
range_words_decoded : (word : List ℕ → List ℕ) (a b : List ℕ) → is_digits a ≡ true → is_digits b ≡ true
    → NumberDecoded (a ++ (bytes "-" ++ b)) ((read_with word a).words ++ to ∷ (read_with word b).words)
range_words_decoded word a b p q =
    let ws = (read_with word a).words in
    let vs = (read_with word b).words in
    rw (append-nil b, append-nil vs) at (front_number ws (digits_words word a p) (digits_part to_is refl (digits_words word b q) no_tail))

-- ---- how `decode` decodes these words

module _ {s : List ℕ} {ws : List Word} (o : NumberDecoded s ws) where
  figure_words_parsed : parse_words (spelled ws) ≡ ws
  figure_words_parsed = every_parsed ws (every_imply FigureWord (λ w. parse_word (spell w) ≡ w) (λ w f. f.parsed) ws o.figure)

  figure_word_last : is_figure_end (last_word (spelled ws)) ≡ true
  unfolding spelled
  figure_word_last =
      let l = length-map ws spell in
      every_at (λ w. is_figure_end w ≡ true) (spelled ws) (length (spelled ws) - 1) [] (omega (arith, o.some))
      (every_map FigureWord (λ w. is_figure_end w ≡ true) spell (λ w f. f.ending) ws o.figure)

  decode_number : decode (spelled ws) ≡ s
  unfolding decode
  decode_number =
      let w = last_word (spelled ws) in
      let c = not (same w (bytes "cent")) in
      let m = not (same w (bytes "m")) in
      let u = not (listed w unit_words) in
      let n = not (listed w (map bytes ordinals)) in
      let a = ((and-eq-true_iff (c && m && u) n).0 figure_word_last).0 in
      let b = ((and-eq-true_iff (c && m) u).0 a).0 in
      rw (
        o.not_one_word,
        o.first,
        not-true (same w (bytes "cent")) ((and-eq-true_iff c m).0 b).0,
        not-true (same w (bytes "m")) ((and-eq-true_iff c m).0 b).1,
        not-true (listed w unit_words) ((and-eq-true_iff (c && m) u).0 a).1,
        not-true (listed w (map bytes ordinals)) ((and-eq-true_iff (c && m && u) n).0 figure_word_last).1,
        figure_words_parsed,
        o.not_time_like,
      )
      o.decoded

  -- the words with "per" and "cent" after them
  said_percent : spelled (ws ++ per_cent) ≡ spelled ws ++ bytes "per" ∷ bytes "cent" ∷ []
  unfolding spelled spell
  said_percent = spelled_append ws per_cent

  decode_percent : decode (spelled (ws ++ per_cent)) ≡ s ++ bytes "%"
  unfolding decode spelled same_by
  decode_percent =
      let v = bytes "per" ∷ bytes "cent" ∷ [] in
      let n = length-append (spelled ws) v in
      let m = length-map ws spell in
      let f : first_word (spelled ws ++ v) ≡ first_word (spelled ws) = get_or-append (spelled ws) v [] 0 (omega (arith, o.some)) in
      let l : last_word (spelled ws ++ v) ≡ bytes "cent" =
      rw (← append_snoc (spelled ws) (bytes "per") (bytes "cent" ∷ [])) (last_word_lem (spelled ws ++ bytes "per" ∷ []) (bytes "cent")) in
      rw (said_percent, not_one_word (spelled ws ++ v) (omega (arith, o.some)), f, o.first, l, but_last_lem (spelled ws) v, figure_words_parsed, o.decoded)

-- a number is decoded
pub number_decoded : {word : List ℕ → List ℕ} (s : List ℕ) → Number s → DecodedWith word s
number_decoded {word} s n = record { decoded = decode_number (number_words_decoded word s n) }

-- so is a range
pub range_decoded : {word : List ℕ → List ℕ} (a b : List ℕ) → is_digits a ≡ true → is_digits b ≡ true
    → DecodedWith word (a ++ (bytes "-" ++ b))
range_decoded {word} a b p q =
    decoded (a ++ (bytes "-" ++ b)) ((read_with word a).words ++ to ∷ (read_with word b).words) (ap (λ r. r.words) (range_row word a b p q))
    (decode_number (range_words_decoded word a b p q))

percent_words : (word : List ℕ → List ℕ) (s : List ℕ) → (read_with word (s ++ bytes "%")).words ≡ (read_with word s).words ++ per_cent
percent_words word s = rw (percent_with word (s ++ bytes "%") (snoc_ends_with (code "%") s), cut_front s (bytes "%") 1 refl)

-- so is a number with one %
pub percent_decoded : {word : List ℕ → List ℕ} (s : List ℕ) → Number s → DecodedWith word (s ++ bytes "%")
percent_decoded {word} s n =
    decoded (s ++ bytes "%") ((read_with word s).words ++ per_cent) (percent_words word s) (decode_percent (number_words_decoded word s n))
