-- If a name has no space and no LF, none of its words has one, whatever row reads it. Assumes nothing.
use mathlib.Core.Path.{◌≡◌, refl, sym, ap, ◌∙◌}
use mathlib.Core.Bool.{Bool, true, false, cond, not, ◌&&◌, and-eq-true_iff}
use mathlib.Core.Logic.{⊎_elim}
use mathlib.Core.List.{List, [], ◌∷◌, ◌++◌, map, flatten}
use Prim.Native.Nat.{ℕ, ◌+◌, ◌-◌, ◌%◌, ◌≤◌, ◌<◌}
use Prim.Native.Char.{code}
use native.Mathlib.Omega.{arith}
use lib.Dec.{leb, ltb, eqb}
use lib.ListN.{length, take, drop, get_or, length-take, length-drop, get_or-eq_default}
use borrow.Author.Tests.{leb-true, ltb-true, ne_eqb}
use Rattle.lists.specs.Bytes.{bytes, all, filter_if, same, span, uppercase, to_lower, starts_with, ends_with, Every}
use Rattle.lists.specs.Classes.{except}
use Rattle.lists.proofs.Every.{every_append, every_map, every_imply}
use Rattle.lists.proofs.Recursion.{recur_induct, cond_elim}
use Rattle.lists.proofs.Scan.{all_append, all_split}
use Rattle.lists.proofs.Sets.{le_or_lt}
use Rattle.lists.proofs.Table.{below}
use Rattle.vocabulary.proofs.Laws.{unfold_vocabulary}
use Rattle.units.specs.Units.{unit_abbreviations, unit_words, unit_index, unit_word}
use Rattle.shapes.specs.Shapes.{is_dotted_abbrev, is_comma_int, is_time, is_range, is_digits_slash_digits, is_leading_zero_digits, is_digits, is_double, is_ordinal, unit_at, has_unit, unit_part}
use Rattle.shapes.specs.Times.{TimeParts, is_meridiem_time, time_parts}
use Rattle.numerals.specs.Words.{Word, one, hundred, other, spell, spelled, consecutive_words, number_words}
use Rattle.numerals.specs.Cardinal.{digit_values, short_cardinal, cardinal_of, cardinal, digits}
use Rattle.numerals.specs.Ordinal.{form_in, ordinal_form, or_zero, on_last, ordinal}
use Rattle.numerals.proofs.Cardinal.{cardinal_of_elim}
use Rattle.numerals.proofs.NumberWords.{NumberWord, number_word_test, digit_values_below_ten, one_number_word, hundred_number_word, short_number_words, digits_number_words, cardinal_number_words}
use Rattle.numerals.specs.Walk.{BelowTen}
use Rattle.years.specs.Year.{zero_at, year_step, year_of, year}
use Rattle.reals.specs.Real.{point_at, e_at, pointed, real_step, real}
use Rattle.letters.specs.Letters.{chars, letter_word, letters}
use Rattle.letters.proofs.LetterLaws.{chars_join}
use Rattle.fractions.specs.Fraction.{fraction}
use Rattle.fractions.proofs.Read.{fraction_elim}
use Rattle.rows.specs.Rows.{no_reading, Reading, per_cent, clock, full_hour, hour_of, minute_of, before, after, to, clock_letters, read_step, read_with}
use Rattle.rows.proofs.Laws.{ends_some, shorter, parts_fit}
use Rattle.decoder.proofs.Decoded.{separator_free}

abbrev SeparatorFree : List ℕ → Type 0
SeparatorFree s = separator_free s ≡ true

abbrev SeparatorFreeWord : Word → Type 0
SeparatorFreeWord w = SeparatorFree (spell w)

-- ---- words of the tables

unit_separator_free : ℕ → Bool
unit_separator_free k = separator_free (get_or unit_words k [])

-- no unit's word has a space or an LF
unit_separator_free_lem : (u : List ℕ) → SeparatorFree (unit_word u)
unfolding unit_separator_free unit_words unit_abbreviations all
unit_separator_free_lem u =
    ⊎_elim (λ (h : 22 ≤ unit_index u). rw (get_or-eq_default unit_words [] h)) (λ (h : unit_index u < 22). below unit_separator_free 22 refl (unit_index u) h)
    (le_or_lt 22 (unit_index u))

-- nor has a word that numbers are read with
number_word_separator_free : (w : Word) → NumberWord w → SeparatorFreeWord w
unfolding number_words consecutive_words spell unfold_vocabulary all
number_word_separator_free = number_word_test (λ w. separator_free (spell w)) refl

-- nor has its ordinal form
form_separator_free : (w : Word) → NumberWord w → SeparatorFree (ordinal_form (spell w))
unfolding number_words consecutive_words spell unfold_vocabulary ordinal_form form_in all
form_separator_free = number_word_test (λ w. separator_free (ordinal_form (spell w))) refl

-- ---- numbers

number_words_separator_free : (ws : List Word) → Every NumberWord ws → Every SeparatorFreeWord ws
number_words_separator_free = every_imply NumberWord SeparatorFreeWord number_word_separator_free

cardinal_separator_free : (s : List ℕ) → Every SeparatorFreeWord (cardinal s)
cardinal_separator_free s = number_words_separator_free (cardinal s) (cardinal_number_words s)

digits_separator_free : (s : List ℕ) → Every SeparatorFreeWord (digits s)
digits_separator_free s = number_words_separator_free (digits s) (digits_number_words s)

one_separator_free : (d : ℕ) → d < 10 → SeparatorFreeWord (one d)
one_separator_free d h = number_word_separator_free (one d) (one_number_word d h)

ones_separator_free : (s : List ℕ) → BelowTen s → Every SeparatorFreeWord (map one s)
ones_separator_free = every_map (λ d. d < 10) SeparatorFreeWord one one_separator_free

cardinal_of_separator_free : (s : List ℕ) → BelowTen s → Every SeparatorFreeWord (cardinal_of s)
cardinal_of_separator_free s d = cardinal_of_elim (Every SeparatorFreeWord) s
    (λ l. number_words_separator_free (short_cardinal s) (short_number_words s d)) (ones_separator_free s d)

last_separator_free : (ws : List Word) → Every NumberWord ws → Every SeparatorFreeWord (on_last ws)
unfolding on_last spell
last_separator_free [] h = tt
last_separator_free (w ∷ []) h = (form_separator_free w h.0, tt)
last_separator_free (w ∷ v ∷ ws) h = (number_word_separator_free w h.0, last_separator_free (v ∷ ws) h.1)

ordinal_separator_free : (s : List ℕ) → Every SeparatorFreeWord (ordinal s)
unfolding ordinal or_zero
ordinal_separator_free s = let t = filter_if (except (code ",")) s in go (cardinal t) (cardinal_number_words t)
  where
    go : (ws : List Word) → Every NumberWord ws → Every SeparatorFreeWord (on_last (or_zero ws))
    go [] h = last_separator_free (one 0 ∷ []) (one_number_word 0 (omega arith), tt)
    go (w ∷ ws) h = last_separator_free (w ∷ ws) h

year_step_separator_free : (f : List ℕ → List Word) (s : List ℕ) → ((t : List ℕ) → length t < length s → BelowTen t → Every SeparatorFreeWord (f t)) → BelowTen s
    → Every SeparatorFreeWord (year_step f s)
unfolding year_step spell all
year_step_separator_free f [] h d = cardinal_of_separator_free [] d
year_step_separator_free f (a ∷ []) h d = cardinal_of_separator_free (a ∷ []) d
year_step_separator_free f (a ∷ b ∷ s) h d =
    let t = a ∷ b ∷ s in
    let n = length t in
    let P = Every SeparatorFreeWord in
    let all = cardinal_of_separator_free t d in
    let first = one_separator_free a d.0 in
    let zero = one_separator_free 0 (omega arith) in
    let hundreds = number_word_separator_free hundred hundred_number_word in
    let two = cardinal_of (a ∷ b ∷ []) in
    let pair = cardinal_of_separator_free (a ∷ b ∷ []) (d.0, (d.1.0, tt)) in
    cond_elim P (eqb n 4 && (zero_at t 2 && zero_at t 3))
    (λ e. cond_elim P (zero_at t 1) (λ e. all) (λ e. every_append SeparatorFreeWord two (hundred ∷ []) pair (hundreds, tt))) (λ e.
    cond_elim P (eqb n 3 && (not (zero_at t 0) && (zero_at t 1 && zero_at t 2))) (λ e. (first, (hundreds, tt))) (λ e.
    cond_elim P (eqb n 2 && (zero_at t 0 && zero_at t 1)) (λ e. (zero, (zero, tt))) (λ e.
    cond_elim P (eqb n 2 && zero_at t 0) (λ e. (refl, ones_separator_free (b ∷ s) d.1)) (λ e.
    cond_elim P (eqb n 4 && (zero_at t 1 && zero_at t 2)) (λ e. all) (λ e.
    cond_elim P (leb n 2) (λ e. all) (λ e.
    cond_elim P (eqb (n % 2) 1) (λ e. (first, h (b ∷ s) (omega arith) d.1)) (λ e.
    every_append SeparatorFreeWord two (f s) pair (h s (omega arith) d.1.1))))))))

year_separator_free : (s : List ℕ) → Every SeparatorFreeWord (year s)
unfolding year year_of
year_separator_free s = recur_induct (λ s ws. BelowTen s → Every SeparatorFreeWord ws) [] year_step year_step_separator_free (digit_values s) (digit_values_below_ten s)

pointed_separator_free : (s : List ℕ) → Every SeparatorFreeWord (pointed s)
unfolding pointed spell all
pointed_separator_free s =
    cond_elim (Every SeparatorFreeWord) (ltb (point_at s) (length s))
    (λ e. every_append SeparatorFreeWord (cardinal (take (point_at s) s)) _ (cardinal_separator_free (take (point_at s) s))
    (refl, digits_separator_free (drop (point_at s + 1) s)))
    (λ e. cardinal_separator_free s)

real_step_separator_free : (f : List ℕ → List Word) (s : List ℕ) → ((t : List ℕ) → length t < length s → Every SeparatorFreeWord (f t))
    → Every SeparatorFreeWord (real_step f s)
unfolding real_step spell all span
real_step_separator_free f [] h = pointed_separator_free []
real_step_separator_free f (b ∷ s) h =
    let t = b ∷ s in
    let P = Every SeparatorFreeWord in
    let rest = h s (omega arith) in
    cond_elim P (starts_with (code "-") t) (λ e. (refl, rest)) (λ e.
    cond_elim P (starts_with (code "+") t) (λ e. (refl, rest)) (λ e.
    cond_elim P (ltb (e_at t) (length t)) (λ e.
    let l = ltb-true (e_at t) (length t) e in
    every_append SeparatorFreeWord (f (take (e_at t) t)) _ (h (take (e_at t) t) (omega (arith, length-take (e_at t) t)))
    (refl, h (drop (e_at t + 1) t) (omega (arith, length-drop (e_at t + 1) t)))) (λ e. pointed_separator_free t)))

real_separator_free : (s : List ℕ) → Every SeparatorFreeWord (real s)
unfolding real
real_separator_free = recur_induct (λ s ws. Every SeparatorFreeWord ws) [] real_step real_step_separator_free

-- ---- words made of the name's own bytes

-- a name without space and LF has none after lowering
pub lower_separator_free : (s : List ℕ) → SeparatorFree s → SeparatorFree (map to_lower s)
unfolding all
lower_separator_free [] h = refl
lower_separator_free (b ∷ s) h =
    let k = (and-eq-true_iff (not (eqb b 32) && not (eqb b 10)) (separator_free s)).0 h in
    rw (lower_separator_free s k.1) (go (uppercase b) refl k.0)
  where
    go : (t : Bool) → uppercase b ≡ t → (not (eqb b 32) && not (eqb b 10)) ≡ true
        → ((not (eqb (cond t (b + 32) b) 32) && not (eqb (cond t (b + 32) b) 10)) && true) ≡ true
    go true e h =
        let l = leb-true 65 b ((and-eq-true_iff (leb 65 b) (leb b 90)).0 e).0 in
        rw (ne_eqb (b + 32) 32 (λ z. omega arith), ne_eqb (b + 32) 10 (λ z. omega arith))
    go false e h = rw h

filter_if_separator_free : (p : ℕ → Bool) (s : List ℕ) → SeparatorFree s → SeparatorFree (filter_if p s)
unfolding all filter_if
filter_if_separator_free p [] h = refl
filter_if_separator_free p (b ∷ s) h =
    let k = (and-eq-true_iff (not (eqb b 32) && not (eqb b 10)) (separator_free s)).0 h in
    let i = filter_if_separator_free p s k.1 in
    cond_elim SeparatorFree (p b) (λ e. rw k.0 i) (λ e. i)

letter_separator_free : (c : List ℕ) → SeparatorFree c → SeparatorFree (letter_word c)
unfolding letter_word all
letter_separator_free [] h = refl
letter_separator_free (b ∷ []) h = cond_elim SeparatorFree (eqb (to_lower b) (code "a")) (λ e. refl) (λ e. lower_separator_free (b ∷ []) h)
letter_separator_free (b ∷ c ∷ s) h = h

-- the parts of a text have no space and no LF if the text has none
parts_separator_free : (cs : List (List ℕ)) → SeparatorFree (flatten cs) → Every SeparatorFree cs
unfolding flatten
parts_separator_free [] h = tt
parts_separator_free (c ∷ cs) h = let k = (and-eq-true_iff (separator_free c) (separator_free (flatten cs))).0
    (sym (all_append _ c (flatten cs)) ∙ h) in (k.0, parts_separator_free cs k.1)

letters_separator_free : (s : List ℕ) → SeparatorFree s → Every SeparatorFreeWord (letters s)
unfolding letters spell
letters_separator_free s h = every_map SeparatorFree SeparatorFreeWord (λ c. other (letter_word c)) letter_separator_free (chars s)
    (parts_separator_free (chars s) (ap separator_free (chars_join s) ∙ h))

-- ---- rows

fraction_separator_free : (s : List ℕ) → Every SeparatorFreeWord (fraction s)
unfolding spell all
fraction_separator_free = fraction_elim SeparatorFreeWord (refl, (refl, (refl, (refl, tt)))) cardinal_separator_free ordinal_separator_free

clock_separator_free : (hour minute : List ℕ) → Every SeparatorFreeWord (clock hour minute)
unfolding clock
clock_separator_free hour minute =
    every_append SeparatorFreeWord (cardinal hour) _ (cardinal_separator_free hour)
    (cond_elim (Every SeparatorFreeWord) (same minute (bytes "00")) (λ e. tt) (λ e. year_separator_free minute))

time_separator_free : (hour minute : List ℕ) → Every SeparatorFreeWord (clock hour minute ++ full_hour minute)
unfolding full_hour all spell
time_separator_free hour minute =
    every_append SeparatorFreeWord (clock hour minute) _ (clock_separator_free hour minute)
    (cond_elim (Every SeparatorFreeWord) (same minute (bytes "00")) (λ e. (refl, tt)) (λ e. tt))

meridiem_separator_free : (s : List ℕ) → SeparatorFree s → Every SeparatorFreeWord (clock_letters (time_parts s))
unfolding clock_letters time_parts
meridiem_separator_free s h =
    cond_elim (λ (x : TimeParts). Every SeparatorFreeWord (clock_letters x)) (is_meridiem_time s)
    (λ e. every_append SeparatorFreeWord (clock _ _) _ (clock_separator_free _ _)
    (letters_separator_free (drop (length s - 2) s) (all_split _ s (length s - 2) h).1)) (λ e. tt)

-- no word of a name without space and LF has one, if the word of row 12 has none
pub read_separator_free : (word : List ℕ → List ℕ) → ((s : List ℕ) → separator_free s ≡ true → separator_free (word s) ≡ true) → (s : List ℕ) → separator_free s ≡ true
    → Every (λ w. separator_free w ≡ true) (spelled (read_with word s).words)
unfolding read_with read_step spell spelled all
read_separator_free word k s h =
    every_map SeparatorFreeWord SeparatorFree spell (λ w e. e) (read_with word s).words
    (recur_induct (λ s g. SeparatorFree s → Every SeparatorFreeWord g.words) no_reading (read_step word) step s h)
  where
    step : (f : List ℕ → Reading) (s : List ℕ) → ((t : List ℕ) → length t < length s → SeparatorFree t → Every SeparatorFreeWord (f t).words) → SeparatorFree s
        → Every SeparatorFreeWord (read_step word f s).words
    step f s i h =
        let P : Reading → Type 0 = λ g. Every SeparatorFreeWord g.words in
        cond_elim P (eqb (length s) 0) (λ e. tt) (λ e.
        cond_elim P (is_dotted_abbrev s) (λ e. letters_separator_free (filter_if (except (code ".")) s) (filter_if_separator_free (except (code ".")) s h)) (λ e.
        cond_elim P (is_comma_int s) (λ e. cardinal_separator_free s) (λ e.
        cond_elim P (is_time s) (λ e. time_separator_free (hour_of s) (minute_of s)) (λ e.
        cond_elim P (is_meridiem_time s) (λ e. meridiem_separator_free s h) (λ e.
        cond_elim P (is_range s) (λ e.
        let left = before (code "-") s in
        let right = after (code "-") s in
        let n = span (except (code "-")) s in
        let l = parts_fit s e in
        every_append SeparatorFreeWord (f left).words (to ∷ (f right).words) (i left (omega arith) (all_split _ s n h).0)
        (refl, i right (omega arith) (all_split _ (drop n s) 1 (all_split _ s n h).1).1)) (λ e.
        cond_elim P (is_digits_slash_digits s) (λ e. fraction_separator_free s) (λ e.
        cond_elim P (is_leading_zero_digits s) (λ e. digits_separator_free s) (λ e.
        cond_elim P (is_digits s) (λ e. cardinal_separator_free s) (λ e.
        cond_elim P (is_double s) (λ e. real_separator_free s) (λ e.
        cond_elim P (is_ordinal s) (λ e. ordinal_separator_free (take (length s - 2) s)) (λ e.
        cond_elim P (ends_with (code "%") s) (λ e.
        let before = take (length s - 1) s in
        every_append SeparatorFreeWord (f before).words per_cent
        (i before (shorter s (ends_some (code "%") s e)) (all_split _ s (length s - 1) h).0) (refl, (refl, tt))) (λ e.
        cond_elim P (has_unit s) (λ e.
        every_append SeparatorFreeWord (cardinal (take (unit_at s) s)) _ (cardinal_separator_free (take (unit_at s) s))
        (unit_separator_free_lem (unit_part s), tt)) (λ e. (k s h, tt))))))))))))))
