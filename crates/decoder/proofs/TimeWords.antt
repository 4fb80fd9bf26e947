-- The words of a time: the tests that each of them passes, and how they are decoded. Assumes nothing.
use mathlib.Core.Path.{◌≡◌, refl, sym, ap, ◌∙◌}
use mathlib.Core.Bool.{Bool, true, false, cond, not, and-eq-true_iff, false≢true}
use mathlib.Core.List.{List, [], ◌∷◌, ◌++◌, map, append_assoc}
use mathlib.Core.Logic.{◌⊎◌, inl, inr, ⊎_elim}
use Prim.Native.Nat.{ℕ, ◌+◌, ◌-◌, ◌≤◌, ◌<◌}
use Prim.Native.Char.{code}
use native.Mathlib.Omega.{arith}
use lib.Dec.{eqb}
use lib.ListN.{length, get_or, length-map, length-append, get_or-append}
use lib.Seq.{get_or-append_seam, get_or-append-add}
use borrow.Author.Tests.{eqb-true, not-true}
use Rattle.lists.specs.Bytes.{bytes, same, same_by, all, any, Every, listed}
use Rattle.lists.proofs.Recursion.{cond_elim}
use Rattle.lists.proofs.Every.{every_append, every_map, every_imply, every_at}
use Rattle.vocabulary.specs.Vocabulary.{ordinals}
use Rattle.vocabulary.proofs.Laws.{unfold_vocabulary}
use Rattle.units.specs.Units.{unit_abbreviations, unit_words, index_of}
use Rattle.numerals.specs.Words.{Word, one, other, spell, spelled, consecutive_words, number_words}
use Rattle.numerals.specs.Cardinal.{digit_values, pair_words, cardinal_of, cardinal, digits}
use Rattle.numerals.proofs.Digits.{spelled_append}
use Rattle.numerals.proofs.Cardinal.{cardinal_2}
use Rattle.years.specs.Year.{year_of, year}
use Rattle.letters.specs.Letters.{chars, letter_word, letters}
use Rattle.years.proofs.YearLaws.{year_two}
use Rattle.rows.specs.Rows.{clock, full_hour}
use Rattle.clear.specs.Clear.{is_hour, is_minute, AmPm, am, pm}
use Rattle.clear.proofs.Times.{hour_parts}
use Rattle.decoder.specs.Decode.{parse_word, parse_word_in, parse_words, first_word, last_word, is_letter_word, time_like, decode_time, decode, is_below_hundred}
use Rattle.decoder.proofs.DecimalDigits.{digit_values_length}
use Rattle.numerals.proofs.NumberWords.{NumberWord, number_word_test, cardinal_number_words, digits_number_words}
use Rattle.decoder.proofs.NumberWords.{number_word_parsed, every_parsed, plain_some}
use Rattle.decoder.proofs.Dispatch.{not_one_word, but_last_lem}
use Rattle.decoder.proofs.Times.{minute_parts, clock_decoded, time_words_decoded}

-- the words that times are read with besides those of numbers
abbrev oh_word : Word
oh_word = other (bytes "oh")

abbrev oclock_word : Word
oclock_word = other (bytes "o'clock")

-- a word that times are read with
abbrev TimeWord : Word → Type 0
TimeWord w = NumberWord w ⊎ ((w ≡ oh_word) ⊎ (w ≡ oclock_word))

time_word_test : (p : Word → Bool) → all p number_words ≡ true → p oh_word ≡ true → p oclock_word ≡ true → (w : Word) → TimeWord w → p w ≡ true
time_word_test p h k l w =
    ⊎_elim (λ (n : NumberWord w). number_word_test p h w n) (⊎_elim (λ (e : w ≡ oh_word). ap p e ∙ k) (λ (e : w ≡ oclock_word). ap p e ∙ l))

-- the words of a year of two digits
two_digits : (s : List ℕ) → length s ≡ 2 → Every NumberWord (map one s) → Every NumberWord (cardinal_of s) → Every TimeWord (year_of s)
unfolding cardinal_of
two_digits [] h p q = absurd (omega arith)
two_digits (a ∷ []) h p q = absurd (omega arith)
two_digits (a ∷ b ∷ c ∷ s) h p q = absurd (omega arith)
two_digits (a ∷ b ∷ []) h p q =
    rw (year_two a b) (cond_elim (Every TimeWord) (eqb a 0)
    (λ e. cond_elim (Every TimeWord) (eqb b 0)
    (λ f. let z : NumberWord (one 0) = rw (eqb-true a 0 e) at p.0 in (inl z, (inl z, tt)))
    (λ f. (inr (inl refl), (inl p.1.0, tt))))
    (λ e. every_imply NumberWord TimeWord (λ w n. inl n) (pair_words a b) (rw (cardinal_2 (a ∷ b ∷ []) refl) at q)))

spelled_length : (ws : List Word) → length (spelled ws) ≡ length ws
unfolding spelled
spelled_length ws = length-map ws spell

two_words : (ws : List Word) → time_like ws ≡ true → 2 ≤ length ws
unfolding any
two_words [] t = absurd (false≢true ((and-eq-true_iff (all is_below_hundred []) false).0 t).1)
two_words (w ∷ []) t = absurd (false≢true ((and-eq-true_iff (all is_below_hundred (w ∷ [])) false).0 t).1)
two_words (w ∷ v ∷ ws) t = omega arith

minute_time_words : (m : List ℕ) → is_minute m ≡ true → Every TimeWord (year m)
unfolding year
minute_time_words m q =
    let (d, l, r) = minute_parts m q in
    two_digits (digit_values m) (digit_values_length m d ∙ l) (unfold digits in digits_number_words m) (unfold cardinal in cardinal_number_words m)

some_clock : (h m : List ℕ) → is_hour h ≡ true → 1 ≤ length (clock h m)
unfolding clock
some_clock h m p =
    let (w, ws, e) = plain_some h (hour_parts h p).0 in
    rw e (omega arith)

-- words with two more after them, of which the last is "m"
module _ (ws : List (List ℕ)) (y : List ℕ) where
  abbrev more : List (List ℕ)
  more = ws ++ y ∷ bytes "m" ∷ []

  more_length : length more ≡ length ws + 2
  more_length = length-append ws (y ∷ bytes "m" ∷ [])

  decode_am_pm : 1 ≤ length ws → is_letter_word (first_word ws) ≡ false
      → decode more ≡ decode_time (parse_words ws) ++ ((cond (same y (bytes "p")) (code "p") (code "a") ∷ []) ++ bytes "m")
  unfolding decode same_by
  decode_am_pm l f =
      let first : first_word more ≡ first_word ws = get_or-append ws (y ∷ bytes "m" ∷ []) [] 0 l in
      let last : last_word more ≡ bytes "m" = ap (λ k. get_or more k []) (let e = more_length in omega arith) ∙ get_or-append-add ws (y ∷ bytes "m" ∷ []) 1 [] in
      let next : get_or more (length more - 2) [] ≡ y =
      ap (λ k. get_or more k []) (let e = more_length in omega arith) ∙ get_or-append_seam ws y (bytes "m" ∷ []) [] in
      rw (not_one_word more (let e = more_length in omega arith), first, f, last, next, but_last_lem ws (y ∷ bytes "m" ∷ []))

-- what "am" and "pm" are read as
am_pm_letters : (x : List ℕ) → AmPm x
    → (y : List ℕ) × (spelled (letters x) ≡ y ∷ bytes "m" ∷ []) × ((cond (same y (bytes "p")) (code "p") (code "a") ∷ []) ++ bytes "m" ≡ x)
unfolding letters letter_word chars spelled spell same_by
am_pm_letters x am = (bytes "_a", refl, refl)
am_pm_letters x pm = (bytes "p", refl, refl)

-- words that times are read with
module _ (ws : List Word) (t : Every TimeWord ws) where
  -- a test that their spellings pass
  words_test : (p : List ℕ → Bool) → all (λ w. p (spell w)) number_words ≡ true → p (bytes "oh") ≡ true → p (bytes "o'clock") ≡ true
      → Every (λ w. p w ≡ true) (spelled ws)
  unfolding spelled spell
  words_test p a b c = every_map TimeWord (λ w. p w ≡ true) spell (time_word_test (λ w. p (spell w)) a b c) ws t

  words_parsed : parse_words (spelled ws) ≡ ws
  unfolding parse_word parse_word_in number_words consecutive_words spell unfold_vocabulary
  words_parsed =
      every_parsed ws
      (every_imply TimeWord (λ w. parse_word (spell w) ≡ w) (λ w. ⊎_elim (number_word_parsed w)
      (⊎_elim (λ (e : w ≡ oh_word). ap (λ v. parse_word (spell v)) e ∙ sym e) (λ (e : w ≡ oclock_word). ap (λ v. parse_word (spell v)) e ∙ sym e)))
      ws t)

  -- each of them fails a test that the number words fail
  words_fail : (p : List ℕ → Bool) → all (λ w. not (p (spell w))) number_words ≡ true → not (p (bytes "oh")) ≡ true → not (p (bytes "o'clock")) ≡ true
      → (i : ℕ) → i < length ws → p (get_or (spelled ws) i []) ≡ false
  words_fail p a b c i l =
      not-true (p (get_or (spelled ws) i []))
      (every_at (λ w. not (p w) ≡ true) (spelled ws) i [] (rw spelled_length l) (words_test (λ w. not (p w)) a b c))

module _ (h m : List ℕ) (p : is_hour h ≡ true) (q : is_minute m ≡ true) where
  -- the words of an hour and a minute are such words
  clock_words : Every TimeWord (clock h m)
  unfolding clock
  clock_words =
      every_append TimeWord (cardinal h) (cond (same m (bytes "00")) [] (year m))
      (every_imply NumberWord TimeWord (λ w n. inl n) (cardinal h) (cardinal_number_words h))
      (cond_elim (Every TimeWord) (same m (bytes "00")) (λ e. tt) (λ e. minute_time_words m q))

  -- so is the word of a full hour
  full_hour_words : Every TimeWord (full_hour m)
  unfolding full_hour
  full_hour_words = cond_elim (Every TimeWord) (same m (bytes "00")) (λ e. (inr (inr refl), tt)) (λ e. tt)

  -- the words of a time are decoded as the time
  pub time_read : decode (spelled (clock h m ++ full_hour m)) ≡ h ++ (bytes ":" ++ m)
  unfolding decode number_words consecutive_words spell unfold_vocabulary unit_abbreviations unit_words index_of any all
  time_read =
      let vs = clock h m ++ full_hour m in
      let ws = spelled vs in
      let every : Every TimeWord vs = every_append TimeWord (clock h m) (full_hour m) clock_words full_hour_words in
      let (d, t) = time_words_decoded h m p q in
      let e : length ws ≡ length vs = spelled_length vs in
      let l : 2 ≤ length vs = two_words vs t in
      let i = length ws - 1 in
      let k : i < length vs = omega arith in
      rw (
        not_one_word ws (omega arith),
        words_fail vs every is_letter_word refl refl refl 0 (omega arith),
        words_fail vs every (λ w. same w (bytes "cent")) refl refl refl i k,
        words_fail vs every (λ w. same w (bytes "m")) refl refl refl i k,
        words_fail vs every (λ w. listed w unit_words) refl refl refl i k,
        words_fail vs every (λ w. listed w (map bytes ordinals)) refl refl refl i k,
        words_parsed vs every,
        t,
      ) d

  -- so are the words of a time with am or pm
  pub meridiem_read : (x : List ℕ) → AmPm x → decode (spelled (clock h m ++ letters x)) ≡ h ++ (bytes ":" ++ (m ++ x))
  unfolding number_words consecutive_words spell unfold_vocabulary all
  meridiem_read x d =
      let ws = spelled (clock h m) in
      let l : 1 ≤ length (clock h m) = some_clock h m p in
      let (y, e, f) = am_pm_letters x d in
      ap decode (spelled_append (clock h m) (letters x) ∙ ap (λ (v : List (List ℕ)). ws ++ v) e)
      ∙ decode_am_pm ws y (rw (spelled_length (clock h m)) l) (words_fail (clock h m) clock_words is_letter_word refl refl refl 0 l)
      ∙ rw (words_parsed (clock h m) clock_words, clock_decoded h m p q, f) (append_assoc h (bytes ":" ++ m) x)
