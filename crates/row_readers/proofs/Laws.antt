-- What the readers of rows answer. Assumes nothing.
use mathlib.Core.Path.{◌≡◌, refl, sym, ap, ◌∙◌}
use mathlib.Core.Bool.{Bool, true, false, not, ◌&&◌, and-eq-true_iff, or-false, true≢false, cond}
use mathlib.Core.List.{List, [], ◌∷◌, ◌++◌, map, map-append, append-nil}
use Prim.Native.Nat.{ℕ, ◌-◌, ◌<◌}
use Prim.Native.Char.{code}
use lib.Dec.{eqb}
use lib.ListN.{take, drop, get_or, length}
use borrow.Author.Tests.{eq-eqb, ne_eqb, not-true, ltb-true}
use Rattle.std.specs.Prelude.{Option, Some, None}
use Rattle.lists.specs.Bytes.{bytes, filter_if, all, to_lower, same}
use Rattle.lists.specs.Classes.{except, letter, digit_or_comma}
use Rattle.lists.proofs.Recursion.{cond_elim}
use Rattle.lists.proofs.Scan.{ByParts, filter_if_append}
use Rattle.units.specs.Units.{is_unit, unit_row, unit_word, word_numbers, unit_index}
use Rattle.units.proofs.Laws.{empty_none, row_word, row_none, unit_word_number, unit_in_table}
use Rattle.shapes.specs.Shapes.{has_unit, unit_at, unit_part, split_unit, is_dotted_abbrev, is_range}
use Rattle.shapes.proofs.Laws.{split_unit_some}
use Rattle.shapes.specs.Times.{parts_of_time, is_meridiem_time, time_parts, time_split, time_parts_at, SplitsTime}
use Rattle.shapes.specs.declared.TimeSplit.{TimeSplit}
use Rattle.vocabulary.specs.Vocabulary.{word_of}
use Rattle.vocabulary.proofs.Laws.{unfold_vocabulary}
use Rattle.numerals.specs.Words.{Word, other, spell, spelled}
use Rattle.numerals.specs.Cardinal.{cardinal}
use Rattle.numerals.proofs.Digits.{spelled_append}
use Rattle.numerals.proofs.Said.{says_more}
use Rattle.years.specs.Year.{year}
use Rattle.letters.specs.Letters.{letter_word, letters}
use Rattle.word_writer.specs.Writer.{Says}
use Rattle.word_writer.specs.declared.Writer.{Writer}
use Rattle.word_writer.proofs.Saying.{says_same}
use Rattle.rows.specs.Rows.{Reading, by, clock, full_hour, clock_letters, is_percent, read_step, read}
use Rattle.rows.specs.declared.Row.{Row}
use Rattle.rows.specs.declared.Row.TheVariants.{Meridiem, Unit, OneWord}
use Rattle.rows.proofs.Laws.{number_in, read_eq}
use Rattle.rows.proofs.Dotted.{letter_chars}
use Rattle.rows.proofs.Taken.{dotted_byte, dotted_bytes}
use Rattle.row_readers.specs.Walk.{Reads, initials, word_of_unit, rows_once, rows_after}

-- an equal reading is read
pub reads_same : {g h : Reading} → g ≡ h → {p q : Writer} {r : Row} → Reads h p q r → Reads g p q r
reads_same {g} {h} e {p} {q} a =
    record {
      row = a.row ∙ sym (ap (λ (x : Reading). x.row) e);
      words = says_same (sym (ap (λ (x : Reading). spelled x.words) e)) a.words;
    }

-- a reading is read if its words are said and its row is answered
pub reads_by : {g : Reading} {row : Row} {ws : List Word} → g ≡ by row ws → {p q : Writer} → Says (spelled ws) p q → Reads g p q row
reads_by e a = reads_same e (record { row = refl; words = a })

-- the rows that these readers have, by their numbers
pub rows_once_numbered : (s : List ℕ) → map number_in (rows_once s) ≡ 1 ∷ 2 ∷ 3 ∷ 4 ∷ 5 ∷ 14 ∷ 6 ∷ 7 ∷ 8 ∷ 9 ∷ 11 ∷ 12 ∷ []
rows_once_numbered s = refl

-- a name that neither row 5a nor row 10 takes is read by the others
pub once_read : (s : List ℕ) → is_range s ≡ false → is_percent s ≡ false → read s ≡ rows_after 0 s
unfolding read_step rows_after
once_read s r e = read_eq s ∙ rw (r, e)

-- ---- hour, minute and meridiem

-- the minute is said if it is not "00"
pub clock_said : (hour minute : List ℕ) → same minute (bytes "00") ≡ false → {p q r : Writer}
    → Says (spelled (cardinal hour)) p q → Says (spelled (year minute)) q r → Says (spelled (clock hour minute)) p r
unfolding clock
clock_said hour minute e a b = says_more (cardinal hour) (year minute) (rw e) a b

-- a full hour is said with its word
pub full_hour_said : (hour minute : List ℕ) → same minute (bytes "00") ≡ true → {p q r : Writer}
    → Says (spelled (clock hour minute)) p q → Says (word_of 91 ∷ []) q r → Says (spelled (clock hour minute ++ full_hour minute)) p r
unfolding full_hour spelled spell unfold_vocabulary
full_hour_said hour minute e a b = says_more (clock hour minute) (full_hour minute) refl a (rw e b)

-- after any other minute there is no such word
pub other_minute_said : (hour minute : List ℕ) → same minute (bytes "00") ≡ false → {p q : Writer}
    → Says (spelled (clock hour minute)) p q → Says (spelled (clock hour minute ++ full_hour minute)) p q
unfolding full_hour
other_minute_said hour minute e a = rw (e, append-nil (clock hour minute)) a

-- if the split finds nothing, row 5 does not take the name
pub no_time : (s : List ℕ) {r : Option TimeSplit} → SplitsTime s r → r ≡ None → rows_after 4 s ≡ rows_after 5 s
unfolding rows_after time_split
no_time s {r} h e = go (is_meridiem_time s) refl
  where
    go : (b : Bool) → is_meridiem_time s ≡ b → rows_after 4 s ≡ rows_after 5 s
    go true t = let k = rw t at (sym e ∙ h.offsets) in cc
    go false t = rw t

-- if it finds offsets, the parts that they stand for are read
pub time_at : (s : List ℕ) {r : Option TimeSplit} → SplitsTime s r → {t : TimeSplit} → r ≡ Some t
    → rows_after 4 s ≡ by Meridiem (clock (take t.hour s) (take (t.meridiem - t.minute) (drop t.minute s)) ++ letters (drop t.meridiem s))
unfolding rows_after time_split clock_letters
time_at s {r} h {t} e = go (is_meridiem_time s) refl
  where
    parts : time_parts s ≡ parts_of_time (take t.hour s) (take (t.meridiem - t.minute) (drop t.minute s)) (drop t.meridiem s)
    parts = sym h.parts_named ∙ ap (λ (x : Option TimeSplit). time_parts_at x s) e

    go : (b : Bool) → is_meridiem_time s ≡ b
        → rows_after 4 s ≡ by Meridiem (clock (take t.hour s) (take (t.meridiem - t.minute) (drop t.minute s)) ++ letters (drop t.meridiem s))
    go true b = rw (b, parts)
    go false b = let k = rw b at (sym e ∙ h.offsets) in cc

-- ---- a unit

-- the unit that is split off is in the table exactly if the name has a unit
unit_listed : (s : List ℕ) → is_unit (unit_part s) ≡ has_unit s
unit_listed s = go (has_unit s) refl
  where
    go : (b : Bool) → has_unit s ≡ b → is_unit (unit_part s) ≡ has_unit s
    go true e = rw e (unfold has_unit in ((and-eq-true_iff (not (eqb (unit_at s) 0) && all digit_or_comma (take (unit_at s) s)) (is_unit (drop (unit_at s) s))).0 e).1)
    go false e = rw e empty_none

-- the unit u that is split off, in row k of the table, has its word in the vocabulary
pub unit_said : (s : List ℕ) {u : List ℕ} → Some u ≡ split_unit s → (k : ℕ) → Some k ≡ unit_row u → Some (word_of (get_or word_numbers k 0)) ≡ word_of_unit s
unit_said s {u} e k f = let y = split_unit_some s e in rw (row_word u k f, y.1, y.0)

-- a unit that is split off has a row in the table
pub unit_in_row : (s : List ℕ) {u : List ℕ} → Some u ≡ split_unit s → None ≡ unit_row u → ⊥
unit_in_row s {u} e f =
    let y = split_unit_some s e in
    let listed : is_unit u ≡ true = rw y.1 (unit_listed s ∙ y.0) in
    true≢false (sym listed ∙ row_none u f)

-- if there is no word, row 12 takes the name
pub no_unit : (s : List ℕ) → None ≡ word_of_unit s → rows_after 10 s ≡ by OneWord (other (map to_lower s) ∷ [])
unfolding rows_after
no_unit s e = go (has_unit s) refl e
  where
    go : (b : Bool) → has_unit s ≡ b → None ≡ cond b (Some (unit_word (unit_part s))) None → rows_after 10 s ≡ by OneWord (other (map to_lower s) ∷ [])
    go true h e = cc
    go false h e = rw h

-- if there is one, row 11 takes it
pub unit_read : (s : List ℕ) {w : List ℕ} → Some w ≡ word_of_unit s → rows_after 10 s ≡ by Unit (cardinal (take (unit_at s) s) ++ other w ∷ [])
unfolding rows_after
unit_read s {w} e = go (has_unit s) refl e
  where
    go : (b : Bool) → has_unit s ≡ b → Some w ≡ cond b (Some (unit_word (unit_part s))) None
        → rows_after 10 s ≡ by Unit (cardinal (take (unit_at s) s) ++ other w ∷ [])
    go true h e = let k : w ≡ unit_word (unit_part s) = cc in rw (k, h)
    go false h e = cc

-- ---- initials

-- the words of two joined texts are those of the first and then those of the second
pub initials_append : ByParts (λ t. spelled (initials t))
unfolding initials
initials_append s t = rw (filter_if_append (except (code ".")) s t, map-append) (spelled_append _ _)

-- an empty text has no words
pub no_initials : initials [] ≡ []
unfolding initials filter_if
no_initials = refl

-- a point has no word
pub point_initial : (b : ℕ) → b ≡ code "." → initials (b ∷ []) ≡ []
unfolding initials filter_if
point_initial b e = rw (eq-eqb b (code ".") e)

-- any other byte has one word
pub letter_initial : (b : ℕ) → (b ≡ code "." → ⊥) → initials (b ∷ []) ≡ other (letter_word (b ∷ [])) ∷ []
unfolding initials filter_if
letter_initial b n = rw (ne_eqb b (code ".") n)

-- a byte of a dotted abbreviation that is no point is a letter
kept_letter : (b : ℕ) → dotted_byte b ≡ true → except (code ".") b ≡ true → letter b ≡ true
kept_letter b h k = sym (or-false (letter b)) ∙ rw (not-true (eqb b (code ".")) k) at h

kept_letters : (s : List ℕ) → all dotted_byte s ≡ true → all letter (filter_if (except (code ".")) s) ≡ true
unfolding all filter_if
kept_letters [] h = refl
kept_letters (b ∷ s) h =
    let k = (and-eq-true_iff (dotted_byte b) (all dotted_byte s)).0 h in
    cond_elim (λ (t : List ℕ). all letter t ≡ true) (except (code ".") b) (λ e. rw (kept_letter b k.0 e, kept_letters s k.1)) (λ e. kept_letters s k.1)

-- so each byte of a dotted abbreviation that is no point is read as one letter
pub dotted_initials : (s : List ℕ) → is_dotted_abbrev s ≡ true → letters (filter_if (except (code ".")) s) ≡ initials s
unfolding initials
dotted_initials s e = letter_chars (filter_if (except (code ".")) s) (kept_letters s (dotted_bytes s e))

-- ---- what names hold that are taken

-- a part of the name that is not empty is its unit
unit_there : (s : List ℕ) {u : List ℕ} → u ≡ unit_part s → (length u ≡ 0 → ⊥) → has_unit s ≡ true
unit_there s e n = go (has_unit s) refl (rw e at n)
  where
    go : (b : Bool) → has_unit s ≡ b → (length (unit_part s) ≡ 0 → ⊥) → has_unit s ≡ true
    go true e n = e
    go false e n = absurd (n (rw e))

-- the word that the vocabulary has for a unit is the unit's word
pub unit_word_lem : (s : List ℕ) {u : List ℕ} {i k : ℕ} → u ≡ unit_part s → (length u ≡ 0 → ⊥) → i ≡ unit_index u → k ≡ get_or word_numbers i 0
    → word_of k ≡ unit_word (unit_part s)
unit_word_lem s e n p q =
    let h : unit_index (unit_part s) < 22 = ltb-true (unit_index (unit_part s)) 22 (sym (unit_in_table (unit_part s)) ∙ unit_listed s ∙ unit_there s e n) in
    rw (q, p, e) (unit_word_number (unit_index (unit_part s)) h)

-- the parts of a time with a meridiem stand at these offsets
pub time_parts_at_lem : (s : List ℕ) {r : Option TimeSplit} → time_parts_at r s ≡ time_parts s → {t : TimeSplit} → r ≡ Some t
    → time_parts s ≡ parts_of_time (take t.hour s) (take (t.meridiem - t.minute) (drop t.minute s)) (drop t.meridiem s)
time_parts_at_lem s e n = sym e ∙ ap (λ (r : Option TimeSplit). time_parts_at r s) n
