-- A sheet of n bytes has a call sheet of at most 11 * (n + 1) bytes, and what follows from that for short sheets.
-- Assumes nothing.
use mathlib.Core.Path.{◌≡◌, refl, sym, ap, ◌∙◌}
use mathlib.Core.Bool.{Bool, true, false, cond, ◌||◌, and-eq-true_iff}
use mathlib.Core.Logic.{inl, inr, ⊎_elim}
use mathlib.Core.List.{List, [], ◌∷◌, ◌++◌, map, flatten}
use Prim.Native.Nat.{ℕ, ◌+◌, ◌-◌, ◌*◌, ◌/◌, ◌≤◌, ◌<◌}
use Prim.Native.Char.{code}
use native.Mathlib.Nat.{add-zero}
use native.Mathlib.Omega.{arith}
use lib.Dec.{ltb, eqb}
use Rattle.std.specs.Prelude.{◌⊎◌, Result, Err}
use lib.ListN.{length, take, drop, get_or, length-append, length-take, length-drop, length-map}
use lib.Seq.{get_or-drop}
use borrow.Author.Tests.{not-false, le-ltb, ltb-true}
use Rattle.lists.specs.Bytes.{bytes, filter_if, to_lower, ends_with, all, any, span, same, same_by}
use Rattle.lists.specs.Classes.{digit, whitespace, non_whitespace, except}
use Rattle.lists.proofs.Recursion.{recur_induct, cond_elim}
use Rattle.lists.proofs.Scan.{filter_if_le, span_some, span_fails}
use Rattle.lists.proofs.Sets.{le_or_lt}
use Rattle.admit.specs.Refusals.{refusal_number, first_refusal, text_limit, text_tests, is_not_utf8, has_control, Call}
use Rattle.admit.specs.declared.Refusal.{Refusal}
use Rattle.admit.specs.declared.Refusal.TheVariants.{NotUtf8, ControlByte}
use Rattle.admit.proofs.Calls.{call_number, numbered, numbers_apart}
use Rattle.vocabulary.proofs.Laws.{word_short}
use Rattle.units.specs.Units.{unit_abbreviations, abbreviations, unit_words, index_of, unit_index, unit_word, word_numbers}
use Rattle.units.proofs.Laws.{unit_word_number, miss_word}
use Rattle.shapes.specs.Shapes.{is_dotted_abbrev, is_comma_int, is_time, are_digits, is_range, is_digits_slash_digits, is_leading_zero_digits, is_digits, is_double, is_ordinal, split_once, unit_at, has_unit, unit_part}
use Rattle.shapes.specs.Times.{ends_in_meridiem, is_meridiem_time, time_parts, time_of, separator_at}
use Rattle.tokens.specs.Tokens.{Token, after_whitespace, after_run, first_token, tokens, token_parts as four_parts}
use Rattle.tokens.proofs.Forward.{tokens_none, tokens_more, tokens_induct, first_joined, size_parts}
use Rattle.tokens.proofs.Walks.{first_white, tokens_past}
use Rattle.sentences.specs.Sentences.{sentence_starts}
use Rattle.numerals.specs.Words.{Word, other, spell, spelled}
use Rattle.numerals.specs.Cardinal.{cardinal}
use Rattle.numerals.proofs.Room.{width, Room, RoomFor, RoomForNumber, together, cardinal_room, digits_room, ordinal_room}
use Rattle.letters.specs.Letters.{letters}
use Rattle.years.specs.Year.{year}
use Rattle.years.proofs.Room.{year_room}
use Rattle.reals.proofs.Room.{real_room}
use Rattle.letters.proofs.Room.{letters_room}
use Rattle.rows.specs.Rows.{Reading, no_reading, per_cent, clock, full_hour, hour_of, minute_of, before, after, to, clock_letters, read_step, read_with, read}
use Rattle.fractions.proofs.Room.{fraction_room}
use Rattle.rows.proofs.Laws.{ends_some, shorter, parts_fit}
use Rattle.rows.proofs.Taken.{lacks, separator_needed}
use Rattle.rows.proofs.Times.{oclock, minute_words, time_words}
use Rattle.call_spec.specs.Sheet.{SheetEntry, entries_of, words_of, spaced_words, line_of, call_sheet}
use Rattle.call_spec.specs.Calls.{name_limit, any_long, sheet_tests, SheetResult, sheet_call}
use Rattle.calls.specs.Answers.{as_sheet}
use Rattle.calls.specs.declared.CalledSheet.{CalledSheet}

spaced_width : (ws : List Word) → length (spaced_words (spelled ws)) ≡ width ws
unfolding spaced_words spelled
spaced_width [] = omega arith
spaced_width (w ∷ ws) = omega (arith, length-append (spell w) (spaced_words (spelled ws)), spaced_width ws)

unit_short : (u : List ℕ) → length (unit_word u) ≤ 11 * length u
unfolding abbreviations unit_abbreviations unit_words index_of same_by
unit_short [] = omega arith
unit_short (b ∷ u) =
    let t = b ∷ u in
    let l : length (unit_word t) ≤ 11 =
    ⊎_elim (λ (h : 22 ≤ unit_index t). rw (miss_word t h) (omega arith))
    (λ (h : unit_index t < 22). rw (unit_word_number (unit_index t) h) at (word_short (get_or word_numbers (unit_index t) 0)))
    (le_or_lt 22 (unit_index t)) in
    omega arith

unit_room : (s : List ℕ) → has_unit s ≡ true → RoomFor (length s) (cardinal (take (unit_at s) s) ++ other (unit_word (unit_part s)) ∷ [])
unfolding spell
unit_room s e =
    let digits = take (unit_at s) s in
    let unit = drop (unit_at s) s in
    rw e (omega (
      arith,
      together (cardinal digits) (other (unit_word unit) ∷ []),
      cardinal_room digits,
      unit_short unit,
      length-take (unit_at s) s,
      length-drop (unit_at s) s,
    ))

-- the words of an hour and a minute have room, if there is a byte between the two, and if a full hour adds no more than "o'clock"
minute_room : (full : List Word) → Room 1 8 full → (hour minute : List ℕ) (n : ℕ) → length hour + length minute < n
    → RoomForNumber n (cardinal hour ++ minute_words full minute)
minute_room full r hour minute n l =
    let P : List Word → Type 0 = λ ws. RoomForNumber n (cardinal hour ++ ws) in
    let hours = cardinal_room hour in
    cond_elim P (same minute (bytes "00")) (λ e. omega (arith, together (cardinal hour) full))
    (λ e. omega (arith, together (cardinal hour) (year minute), year_room minute))

time_room : (s : List ℕ) → is_time s ≡ true → RoomForNumber (length s) (clock (hour_of s) (minute_of s) ++ full_hour (minute_of s))
unfolding split_once spell
time_room s e =
    let n = span (except (code ":")) s in
    let l : n < length s = ltb-true _ _ ((and-eq-true_iff (ltb n (length s)) _).0 e).0 in
    rw (time_words (hour_of s) (minute_of s))
    (minute_room oclock (omega arith) (hour_of s) (minute_of s) (length s) (omega (arith, length-take n s, length-drop 1 (drop n s), length-drop n s)))

meridiem_room : (s : List ℕ) → is_meridiem_time s ≡ true → RoomFor (length s) (clock_letters (time_parts s))
unfolding clock clock_letters time_parts
meridiem_room s e =
    let t = time_of s in
    let n = separator_at t in
    let m = drop (length s - 2) s in
    let l : n < length t = ltb-true _ _ ((and-eq-true_iff (ltb n (length t)) _).0 ((and-eq-true_iff (ends_in_meridiem s) _).0 e).1).0 in
    let c = minute_room [] (omega arith) (take n t) (drop (n + 1) t) (length t) (omega (arith, length-take n t, length-drop (n + 1) t)) in
    rw e (omega (arith, together (clock (take n t) (drop (n + 1) t)) (letters m), letters_room m, length-take (length s - 2) s, length-drop (length s - 2) s))

-- the words of a range have room, if those of its parts have
range_room : (n : ℕ) (left right : List ℕ) (ws vs : List Word) → length left + 1 + length right ≤ n
    → RoomFor (length left) ws → RoomFor (length right) vs → RoomFor n (ws ++ to ∷ vs)
unfolding spell
range_room n left right ws vs l p q = omega (arith, together ws (to ∷ vs))

-- the words of a name have room, if the word of row 12 is no longer than its name
read_room : (word : List ℕ → List ℕ) → ((s : List ℕ) → length (word s) ≤ length s) → (s : List ℕ) → RoomFor (length s) (read_with word s).words
unfolding read_with read_step spell
read_room word short = recur_induct (λ s g. RoomFor (length s) g.words) no_reading (read_step word) step
  where
    step : (f : List ℕ → Reading) (s : List ℕ) → ((t : List ℕ) → length t < length s → RoomFor (length t) (f t).words)
        → RoomFor (length s) (read_step word f s).words
    step f s h =
        let P : Reading → Type 0 = λ g. RoomFor (length s) g.words in
        cond_elim P (eqb (length s) 0) (λ e. omega arith) (λ e.
        cond_elim P (is_dotted_abbrev s) (λ e. omega (arith, letters_room (filter_if (except (code ".")) s), filter_if_le (except (code ".")) s)) (λ e.
        cond_elim P (is_comma_int s) (λ e. omega (arith, cardinal_room s)) (λ e.
        cond_elim P (is_time s) (λ e. omega (arith, time_room s e)) (λ e.
        cond_elim P (is_meridiem_time s) (meridiem_room s) (λ e.
        cond_elim P (is_range s) (λ e.
        let left = before (code "-") s in
        let right = after (code "-") s in
        let l = parts_fit s e in
        range_room (length s) left right (f left).words (f right).words (omega arith) (h left (omega arith)) (h right (omega arith))) (λ e.
        cond_elim P (is_digits_slash_digits s) (λ e. fraction_room s (lacks digit (code "/") s refl (separator_needed (code "/") are_digits s e))) (λ e.
        cond_elim P (is_leading_zero_digits s) (λ e. omega (arith, digits_room s)) (λ e.
        cond_elim P (is_digits s) (λ e. omega (arith, cardinal_room s)) (λ e.
        cond_elim P (is_double s) (λ e. real_room s) (λ e.
        cond_elim P (is_ordinal s) (λ e. omega (arith, ordinal_room (take (length s - 2) s), length-take (length s - 2) s)) (λ e.
        cond_elim P (ends_with (code "%") s) (λ e.
        let front = take (length s - 1) s in
        let l = shorter s (ends_some (code "%") s e) in
        omega (arith, together (f front).words per_cent, h front l)) (λ e.
        cond_elim P (has_unit s) (unit_room s) (λ e. omega (arith, short s))))))))))))))

-- an entry whose name has n bytes has a line of at most 11 * (n + 1) bytes
pub line_fits : (e : SheetEntry) → length (line_of e) ≤ 11 * (length e.name + 1)
unfolding line_of
line_fits e =
    let r = read_room (map to_lower) (λ s. omega (arith, length-map s to_lower)) e.name in
    omega (arith, spaced_width (read e.name).words, length-append (spaced_words (words_of e)) (bytes "\n"))

-- ---- the names of a text

unfoldable name_room : List Token → ℕ
name_room [] = 0
name_room (t ∷ ts) = length t.name + 1 + name_room ts

-- whitespace stands before every token but the first, so each of these has a byte besides its name
abbrev FitsNames : List ℕ → Type 0
FitsNames s = (name_room (tokens s) ≤ length s + 1) × (0 < span whitespace s → name_room (tokens s) ≤ length s)

-- after a run comes whitespace, or nothing
white_after : (s : List ℕ) → 0 < length (after_run s) → 0 < span whitespace (after_run s)
white_after s h =
    let t = after_whitespace s in
    let n = span non_whitespace t in
    let e : get_or (drop n t) 0 0 ≡ get_or t n 0 = get_or-drop n t 0 0 ∙ ap (λ (k : ℕ). get_or t k 0) (add-zero n) in
    span_some whitespace (drop n t) h (ap whitespace e ∙ not-false (whitespace (get_or t n 0)) (span_fails non_whitespace t (omega (arith, length-drop n t))))

names_room : (s : List ℕ) → FitsNames s
unfolding name_room all
names_room =
    tokens_induct FitsNames (λ s e. rw (tokens_none s e) (omega arith, λ h. omega arith))
    (λ s e i.
    let t = first_token s in
    let r = after_run s in
    let k : name_room (tokens r) ≤ length r =
    ⊎_elim (λ (h : length r ≤ 0). omega (arith, ap name_room (tokens_past r 0 h))) (λ (h : 0 < length r). i.1 (white_after s h))
    (le_or_lt (length r) 0) in
    let m = size_parts t in
    let j = length-append (flatten (four_parts t)) r in
    let l = ap length (first_joined s) in
    let w = first_white s in
    rw (tokens_more s e) (omega arith, λ h. omega arith))

lines_room : (bs : List Bool) (ts : List Token) → length (flatten (map line_of (entries_of bs ts))) ≤ 11 * name_room ts
unfolding entries_of flatten name_room
lines_room [] ts = omega arith
lines_room (b ∷ bs) [] = omega arith
lines_room (b ∷ bs) (t ∷ ts) =
    let e : SheetEntry = record { starts = b; name = t.name } in
    omega (arith, line_fits e, lines_room bs ts, length-append (line_of e) (flatten (map line_of (entries_of bs ts))))

-- a sheet of n bytes has a call sheet of at most 11 * (n + 1) bytes
pub sheet_room : (s : List ℕ) → length (call_sheet s) ≤ 11 * (length s + 1)
sheet_room s = omega (arith, lines_room (sentence_starts (tokens s)) (tokens s), (names_room s).0)

-- no name of a short text is too long
names_not_long : (bs : List Bool) (ts : List Token) → name_room ts ≤ name_limit + 1 → any_long (entries_of bs ts) ≡ false
unfolding any entries_of name_room
names_not_long [] ts h = refl
names_not_long (b ∷ bs) [] h = refl
names_not_long (b ∷ bs) (t ∷ ts) h = rw (le-ltb name_limit (length t.name) (omega arith), names_not_long bs ts (omega arith))

-- a sheet of n bytes that is no longer than a name may be, in a buffer of at least 11 * (n + 1) bytes: it is refused only for its
-- bytes
pub only_bytes : (s old new : List ℕ) {r : Result CalledSheet Refusal} → as_sheet r new ≡ sheet_call s old → length s ≤ name_limit
    → 11 * (length s + 1) ≤ length old → {e : Refusal} → r ≡ Err e → (e ≡ NotUtf8) ⊎ (e ≡ ControlByte)
unfolding sheet_call text_tests any
only_bytes s old new {r} c h k {e} q =
    let refusal_eq : refusal_number e ≡ first_refusal (sheet_tests s (ltb (length old) (length (call_sheet s)))) =
    ap (λ (x : Call SheetResult). x.refusal) (rw q at c) ∙ call_number _ _ _ in
    go e (is_not_utf8 s) (has_control s)
    (rw (
      le-ltb text_limit (length s) (omega arith),
      names_not_long (sentence_starts (tokens s)) (tokens s) (omega (arith, (names_room s).0)),
      le-ltb (length old) (length (call_sheet s)) (omega (arith, sheet_room s)),
    ) at refusal_eq)
  where
    go : (e : Refusal) (broken control : Bool) → refusal_number e ≡ cond (broken || false) 2 (cond (control || false) 6 0)
        → (e ≡ NotUtf8) ⊎ (e ≡ ControlByte)
    go e true b q = inl (numbers_apart e NotUtf8 q)
    go e false true q = inr (numbers_apart e ControlByte q)
    go e false false q = absurd (numbered e q)

-- if the room passes the test that the code makes first, it is large enough
pub room_suffices : (n m room : ℕ) → n ≤ 11 * (m + 1) → m < room / 11 → false ≡ ltb room n
room_suffices n m room h k = sym (le-ltb room n (omega arith))
