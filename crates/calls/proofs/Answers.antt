-- What the two calls answer. Assumes nothing.
use mathlib.Core.Path.{◌≡◌, sym, ap, ◌∙◌}
use mathlib.Core.Bool.{Bool, true, false}
use mathlib.Core.List.{List, [], ◌∷◌}
use Prim.Native.Nat.{ℕ, ◌≤◌, ◌<◌}
use lib.Dec.{leb, ltb}
use lib.ListN.{length}
use borrow.Author.Tests.{ltb-true, ltb-false, le-ltb, lt-ltb, le-leb, lt-leb}
use Rattle.std.specs.Prelude.{Option, Some, None, Result, Ok, Err, IsErrAnd}
use Rattle.admit.specs.Refusals.{Test, ◌when◌, text_limit, text_tests, text_refusal, answer_number}
use Rattle.admit.specs.declared.Refusal.{Refusal}
use Rattle.admit.specs.declared.Refusal.TheVariants.{NoSuchEntry, NameTooLong, BufferTooShort}
use Rattle.admit.proofs.Calls.{leaves_first, decides_next}
use Rattle.word_writer.specs.Writer.{usize_max, written, unwritten}
use Rattle.word_writer.specs.declared.Writer.{Writer}
use Rattle.tokens.specs.Tokens.{tokens}
use Rattle.sentences.specs.declared.SheetEntry.{SheetEntry as Given}
use Rattle.rows.specs.Rows.{row_number, row_sign}
use Rattle.rows.specs.declared.Row.{Row}
use Rattle.call_spec.specs.Sheet.{SheetEntry, entries, line_of, call_sheet}
use Rattle.call_spec.specs.Calls.{name_limit, is_long, any_long, sheet_call, entry_at, line_at, entry_call}
use Rattle.call_spec.proofs.Entries.{line_at_lem}
use Rattle.entries.specs.Find.{as_sheet_entry, FoundEntry, found_entry, as_found_entry}
use Rattle.calls.specs.Answers.{as_sheet, as_entry}
use Rattle.calls.specs.Walk.{SaysLine, SaysLines, name_call}
use Rattle.calls.specs.declared.CalledSheet.{CalledSheet}
use Rattle.calls.specs.declared.CalledEntry.{CalledEntry}
use Rattle.calls.proofs.Lines.{wrote_line, wrote_lines, line_words, lines_words, written_lines}

-- ---- an entry that is there

module _ (e : SheetEntry) (old : List ℕ) where
  -- if the name is too long, the call is refused with 4
  pub name_long : name_limit < length e.name → as_entry (Err NameTooLong) old ≡ name_call e old
  unfolding name_call
  name_long h = rw (lt-ltb name_limit (length e.name) h)

  module _ (h : length e.name ≤ name_limit) where
    -- if the buffer is too short for the line, the call is refused with 5
    pub line_short : ltb (length old) (length (line_of e)) ≡ true → as_entry (Err BufferTooShort) old ≡ name_call e old
    unfolding name_call
    line_short t = rw (le-ltb name_limit (length e.name) h, t)

    -- else the call answers the record and the counts, and writes the line
    pub line_result : ltb (length old) (length (line_of e)) ≡ false → length old < usize_max → (t : List ℕ) (p q : Writer) {r : Row}
        → written p ≡ unwritten true old t → SaysLine e p q r → {new : List ℕ} → new ≡ q.store.now
        → as_entry (Ok (record { entry = record { row = r }; words = (written q).words; bytes = (written q).at })) new ≡ name_call e old
    unfolding name_call
    line_result f small t p q start said b =
        let g = written_lines (wrote_line e) (line_words e) old t p q start said.line.result f small in
        let d = said.row in
        rw (le-ltb name_limit (length e.name) h, f)
        (λ j.
        record {
          refusal = 0;
          value =
              record { row = row_number (d j); sign = row_sign (d j); words = g.1 j; bytes = g.0 j; buffer = (b ∙ g.2) j };
        })

-- ---- the tests of the sheet s

abbrev text : List ℕ → List Test
text s = text_tests text_limit (s ∷ [])

abbrev is_short : List ℕ → List ℕ → Bool
is_short s old = ltb (length old) (length (call_sheet s))

abbrev later : List ℕ → List ℕ → List Test
later s old = NameTooLong when any_long (entries s) ∷ BufferTooShort when is_short s old ∷ []

abbrev here : List ℕ → List ℕ → ℕ → List Test
here s old k = NoSuchEntry when leb (length (tokens s)) k ∷ NameTooLong when is_long (entry_at s k) ∷ BufferTooShort when ltb (length old) (length (line_at s k)) ∷ []

-- `made` is what the tests of its text answered, which come first
module _ (s old : List ℕ) {T : Type 0} {made : Result T Refusal} (made_eq : answer_number made ≡ text_refusal text_limit s) where
  -- if the text is refused, the call is left with its refusal
  pub sheet_left : (result : Result CalledSheet Refusal) {r : Refusal} → made ≡ Err r → IsErrAnd result (λ e. e ≡ r) → as_sheet result old ≡ sheet_call s old
  unfolding sheet_call
  sheet_left result e h = leaves_first (text s) (later s old) made_eq _ _ _ result e h

  -- if a name is too long, the call is refused with 4
  pub sheet_long : {v : T} → made ≡ Ok v → any_long (entries s) ≡ true → as_sheet (Err NameTooLong) old ≡ sheet_call s old
  unfolding sheet_call
  sheet_long e l = rw (decides_next (text s) (later s old) made_eq e, l)

  -- if the buffer is too short for the call sheet, the call is refused with 5
  pub sheet_short : {v : T} → made ≡ Ok v → any_long (entries s) ≡ false → is_short s old ≡ true → as_sheet (Err BufferTooShort) old ≡ sheet_call s old
  unfolding sheet_call
  sheet_short e l t = rw (decides_next (text s) (later s old) made_eq e, l, t)

  -- else the call answers the counts, and writes the call sheet
  pub sheet_result : {v : T} → made ≡ Ok v → any_long (entries s) ≡ false → is_short s old ≡ false → length old < usize_max → (t : List ℕ) (p q : Writer) {k : ℕ}
      → k ≡ length (tokens s) → written p ≡ unwritten true old t → SaysLines (entries s) p q → {new : List ℕ} → new ≡ q.store.now
      → as_sheet (Ok (record { tokens = k; words = (written q).words; bytes = (written q).at })) new ≡ sheet_call s old
  unfolding sheet_call
  sheet_result e l f small t p q c start said b =
      let g = written_lines (wrote_lines (entries s)) (lines_words (entries s)) old t p q start said.result f small in
      rw (decides_next (text s) (later s old) made_eq e, l, f) (λ j. record { refusal = 0; value = record { tokens = c j; words = g.1 j; bytes = g.0 j; buffer = (b ∙ g.2) j } })

  -- entry k of it
  module _ (k : ℕ) where
    -- if the text is refused, the call is left with its refusal
    pub entry_left : (result : Result CalledEntry Refusal) {r : Refusal} → made ≡ Err r → IsErrAnd result (λ e. e ≡ r)
        → as_entry result old ≡ entry_call s k old
    unfolding entry_call
    entry_left result e h = leaves_first (text s) (here s old k) made_eq _ _ _ result e h

    -- r is what the code has found
    module _ {v : T} (e : made ≡ Ok v) (r : Option Given) (found : as_found_entry r ≡ found_entry s k) where
      there : ltb k (length (tokens s)) ≡ (as_found_entry r).found
      there = sym (ap (λ (x : FoundEntry). x.found) found)

      -- if there is no such entry, the call is refused with 3
      pub entry_none : r ≡ None → as_entry (Err NoSuchEntry) old ≡ entry_call s k old
      unfolding entry_call
      entry_none n = rw (decides_next (text s) (here s old k) made_eq e, le-leb (length (tokens s)) k (ltb-false _ _ (rw n at there)))

      -- else its call is the call of the name that was found
      pub entry_there : {x : Given} → r ≡ Some x → name_call (as_sheet_entry x) old ≡ entry_call s k old
      unfolding entry_call name_call
      entry_there {x} q =
          let h : k < length (tokens s) = ltb-true _ _ (rw q at there) in
          let is : as_sheet_entry x ≡ entry_at s k = ap (λ (y : FoundEntry). y.entry) (rw q at found) in
          ap (λ (y : SheetEntry). name_call y old) is
          ∙ rw (decides_next (text s) (here s old k) made_eq e, lt-leb (length (tokens s)) k h, line_at_lem s k h)
