-- What calling a whole sheet and calling one entry answer, and leave in the lent buffer. Definitions only.
use Rattle.std.specs.Prelude.{◌≡◌, Bool, false, List, [], ◌∷◌, ◌++◌, ℕ, leb, ltb, length, get_or}
use Rattle.lists.specs.Bytes.{any, overwrite}
use Rattle.admit.specs.Refusals.{Test, ◌when◌, first_refusal, text_limit, text_tests, Call, call}
use Rattle.admit.specs.declared.Refusal.TheVariants.{NoSuchEntry, NameTooLong, BufferTooShort}
use Rattle.tokens.specs.Tokens.{tokens}
use Rattle.rows.specs.Rows.{row_number, row_sign, read}
use Rattle.call_spec.specs.Sheet.{SheetEntry, entries, words_of, lines, call_sheet, count_words, no_entry}

-- "an entry to be called has a name above 4,096 bytes"
abbrev pub name_limit : ℕ
name_limit = 4096

abbrev pub is_long : SheetEntry → Bool
is_long e = ltb name_limit (length e.name)

abbrev pub any_long : List SheetEntry → Bool
any_long = any is_long

-- ---- the whole sheet

-- its tests: all entries are to be called, and `short` says whether the buffer is smaller than the whole result
abbrev pub sheet_tests : List ℕ → Bool → List Test
sheet_tests s short =
    text_tests text_limit (s ∷ [])
    ++ NameTooLong when any_long (entries s)
    ∷ BufferTooShort when short
    ∷ []

-- "the count of tokens and the count of words", the call sheet's length, and the buffer's final bytes
pub record SheetResult : Type 0 where
  pub tokens : ℕ
  pub words : ℕ
  pub bytes : ℕ
  pub buffer : List ℕ

-- "Calling the whole sheet gives all lines in order, the count of tokens and the count of words."
unfoldable pub sheet_call : List ℕ → List ℕ → Call SheetResult
sheet_call s old =
    call (record { tokens = 0; words = 0; bytes = 0; buffer = old })
    (first_refusal (sheet_tests s (ltb (length old) (length (call_sheet s)))))
    (record { tokens = length (tokens s); words = count_words (entries s); bytes = length (call_sheet s); buffer = overwrite (call_sheet s) old })

-- "A sheet is accepted when calling it whole, with room for the result, isn't held back."
abbrev pub AcceptedSheet : List ℕ → Type 0
AcceptedSheet s = first_refusal (sheet_tests s false) ≡ 0

-- ---- one entry

abbrev pub entry_at : List ℕ → ℕ → SheetEntry
entry_at s k = get_or (entries s) k no_entry

-- "its line as it stands in the whole sheet's call, or would stand there if no other entry were held back by number 4"
abbrev pub line_at : List ℕ → ℕ → List ℕ
line_at s k = get_or (lines s) k []

-- its tests if entry k is called: "its number, from 0, is not below the token count"
abbrev pub entry_tests : List ℕ → ℕ → Bool → List Test
entry_tests s k short =
    text_tests text_limit (s ∷ [])
    ++ NoSuchEntry when leb (length (tokens s)) k
    ∷ NameTooLong when is_long (entry_at s k)
    ∷ BufferTooShort when short
    ∷ []

-- "its record, its word count and its line": the record as its row's number and its sign's value
pub record EntryResult : Type 0 where
  pub row : ℕ
  pub sign : ℕ
  pub words : ℕ
  pub bytes : ℕ
  pub buffer : List ℕ

-- "a refused call's record has row 0 and no sign"
unfoldable pub entry_call : List ℕ → ℕ → List ℕ → Call EntryResult
entry_call s k old =
    call (record { row = 0; sign = 0; words = 0; bytes = 0; buffer = old })
    (first_refusal (entry_tests s k (ltb (length old) (length (line_at s k)))))
    (record {
      row = row_number (read (entry_at s k).name).row;
      sign = row_sign (read (entry_at s k).name).row;
      words = length (words_of (entry_at s k));
      bytes = length (line_at s k);
      buffer = overwrite (line_at s k) old;
    })
