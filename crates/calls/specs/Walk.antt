-- What the callers of entries pass on to each other. Definitions only; no public promise is made of them.
use Rattle.std.specs.Prelude.{◌≡◌, List, [], ◌∷◌, ℕ, ltb, length}
use Prim.Native.Char.{code}
use Rattle.lists.specs.Bytes.{overwrite}
use Rattle.admit.specs.Refusals.{◌when◌, first_refusal, Call, call}
use Rattle.admit.specs.declared.Refusal.TheVariants.{NameTooLong, BufferTooShort}
use Rattle.word_writer.specs.Writer.{Written, put_byte, put_words, Puts}
use Rattle.word_writer.specs.declared.Writer.{Writer}
use Rattle.rows.specs.Rows.{row_number, row_sign, read}
use Rattle.rows.specs.declared.Row.{Row}
use Rattle.call_spec.specs.Sheet.{SheetEntry, words_of, mark, line_of}
use Rattle.call_spec.specs.Calls.{is_long, EntryResult}

-- an entry's line, and the lines of several, as a spaced writer writes them
unfoldable pub line_to : SheetEntry → Written → Written
line_to e s = put_byte (code "\n") (put_words (words_of e) (put_byte (mark e.starts) s))

unfoldable pub lines_to : List SheetEntry → Written → Written
lines_to [] s = s
lines_to (e ∷ es) s = lines_to es (line_to e s)

-- the writer p wrote an entry's line, and is q after that; the entry's row is answered
pub record SaysLine (e : SheetEntry) (p : Writer) (q : Writer) (r : Row) : Type 0 where
  pub row : r ≡ (read e.name).row
  pub line : Puts line_to e p q

-- it wrote the lines of several
abbrev pub SaysLines : List SheetEntry → Writer → Writer → Type 0
SaysLines = Puts lines_to

-- the call of an entry that is there, in a sheet whose text is not refused
unfoldable pub name_call : SheetEntry → List ℕ → Call EntryResult
name_call e old =
    call (record { row = 0; sign = 0; words = 0; bytes = 0; buffer = old })
    (first_refusal (NameTooLong when is_long e ∷ BufferTooShort when ltb (length old) (length (line_of e)) ∷ []))
    (record {
      row = row_number (read e.name).row;
      sign = row_sign (read e.name).row;
      words = length (words_of e);
      bytes = length (line_of e);
      buffer = overwrite (line_of e) old;
    })
