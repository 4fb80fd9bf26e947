-- Document 01, "Clear entries": what two sheets have in common; and the way from a call sheet back to its entries.
-- Definitions only.
use Rattle.std.specs.Prelude.{◌≡◌, Bool, true, false, List, map, ◌↔◌, ℕ, ◌-◌, eqb, length, take, drop, get_or}
use Prim.Native.Char.{code}
use Rattle.lists.specs.Bytes.{Every, split}
use Rattle.tokens.specs.Tokens.{Token, tokens}
use Rattle.admit.specs.Refusals.{Call}
use Rattle.sentences.specs.Sentences.{sentence_starts}
use Rattle.call_spec.specs.Sheet.{SheetEntry, words_of}
use Rattle.call_spec.specs.Calls.{SheetResult}
use Rattle.clear.specs.Clear.{Clear}
use Rattle.decoder.specs.Decode.{decode}

-- the names of a sheet's entries, in order
abbrev pub names : List ℕ → List (List ℕ)
names s = map (λ (t : Token). t.name) (tokens s)

-- "A sheet is made only of clear entries when all its names are clear; one without tokens is such a sheet too."
abbrev pub AllClear : List (List ℕ) → Type 0
AllClear = Every Clear

-- "A sentence starts at the entries for which the whole-text form's definition says so.": it says so for entry k, from 0
abbrev pub SentenceStartsAt : List ℕ → ℕ → Type 0
SentenceStartsAt s k = get_or (sentence_starts (tokens s)) k false ≡ true

-- equally many entries, the same names in the same order, and sentences starting at the same entries
pub record SameEntries (s t : List ℕ) : Type 0 where
  pub same_count : length (tokens s) ≡ length (tokens t)
  pub same_names : names s ≡ names t
  pub same_starts : (k : ℕ) → SentenceStartsAt s k ↔ SentenceStartsAt t k

-- "the lines that this call writes, first byte to last"
abbrev pub written_call_sheet : Call SheetResult → List ℕ
written_call_sheet r = take r.value.bytes r.value.buffer

-- ---- a call sheet taken apart

-- the lines of a call sheet, each without the LF that ends it
abbrev pub lines_in : List ℕ → List (List ℕ)
lines_in s = take (length (split (code "\n") s) - 1) (split (code "\n") s)

-- whether a line is marked as a sentence's start
abbrev pub starts_in : List ℕ → Bool
starts_in l = eqb (get_or l 0 0) (code "+")

-- the words of a line: they follow the line's mark, each after a space
abbrev pub words_in : List ℕ → List (List ℕ)
words_in l = drop 1 (split (code " ") (drop 1 l))

-- what a line says, and what the line of an entry is to say
pub record ParsedLine : Type 0 where
  pub starts : Bool
  pub words : List (List ℕ)

abbrev pub line_in : List ℕ → ParsedLine
line_in l = record { starts = starts_in l; words = words_in l }

abbrev pub expected_line : SheetEntry → ParsedLine
expected_line e = record { starts = e.starts; words = words_of e }

-- ---- no public promise is made of these

-- the entry that a line stands for, and the entries that a call sheet stands for
abbrev pub decode_line : List ℕ → SheetEntry
decode_line l = record { starts = starts_in l; name = decode (words_in l) }

abbrev pub decode_sheet : List ℕ → List SheetEntry
decode_sheet s = map decode_line (lines_in s)
