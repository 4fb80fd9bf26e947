-- Document 01, "Call sheet": the lines of a sheet's entries. Definitions only.
use Rattle.std.specs.Prelude.{Bool, false, cond, ℕ, ◌+◌, length}
use mathlib.Core.List.{List, [], ◌∷◌, ◌++◌, map, flatten}
use Prim.Native.Char.{code}
use Rattle.lists.specs.Bytes.{bytes}
use Rattle.numerals.specs.Words.{spelled}
use Rattle.tokens.specs.Tokens.{Token, tokens}
use Rattle.sentences.specs.Sentences.{sentence_starts}
use Rattle.rows.specs.Rows.{read}

-- "an entry is a token": its name, and whether it starts a sentence
pub record SheetEntry : Type 0 where
  pub starts : Bool
  pub name : List ℕ

-- the names of the tokens, each with whether it starts a sentence
unfoldable pub entries_of : List Bool → List Token → List SheetEntry
entries_of [] ts = []
entries_of (b ∷ bs) [] = []
entries_of (b ∷ bs) (t ∷ ts) = record { starts = b; name = t.name } ∷ entries_of bs ts

-- the entries of a sheet
abbrev pub entries : List ℕ → List SheetEntry
entries s = entries_of (sentence_starts (tokens s)) (tokens s)

-- the words that an entry is called with
abbrev pub words_of : SheetEntry → List (List ℕ)
words_of e = spelled (read e.name).words

-- `"+" if it starts a sentence, else "-"`
abbrev pub mark : Bool → ℕ
mark b = cond b (code "+") (code "-")

-- "then a space and the word for each word"
unfoldable pub spaced_words : List (List ℕ) → List ℕ
spaced_words [] = []
spaced_words (w ∷ ws) = bytes " " ++ (w ++ spaced_words ws)

-- "A token makes one line"; "then LF"
unfoldable pub line_of : SheetEntry → List ℕ
line_of e = (mark e.starts ∷ []) ++ (spaced_words (words_of e) ++ bytes "\n")

-- "all lines in order"
abbrev pub lines : List ℕ → List (List ℕ)
lines s = map line_of (entries s)

-- the call sheet of a sheet: its lines end to end. "No header."
abbrev pub call_sheet : List ℕ → List ℕ
call_sheet s = flatten (lines s)

-- "the count of words"
unfoldable pub count_words : List SheetEntry → ℕ
count_words [] = 0
count_words (e ∷ es) = length (words_of e) + count_words es

-- the entry that stands in if there is none
abbrev pub no_entry : SheetEntry
no_entry = record { starts = false; name = [] }
