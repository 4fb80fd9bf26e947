-- Document 01, "Number words": what a call that gives words answers, and leaves in the lent buffers. Definitions only.
use Rattle.std.specs.Prelude.{◌≡◌, Bool, ◌||◌, ℕ, ◌+◌, ◌*◌, Result, ltb, length, take, drop, get_or}
use mathlib.Core.List.{List, [], ◌∷◌, ◌++◌, flatten}
use Rattle.lists.specs.Bytes.{overwrite}
use Rattle.lists.specs.LittleEndian.{le_value}
use Rattle.admit.specs.Refusals.{Test, ◌when◌, first_refusal, text_limit, text_tests, Call, call, answered}
use Rattle.admit.specs.declared.Refusal.{Refusal}
use Rattle.admit.specs.declared.Refusal.TheVariants.{BufferTooShort}
use Rattle.word_writer.specs.Writer.{pair_of, pair_size, Written}
use Rattle.word_writer.specs.declared.WordCounts.{WordCounts}

-- "with a table of pairs of offset and length sorted by offset, one pair a word"; the first word starts at `at`
unfoldable pub table_of : ℕ → List (List ℕ) → List ℕ
table_of at [] = []
table_of at (w ∷ ws) = pair_of at (length w) ++ table_of (at + length w) ws

-- the counts, and the two buffers' final bytes
pub record WordsResult : Type 0 where
  pub words : ℕ
  pub bytes : ℕ
  pub store : List ℕ
  pub table : List ℕ

-- "with every count and value 0", and "writes nothing"
abbrev pub no_words_result : List ℕ → List ℕ → WordsResult
no_words_result store table = record { words = 0; bytes = 0; store = store; table = table }

-- "Words come back end to end in a byte store", and "bytes past the result stay"
abbrev pub words_result : List (List ℕ) → List ℕ → List ℕ → WordsResult
words_result ws store table =
    record { words = length ws; bytes = length (flatten ws); store = overwrite (flatten ws) store; table = overwrite (table_of 0 ws) table }

-- "a lent output buffer is smaller than the whole result"
abbrev pub too_short_for : ℕ → ℕ → ℕ → ℕ → Bool
too_short_for bytes words store table = ltb store bytes || ltb table (pair_size * words)

abbrev pub too_short : List (List ℕ) → List ℕ → List ℕ → Bool
too_short ws store table = too_short_for (length (flatten ws)) (length ws) (length store) (length table)

-- the tests of the call that reads the text s as the words ws, in their order
abbrev pub words_tests : List ℕ → List (List ℕ) → List ℕ → List ℕ → List Test
words_tests s ws store table = text_tests text_limit (s ∷ []) ++ BufferTooShort when too_short ws store table ∷ []

-- the call that reads the text s as the words ws
unfoldable pub words_call : List ℕ → List (List ℕ) → List ℕ → List ℕ → Call WordsResult
words_call s ws store table =
    call (no_words_result store table)
    (first_refusal (words_tests s ws store table))
    (words_result ws store table)

-- an answer, with the buffers as the call leaves them
abbrev pub as_words : Result WordCounts Refusal → List ℕ → List ℕ → Call WordsResult
as_words r store table =
    answered (no_words_result store table) (λ counts. record { words = counts.words; bytes = counts.bytes; store = store; table = table }) r

-- ---- what a caller reads from a table and a store

-- number k of a table of four-byte numbers
abbrev pub number_at : ℕ → List ℕ → ℕ
number_at k table = le_value (take 4 (drop (4 * k) table))

-- the offset and the length in pair i of a table
abbrev pub offset_at : ℕ → List ℕ → ℕ
offset_at i table = number_at (2 * i) table

abbrev pub length_at : ℕ → List ℕ → ℕ
length_at i table = number_at (2 * i + 1) table

-- the bytes that pair i names
abbrev pub word_at : ℕ → List ℕ → List ℕ → List ℕ
word_at i table store = take (length_at i table) (drop (offset_at i table) store)

-- pair i of a table whose first word starts at `at`: its offset is `at` plus the bytes of the words before word i, its length is
-- the word's
pub record PairIs (at : ℕ) (ws : List (List ℕ)) (table : List ℕ) (i : ℕ) : Type 0 where
  pub offset : offset_at i table ≡ at + length (flatten (take i ws))
  pub size : length_at i table ≡ length (get_or ws i [])

-- ---- no public promise is made of these

-- what an accepted call answers if s is written at the end
abbrev pub counts_at : Written → WordCounts
counts_at s = record { words = s.words; bytes = s.at }
