-- Document 01, "Token table and sentences": the token table, and the answer of a call that writes a fixed number of bytes for
-- each token. Definitions only.
use Rattle.std.specs.Prelude.{ℕ, zero, suc, ◌+◌, ltb, length, Result}
use mathlib.Core.List.{List, [], ◌∷◌, ◌++◌, flatten}
use Rattle.lists.specs.Bytes.{overwrite}
use Rattle.admit.specs.Refusals.{Test, ◌when◌, first_refusal, text_limit, text_tests, Call, call, answered}
use Rattle.admit.specs.declared.Refusal.{Refusal}
use Rattle.admit.specs.declared.Refusal.TheVariants.{BufferTooShort}
use Rattle.word_writer.specs.Words.{table_of, word_at}
use Rattle.tokens.specs.Tokens.{Token, tokens, token_parts}

-- how many bytes of its text a token takes, from its whitespace to its punctuation
abbrev pub token_size : Token → ℕ
token_size t = length (flatten (token_parts t))

-- "A token is four pairs of offset and length, sorted by offset": the record of a token that starts at the offset `at`.
-- "Each starts where the one before it ends, empty ones too."
unfoldable pub record_of : ℕ → Token → List ℕ
record_of at t = table_of at (token_parts t)

-- the records of tokens; the first token starts at the offset `at`
unfoldable pub records : ℕ → List Token → List ℕ
records at [] = []
records at (t ∷ ts) = record_of at t ++ records (at + token_size t) ts

-- the count of tokens, and the buffer's final bytes
pub record TokensResult : Type 0 where
  pub tokens : ℕ
  pub buffer : List ℕ

-- the tests of a call that is given the text s and writes `result` over `old`, in their order
abbrev pub tokens_tests : List ℕ → List ℕ → List ℕ → List Test
tokens_tests s result old = text_tests text_limit (s ∷ []) ++ BufferTooShort when ltb (length old) (length result) ∷ []

-- the call that is given the text s and writes `result` over `old`: "A refused call answers its number, with every count and
-- value 0 .. and writes nothing"; "bytes past the result stay"
unfoldable pub tokens_call : List ℕ → List ℕ → List ℕ → Call TokensResult
tokens_call s result old =
    call (record { tokens = 0; buffer = old })
    (first_refusal (tokens_tests s result old))
    (record { tokens = length (tokens s); buffer = overwrite result old })

-- an answer, with the buffer as the call leaves it
abbrev pub as_tokens : Result ℕ Refusal → List ℕ → Call TokensResult
as_tokens r buffer = answered (record { tokens = 0; buffer = buffer }) (λ n. record { tokens = n; buffer = buffer }) r

-- the call of `tokenize`, which writes the table over `old`
abbrev pub table_call : List ℕ → List ℕ → Call TokensResult
table_call s old = tokens_call s (records 0 (tokens s)) old

-- the parts of the text s that the first n pairs of a table name, joined
abbrev pub pairs_joined : ℕ → List ℕ → List ℕ → List ℕ
pairs_joined zero table s = []
pairs_joined (suc n) table s = pairs_joined n table s ++ word_at n table s

-- ---- no public promise is made of these

-- the bytes of a record
abbrev pub record_size : ℕ
record_size = 32

-- where a token ends that starts at the offset `at`
abbrev pub token_end : ℕ → Token → ℕ
token_end at t = at + length t.whitespace + length t.prepunctuation + length t.name + length t.punctuation
