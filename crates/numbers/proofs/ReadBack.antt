-- What a caller reads from the two buffers of a reading. Assumes nothing.
use mathlib.Core.Path.{◌≡◌}
use mathlib.Core.List.{List, [], ◌∷◌, flatten}
use Prim.Native.Nat.{ℕ, ◌<◌, ◌^◌}
use native.Mathlib.Omega.{arith}
use lib.ListN.{length, get_or}
use Rattle.admit.specs.Refusals.{◌when◌, text_limit, text_tests}
use Rattle.admit.specs.declared.Refusal.TheVariants.{BufferTooShort}
use Rattle.admit.proofs.Calls.{both_passed, text_valid}
use Rattle.word_writer.specs.Words.{word_at, WordsResult, too_short, words_call, PairIs}
use Rattle.word_writer.proofs.ReadBack.{none_held, counts_read, pairs_read, words_read}
use Rattle.numerals.specs.Words.{spelled}
use Rattle.numerals.proofs.Room.{room_counts}
use Rattle.numbers.specs.Calls.{words_as}
use Rattle.numbers.specs.declared.SayAs.{SayAs}
use Rattle.numbers.proofs.Bounds.{words_room}

-- a reading of the text s whose call is accepted
module _ (r : SayAs) (s store table : List ℕ) (accepted : (words_call s (spelled (words_as r s)) store table).refusal ≡ 0) where
  abbrev words : List (List ℕ)
  words = spelled (words_as r s)

  abbrev given : WordsResult
  given = (words_call s words store table).value

  -- every accepted text is so short that four bytes hold each offset
  short_store : length (flatten words) < 256 ^ 4
  short_store =
      let k = (both_passed (text_tests text_limit (s ∷ [])) (BufferTooShort when too_short words store table ∷ []) (none_held s words store table accepted)).0 in
      omega (arith, room_counts (words_room r s), (text_valid text_limit s k).within_limit)

  -- its counts are those of the words and of their bytes
  pub count_read : (given.words ≡ length words) × (given.bytes ≡ length (flatten words))
  count_read = counts_read s words store table accepted

  -- "with a table of pairs of offset and length sorted by offset, one pair a word"
  pub pair_read : (i : ℕ) → i < length words → PairIs 0 words given.table i
  pair_read i h = pairs_read s words store table accepted i h short_store

  -- "Words come back end to end in a byte store": word i is where its pair says
  pub word_read : (i : ℕ) → i < length words → word_at i given.table given.store ≡ get_or words i []
  word_read i h = words_read s words store table accepted i h short_store
