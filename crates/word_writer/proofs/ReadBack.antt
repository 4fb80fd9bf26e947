-- What a caller reads from the two buffers: each word stands where its pair says. Assumes nothing.
use mathlib.Core.Path.{◌≡◌, refl, sym, ap, ◌∙◌}
use mathlib.Core.List.{List, [], ◌∷◌, ◌++◌, append_assoc, flatten}
use Prim.Native.Nat.{ℕ, zero, suc, ◌+◌, ◌*◌, ◌^◌, ◌<◌}
use native.Mathlib.Nat.{add-zero, zero-add}
use native.Mathlib.Omega.{arith}
use lib.ListN.{length, take, drop, get_or, length-append}
use lib.Seq.{take-append_seam, drop-append-add}
use Rattle.lists.specs.LittleEndian.{le_value, le_bytes}
use Rattle.lists.proofs.LittleEndian.{le_bytes_value}
use Rattle.admit.specs.Refusals.{first_refusal, call}
use Rattle.admit.proofs.Calls.{call_number}
use Rattle.word_writer.specs.Writer.{pair_of}
use Rattle.word_writer.specs.Words.{table_of, number_at, word_at, PairIs, WordsResult, no_words_result, words_result, words_tests, words_call}

-- the numbers after a pair
after_pair : (a b : ℕ) (t : List ℕ) (k j : ℕ) → j ≡ 2 + k → number_at j (pair_of a b ++ t) ≡ number_at k t
unfolding pair_of le_bytes
after_pair a b t k j e =
    let q : 4 * j ≡ 8 + 4 * k = omega arith in
    rw q (ap (λ (l : List ℕ). le_value (take 4 l)) (drop-append-add (pair_of a b) t (4 * k)))

-- pair i is right, whatever follows the table
pub pair_from : (at : ℕ) (ws : List (List ℕ)) (u : List ℕ) (i : ℕ) → i < length ws → at + length (flatten ws) < 256 ^ 4 → PairIs at ws (table_of at ws ++ u) i
unfolding flatten table_of pair_of le_bytes
pair_from at [] u i h l = absurd (omega arith)
pair_from at (w ∷ ws) u zero h l =
    let n = length-append w (flatten ws) in
    record { offset = le_bytes_value 4 at (omega arith) ∙ sym (add-zero at); size = le_bytes_value 4 (length w) (omega arith) }
pair_from at (w ∷ ws) u (suc i) h l =
    let n = length-append w (flatten ws) in
    let m = length-append w (flatten (take i ws)) in
    let t = table_of (at + length w) ws ++ u in
    let r = pair_from (at + length w) ws u i (omega arith) (omega arith) in
    record {
      offset = after_pair at (length w) t (2 * i) (2 * suc i) (omega arith) ∙ r.offset ∙ omega arith;
      size = after_pair at (length w) t (2 * i + 1) (2 * suc i + 1) (omega arith) ∙ r.size;
    }

-- word i stands after the words before it, whatever follows the words
word_in : (ws : List (List ℕ)) (v : List ℕ) (i : ℕ) → i < length ws
    → take (length (get_or ws i [])) (drop (length (flatten (take i ws))) (flatten ws ++ v)) ≡ get_or ws i []
unfolding flatten
word_in [] v i h = absurd (omega arith)
word_in (w ∷ ws) v zero h = rw (append_assoc w (flatten ws) v) (take-append_seam w (flatten ws ++ v))
word_in (w ∷ ws) v (suc i) h =
    rw (append_assoc w (flatten ws) v, length-append w (flatten (take i ws)), drop-append-add w (flatten ws ++ v) (length (flatten (take i ws))))
    (word_in ws v i (omega arith))

-- the bytes that pair i names are word i, whatever follows table and store
pub word_from : (ws : List (List ℕ)) (u v : List ℕ) (i : ℕ) → i < length ws → length (flatten ws) < 256 ^ 4
    → word_at i (table_of 0 ws ++ u) (flatten ws ++ v) ≡ get_or ws i []
word_from ws u v i h l =
    let p = pair_from 0 ws u i h (omega arith) in
    rw (p.offset, p.size, zero-add (length (flatten (take i ws)))) (word_in ws v i h)

-- ---- the call that reads the text s as the words ws, if it is accepted

module _ (s : List ℕ) (ws : List (List ℕ)) (store table : List ℕ) (accepted : (words_call s ws store table).refusal ≡ 0) where
  abbrev given : WordsResult
  given = (words_call s ws store table).value

  -- none of its tests holds
  pub none_held : first_refusal (words_tests s ws store table) ≡ 0
  unfolding words_call
  none_held = sym (call_number _ _ (first_refusal (words_tests s ws store table))) ∙ accepted

  result_written : given ≡ words_result ws store table
  unfolding words_call
  result_written = ap (λ (n : ℕ). (call (no_words_result store table) n (words_result ws store table)).value) none_held

  -- its counts are those of the words and of their bytes
  pub counts_read : (given.words ≡ length ws) × (given.bytes ≡ length (flatten ws))
  counts_read = rw result_written (refl, refl)

  -- "Words come back end to end", the pairs "sorted by offset, one pair a word": pair i has the length of the words before word
  -- i, and that of word i
  pub pairs_read : (i : ℕ) → i < length ws → length (flatten ws) < 256 ^ 4 → PairIs 0 ws given.table i
  pairs_read i h l = rw result_written (pair_from 0 ws (drop (length (table_of 0 ws)) table) i h (omega arith))

  -- and word i stands where the pair says, whatever stands past the result
  pub words_read : (i : ℕ) → i < length ws → length (flatten ws) < 256 ^ 4 → word_at i given.table given.store ≡ get_or ws i []
  words_read i h l = rw result_written (word_from ws (drop (length (table_of 0 ws)) table) (drop (length (flatten ws)) store) i h l)
