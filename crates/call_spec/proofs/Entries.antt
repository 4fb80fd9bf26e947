-- The entries of a sheet, one by one. Assumes nothing.
use mathlib.Core.Path.{◌≡◌, refl, sym, ap, ◌∙◌}
use mathlib.Core.Bool.{Bool}
use mathlib.Core.List.{List, [], ◌∷◌, ◌++◌, map, flatten}
use Prim.Native.Nat.{ℕ, zero, suc, ◌+◌, ◌<◌}
use native.Mathlib.Omega.{arith}
use lib.ListN.{length, take, drop, get_or, length-map}
use Rattle.tokens.specs.Tokens.{Token, tokens}
use Rattle.tokens.proofs.Joined.{flatten_at}
use Rattle.sentences.specs.Sentences.{fresh, kept}
use Rattle.sentences.specs.declared.State.{State}
use Rattle.sentences.proofs.Kept.{sentence_starts_from, starts_from_fresh}
use Rattle.call_spec.specs.Sheet.{SheetEntry, entries_of, entries, words_of, line_of, lines, call_sheet, count_words, no_entry}
use Rattle.call_spec.specs.Calls.{entry_at, line_at}

-- there is an entry for each token
from_length : (st : State) (ts : List Token) → length (entries_of (sentence_starts_from st ts) ts) ≡ length ts
unfolding entries_of sentence_starts_from
from_length st [] = refl
from_length st (t ∷ ts) = ap suc (from_length (kept t.name t.punctuation) ts)

-- a sheet has as many entries as tokens
pub entries_length : (s : List ℕ) → length (entries s) ≡ length (tokens s)
entries_length s = ap (λ (bs : List Bool). length (entries_of bs (tokens s))) (sym (starts_from_fresh (tokens s))) ∙ from_length fresh (tokens s)

lines_at : (es : List SheetEntry) (k : ℕ) → k < length es → get_or (map line_of es) k [] ≡ line_of (get_or es k no_entry)
lines_at [] k h = absurd (omega arith)
lines_at (e ∷ es) zero h = refl
lines_at (e ∷ es) (suc k) h = lines_at es k (omega arith)

-- line k is the line of entry k, if there is such an entry
pub line_at_lem : (s : List ℕ) (k : ℕ) → k < length (tokens s) → line_at s k ≡ line_of (entry_at s k)
line_at_lem s k h = lines_at (entries s) k (omega (arith, entries_length s))

-- the count of words is that of the entries before entry k, its own, and that of the entries after it
words_at : (es : List SheetEntry) (k : ℕ) → k < length es
    → count_words es ≡ count_words (take k es) + (length (words_of (get_or es k no_entry)) + count_words (drop (suc k) es))
unfolding count_words
words_at [] k h = absurd (omega arith)
words_at (e ∷ es) zero h = omega arith
words_at (e ∷ es) (suc k) h = omega (arith, words_at es k (omega arith))

-- the call sheet and the count of words, split at entry k
pub sheet_at : (s : List ℕ) (k : ℕ) → k < length (tokens s)
    → (call_sheet s ≡ flatten (take k (lines s)) ++ (line_at s k ++ flatten (drop (suc k) (lines s))))
    × (count_words (entries s) ≡ count_words (take k (entries s)) + (length (words_of (entry_at s k)) + count_words (drop (suc k) (entries s))))
sheet_at s k h =
    let n = entries_length s in
    (flatten_at (lines s) k (omega (arith, length-map (entries s) line_of)), words_at (entries s) k (omega arith))
