-- How the words are computed, and how long they are. Assumes nothing.
use mathlib.Core.Path.{◌≡◌, refl}
use mathlib.Core.Bool.{Bool}
use mathlib.Core.List.{[]}
use mathlib.Core.Logic.{⊎_elim}
use Prim.Native.Nat.{ℕ, ◌<◌, ◌≤◌}
use native.Mathlib.Omega.{arith}
use lib.Dec.{leb}
use lib.ListN.{length, get_or-eq_default}
use borrow.Author.Tests.{leb-true}
use Rattle.lists.specs.Bytes.{same_by}
use Rattle.lists.proofs.Sets.{le_or_lt}
use Rattle.lists.proofs.Table.{below}
use Rattle.vocabulary.specs.Vocabulary.{unit_vocabulary, ones, teens, tens, scales, ordinal_ones, ordinal_teens, ordinal_tens, ordinal_scales, others, cardinals, ordinals, vocabulary, word_of}

-- all that is unfolded to compute the words
unfoldable pub unfold_vocabulary : Unit {0}
unfolding unit_vocabulary ones teens tens scales ordinal_ones ordinal_teens ordinal_tens ordinal_scales others cardinals ordinals vocabulary word_of same_by
unfold_vocabulary = tt

-- past the last word there is none
pub no_word : (k : ℕ) → length vocabulary ≤ k → word_of k ≡ []
unfolding word_of vocabulary unit_vocabulary ones teens tens scales ordinal_ones ordinal_teens ordinal_tens ordinal_scales others cardinals ordinals
no_word k h = get_or-eq_default vocabulary [] {n = k} h

is_short_word : ℕ → Bool
is_short_word k = leb (length (word_of k)) 11

-- no word has more than 11 bytes
pub word_short : (k : ℕ) → length (word_of k) ≤ 11
unfolding is_short_word unfold_vocabulary
word_short k =
    ⊎_elim (λ (h : length vocabulary ≤ k). rw (no_word k h) (omega arith))
    (λ (h : k < length vocabulary). leb-true (length (word_of k)) 11 (below is_short_word (length vocabulary) refl k h))
    (le_or_lt (length vocabulary) k)
