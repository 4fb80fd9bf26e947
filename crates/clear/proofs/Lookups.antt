-- The first rows of the units, and the words of the tables by number. Each is a test that antt computes for every number.
-- Assumes nothing.
use mathlib.Core.Path.{◌≡◌, refl, sym, ◌∙◌}
use mathlib.Core.Bool.{Bool, true, false, cond, not, ◌&&◌, ◌||◌}
use mathlib.Core.List.{List, [], ◌∷◌, ◌++◌, map}
use mathlib.Core.Logic.{⊎_elim}
use Prim.Native.Nat.{ℕ, zero, suc, ◌-◌, ◌≤◌, ◌<◌}
use native.Mathlib.Omega.{arith}
use lib.Dec.{ltb, eqb}
use lib.ListN.{length, get_or, get_or-eq_default}
use borrow.Author.Tests.{le-ltb, not-true}
use Rattle.std.specs.Prelude.{Option, Some, None}
use Rattle.std.specs.List.{list_any, range_with_len}
use Rattle.std.specs.Option.{MatchOption}
use Rattle.lists.specs.Bytes.{any, same, listed}
use Rattle.lists.proofs.Sets.{le_or_lt}
use Rattle.lists.proofs.Table.{below}
use Rattle.vocabulary.specs.Vocabulary.{word_of}
use Rattle.vocabulary.proofs.Laws.{unfold_vocabulary}
use Rattle.units.specs.Units.{unit_abbreviations, abbreviations, unit_words, index_of, word_numbers, is_unit, unit_index, unit_row, unit_word}
use Rattle.units.proofs.Laws.{listed_index_of}
use Rattle.clear.specs.Clear.{table_words}
use Rattle.clear.specs.Test.{is_first_abbreviation}

-- two tests agree
agree : (a b : Bool) → cond a b (not b) ≡ true → a ≡ b
agree true b t = sym t
agree false b t = sym (not-true b t)

-- there is a row k, and it is the first with its word
abbrev is_first_at : ℕ → Bool
is_first_at k = ltb k (length abbreviations) && eqb (index_of (get_or unit_words k []) unit_words) k

-- the number of row k's word is larger than that of the row before; 0 past the last row
abbrev new_word : ℕ → Bool
new_word k = ltb (get_or word_numbers (k - 1) 0) (get_or word_numbers k 0)

-- row 0 is the first row with its word
pub first_zero : true ≡ is_first_at 0
unfolding unfold_vocabulary index_of unit_words abbreviations unit_abbreviations
first_zero = refl

first_agrees : ℕ → Bool
first_agrees k = cond (new_word (suc k)) (is_first_at (suc k)) (not (is_first_at (suc k)))

-- any other row: rows with the same word stand together, and the words are in the vocabulary's order
pub first_at : (k : ℕ) → (k ≡ 0 → ⊥) → new_word k ≡ is_first_at k
unfolding first_agrees unfold_vocabulary word_numbers index_of unit_words abbreviations unit_abbreviations
first_at zero h = absurd (h refl)
first_at (suc k) h =
    ⊎_elim (λ (g : 21 ≤ k). rw (
      le-ltb (suc k) 22 (omega arith),
      get_or-eq_default word_numbers 0 {n = suc k} (omega arith),
      le-ltb (get_or word_numbers (suc k - 1) 0) 0 (omega arith),
    ))
    (λ (g : k < 21). agree (new_word (suc k)) (is_first_at (suc k)) (below first_agrees 21 refl k g)) (le_or_lt 21 k)

-- a text is the first abbreviation of its word exactly if it has a row, and the row is the first with its word
pub first_of_row : (u : List ℕ) {o : Option ℕ} {r : Bool} {Q : ℕ → Type 0} → o ≡ unit_row u → MatchOption o (r ≡ false) Q
    → ((k : ℕ) → Q k → r ≡ is_first_at k) → r ≡ is_first_abbreviation u
unfolding unit_row
first_of_row u {o} {r} {Q} e m h = go (is_unit u) refl (rw e at m)
  where
    go : (t : Bool) → is_unit u ≡ t → MatchOption (cond t (Some (unit_index u)) None) (r ≡ false) Q
        → r ≡ t && eqb (index_of (unit_word u) unit_words) (unit_index u)
    go true l m = h (unit_index u) m ∙ rw (← listed_index_of u abbreviations, l)
    go false l m = m

-- a test of some numbers, in any order of the last three
any_reversed : (p : ℕ → Bool) (ks : List ℕ) (a b c : ℕ) → list_any p (ks ++ (a ∷ b ∷ c ∷ [])) ≡ list_any p (ks ++ (c ∷ b ∷ a ∷ []))
any_reversed p [] a b c = go (p a) (p b) (p c)
  where
    go : (x y z : Bool) → (x || (y || (z || false))) ≡ (z || (y || (x || false)))
    go true true true = refl
    go true true false = refl
    go true false true = refl
    go true false false = refl
    go false true true = refl
    go false true false = refl
    go false false true = refl
    go false false false = refl
any_reversed p (k ∷ ks) a b c = rw (any_reversed p ks a b c)

-- a test of the words of some numbers
any_word : (s : List ℕ) (ks : List ℕ) → list_any (λ k. same (word_of k) s) ks ≡ listed s (map word_of ks)
unfolding any
any_word s [] = refl
any_word s (k ∷ ks) = rw (any_word s ks)

-- the tables of numbers.rs have the words of these numbers
pub table_word : (s : List ℕ)
    → list_any (λ k. same (word_of k) s) ((range_with_len 16 30 ++ range_with_len 50 30) ++ range_with_len 47 3) ≡ listed s table_words
unfolding unfold_vocabulary table_words
table_word s =
    any_reversed (λ k. same (word_of k) s) (range_with_len 16 30 ++ range_with_len 50 30) 47 48 49
    ∙ any_word s ((range_with_len 16 30 ++ range_with_len 50 30) ++ (49 ∷ 48 ∷ 47 ∷ []))
