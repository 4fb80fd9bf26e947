-- The digits of a text one by one, and the steps that read a year. Assumes nothing.
use mathlib.Core.Path.{◌≡◌, refl, ap, ◌∙◌}
use mathlib.Core.Bool.{Bool, true, false, cond, not, ◌&&◌}
use mathlib.Core.Logic.{⊎_elim}
use mathlib.Core.List.{List, [], ◌∷◌, ◌++◌, map}
use Prim.Native.Nat.{ℕ, suc, ◌+◌, ◌-◌, ◌%◌, ◌≤◌, ◌<◌}
use native.Mathlib.Numerals.{add-one}
use native.Mathlib.Omega.{arith}
use lib.Dec.{leb, eqb}
use lib.ListN.{length, take, drop, get_or, length-drop, drop_of_length-le, get_or-eq_default}
use borrow.Author.Tests.{ne_eqb, lt-leb, leb-false, eqb-true, eqb-false}
use Rattle.lists.specs.Bytes.{bytes, span, count_if, filter_if}
use Rattle.lists.specs.Classes.{digit, non_digit}
use Rattle.lists.proofs.Recursion.{Local, recur_eq}
use Rattle.lists.proofs.Sets.{le_or_lt}
use Rattle.vocabulary.specs.Vocabulary.{word_of, others_at}
use Rattle.vocabulary.proofs.Laws.{unfold_vocabulary}
use Rattle.numerals.specs.Words.{Word, one, hundred, other, spelled}
use Rattle.numerals.specs.Cardinal.{digit_value, digit_values, pair_words, short_cardinal, cardinal_of}
use Rattle.numerals.proofs.Digits.{spelled_append}
use Rattle.numerals.proofs.Cardinal.{cardinal_2}
use Rattle.years.specs.Year.{year_step, year_of, year}
use Rattle.years.specs.Walk.{lead_count, lead_words}

-- the first digit of a text stands after the bytes at its front that are no digits
digit_values_some : (s : List ℕ) → span non_digit s < length s → digit_values s ≡ digit_value (get_or s (span non_digit s) 0) ∷ digit_values (drop (span non_digit s + 1) s)
unfolding digit_values filter_if span
digit_values_some [] h = absurd (omega arith)
digit_values_some (b ∷ s) h = go (digit b) h (digit_values_some s)
  where
    go : (t : Bool) → cond (not t) (suc (span non_digit s)) 0 < suc (length s)
        → (span non_digit s < length s → digit_values s ≡ digit_value (get_or s (span non_digit s) 0) ∷ digit_values (drop (span non_digit s + 1) s))
        → map digit_value (cond t (b ∷ filter_if digit s) (filter_if digit s)) ≡ digit_value
        (get_or (b ∷ s) (cond (not t) (suc (span non_digit s)) 0) 0) ∷ digit_values (drop (cond (not t) (suc (span non_digit s)) 0 + 1) (b ∷ s))
    go true h i = refl
    go false h i = i (omega arith) ∙ simp add-one

digit_values_none : (s : List ℕ) → length s ≤ span non_digit s → digit_values s ≡ []
unfolding digit_values filter_if span
digit_values_none [] h = refl
digit_values_none (b ∷ s) h = go (digit b) h (digit_values_none s)
  where
    go : (t : Bool) → suc (length s) ≤ cond (not t) (suc (span non_digit s)) 0 → (length s ≤ span non_digit s → digit_values s ≡ [])
        → map digit_value (cond t (b ∷ filter_if digit s) (filter_if digit s)) ≡ []
    go true h i = absurd (omega arith)
    go false h i = i (omega arith)

-- a text has as many values as bytes that are digits
pub digit_values_count : (s : List ℕ) → length (digit_values s) ≡ count_if digit s
unfolding digit_values filter_if count_if
digit_values_count [] = refl
digit_values_count (b ∷ s) = go (digit b) (digit_values_count s)
  where
    go : (t : Bool) → length (digit_values s) ≡ count_if digit s
        → length (map digit_value (cond t (b ∷ filter_if digit s) (filter_if digit s))) ≡ cond t (suc (count_if digit s)) (count_if digit s)
    go true e = ap suc e
    go false e = e

-- what `pick` answers: the first digit, and what follows it
pub picked : (s : List ℕ) {i : ℕ} → i ≡ span non_digit s
    → (digit_value (get_or s i 0) ≡ get_or (digit_values s) 0 0) × (digit_values (drop (i + 1) s) ≡ drop 1 (digit_values s))
unfolding digit_values filter_if
picked s {i} e =
    ⊎_elim
    (λ (h : length s ≤ i).
    let n : digit_values s ≡ [] = digit_values_none s (omega arith) in
    rw (n, get_or-eq_default s 0 h, drop_of_length-le s (let k : length s ≤ i + 1 = omega arith in k)) (refl, refl))
    (λ (h : i < length s). let d = digit_values_some s (omega arith) in rw (d, e) (refl, refl))
    (le_or_lt (length s) i)

year_local : Local year_step
unfolding year_step
year_local f g s h = go (leb (length s) 2) refl
  where
    go : (t : Bool) → leb (length s) 2 ≡ t → year_step f s ≡ year_step g s
    go true e = rw e
    go false e = let n = leb-false (length s) 2 e in rw (h (drop 1 s) (simp length-drop (omega arith)), h (drop 2 s) (simp length-drop (omega arith)))

year_eq : (s : List ℕ) → year_of s ≡ year_step year_of s
unfolding year_of
year_eq s = recur_eq [] year_step year_local s

-- a year of at most one digit
pub year_short : (s : List ℕ) → length s ≤ 1 → year_of s ≡ short_cardinal s
unfolding year_step cardinal_of
year_short [] h = year_eq []
year_short (a ∷ []) h = year_eq (a ∷ [])
year_short (a ∷ b ∷ s) h = absurd (omega arith)

-- a year of two digits
pub year_two : (a b : ℕ) → year_of (a ∷ b ∷ []) ≡ cond (eqb a 0) (cond (eqb b 0) (one 0 ∷ one 0 ∷ []) (other (bytes "oh") ∷ one b ∷ [])) (pair_words a b)
unfolding year_step cardinal_of
year_two a b = year_eq (a ∷ b ∷ []) ∙ rw (cardinal_2 (a ∷ b ∷ []) refl) (go (eqb a 0) (eqb b 0))
  where
    go : (t u : Bool)
        → cond (t && u) (one 0 ∷ one 0 ∷ []) (cond t (other (bytes "oh") ∷ one b ∷ []) (pair_words a b)) ≡ cond t
        (cond u (one 0 ∷ one 0 ∷ []) (other (bytes "oh") ∷ one b ∷ [])) (pair_words a b)
    go true true = refl
    go true false = refl
    go false u = refl

-- a year of three digits
pub year_three : (a b c : ℕ) → year_of (a ∷ b ∷ c ∷ []) ≡ cond (not (eqb a 0) && (eqb b 0 && eqb c 0)) (one a ∷ hundred ∷ []) (one a ∷ year_of (b ∷ c ∷ []))
unfolding year_step
year_three a b c = year_eq (a ∷ b ∷ c ∷ [])

-- a year of four digits
pub year_four : (s : List ℕ) → length s ≡ 4 → {b c d : ℕ} → b ≡ get_or s 1 0 → c ≡ get_or s 2 0 → d ≡ get_or s 3 0
    → year_of s ≡ cond (eqb b 0 && eqb c 0) (short_cardinal s) (short_cardinal (take 2 s) ++ cond (eqb c 0 && eqb d 0) (hundred ∷ []) (year_of (drop 2 s)))
unfolding year_step cardinal_of
year_four [] h p q r = absurd (omega arith)
year_four (a ∷ []) h p q r = absurd (omega arith)
year_four (a ∷ b ∷ []) h p q r = absurd (omega arith)
year_four (a ∷ b ∷ c ∷ []) h p q r = absurd (omega arith)
year_four (a ∷ b ∷ c ∷ d ∷ e ∷ s) h p q r = absurd (omega arith)
year_four (a ∷ b ∷ c ∷ d ∷ []) h p q r =
    rw (p, q, r) (year_eq (a ∷ b ∷ c ∷ d ∷ [])
    ∙ go (eqb b 0) (eqb c 0) (eqb d 0) (short_cardinal (a ∷ b ∷ c ∷ d ∷ [])) (short_cardinal (a ∷ b ∷ [])) (year_of (c ∷ d ∷ [])))
  where
    go : (t u v : Bool) (ws fs ls : List Word)
        → cond (u && v) (cond t ws (fs ++ hundred ∷ [])) (cond (t && u) ws (fs ++ ls)) ≡ cond (t && u) ws
        (fs ++ cond (u && v) (hundred ∷ []) ls)
    go true true true ws fs ls = refl
    go true true false ws fs ls = refl
    go true false v ws fs ls = refl
    go false true true ws fs ls = refl
    go false true false ws fs ls = refl
    go false false v ws fs ls = refl

-- a year of more than four digits: one digit first if their count is odd, else a pair
year_long : (s : List ℕ) (n : ℕ) → n ≡ length s → 4 < n → year_of s ≡ lead_words (eqb (n % 2) 1) s ++ year_of (drop (lead_count (eqb (n % 2) 1)) s)
unfolding year_step cardinal_of
year_long [] n e h = absurd (omega arith)
year_long (a ∷ []) n e h = absurd (omega arith)
year_long (a ∷ b ∷ s) n e h =
    year_eq (a ∷ b ∷ s)
    ∙ rw (
      cardinal_2 (a ∷ b ∷ []) refl,
      ← e,
      ne_eqb n 4 (λ k. omega arith),
      ne_eqb n 3 (λ k. omega arith),
      ne_eqb n 2 (λ k. omega arith),
      lt-leb n 2 (omega arith),
    )
    (go (eqb (n % 2) 1))
  where
    go : (t : Bool) → cond t (one a ∷ year_of (b ∷ s)) (pair_words a b ++ year_of s) ≡ lead_words t (a ∷ b ∷ s) ++ year_of (drop (lead_count t) (a ∷ b ∷ s))
    go true = refl
    go false = refl

lead_count_lem : (n : ℕ) → lead_count (eqb (n % 2) 1) ≡ 2 - n % 2
lead_count_lem n = go (eqb (n % 2) 1) refl
  where
    go : (t : Bool) → eqb (n % 2) 1 ≡ t → lead_count t ≡ 2 - n % 2
    go true e = omega (arith, eqb-true (n % 2) 1 e)
    go false e = let k = eqb-false (n % 2) 1 e in omega arith

-- "oh" in the vocabulary
pub oh_word : word_of others_at ≡ bytes "oh"
unfolding unfold_vocabulary
oh_word = refl

-- two digits
pub two_words : (s : List ℕ) → length s ≡ 2
    → year_of s ≡ cond (eqb (get_or s 0 0) 0) (cond (eqb (get_or s 1 0) 0) (one 0 ∷ one 0 ∷ []) (other (bytes "oh") ∷ one (get_or s 1 0) ∷ [])) (short_cardinal s)
two_words [] h = absurd (omega arith)
two_words (a ∷ []) h = absurd (omega arith)
two_words (a ∷ b ∷ []) h = rw (cardinal_2 (a ∷ b ∷ []) refl) (year_two a b)
two_words (a ∷ b ∷ c ∷ s) h = absurd (omega arith)

-- three digits: the first one, and "hundred" or the others
pub three_words : (s : List ℕ) → length s ≡ 3
    → year_of s ≡ one (get_or s 0 0) ∷ cond (not (eqb (get_or s 0 0) 0) && (eqb (get_or s 1 0) 0 && eqb (get_or s 2 0) 0)) (hundred ∷ []) (year_of (drop 1 s))
three_words [] h = absurd (omega arith)
three_words (a ∷ []) h = absurd (omega arith)
three_words (a ∷ b ∷ []) h = absurd (omega arith)
three_words (a ∷ b ∷ c ∷ []) h = year_three a b c ∙ go (not (eqb a 0) && (eqb b 0 && eqb c 0))
  where
    go : (t : Bool) → cond t (one a ∷ hundred ∷ []) (one a ∷ year_of (b ∷ c ∷ [])) ≡ one a ∷ cond t (hundred ∷ []) (year_of (b ∷ c ∷ []))
    go true = refl
    go false = refl
three_words (a ∷ b ∷ c ∷ d ∷ s) h = absurd (omega arith)

-- one or two digits are read of those of s; t follows them
module _ (s t : List ℕ) (left : ℕ) (e : left ≡ length (digit_values s)) (d : digit_values t ≡ drop (lead_count (eqb (left % 2) 1)) (digit_values s)) where
  -- the count of those that are left
  pub left_after : left - (2 - left % 2) ≡ length (digit_values t)
  left_after = rw d (simp length-drop (omega (arith, lead_count_lem left)))

  -- the words of those that are read, and those of what is left
  pub year_at : 4 < left → spelled (year s) ≡ spelled (lead_words (eqb (left % 2) 1) (digit_values s)) ++ spelled (year t)
  unfolding year
  year_at h = ap spelled (year_long (digit_values s) left e h) ∙ rw (spelled_append, d)
