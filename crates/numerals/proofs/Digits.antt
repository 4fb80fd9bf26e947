-- The digits of a text, byte by byte. Assumes nothing.
use mathlib.Core.Path.{◌≡◌, refl, sym, ap, ◌∙◌}
use mathlib.Core.Bool.{Bool, true, false, cond, not, and-eq-true_iff}
use mathlib.Core.List.{List, [], ◌∷◌, ◌++◌, map, map-append, append_assoc}
use Prim.Native.Nat.{ℕ, suc, ◌+◌, ◌-◌, ◌≤◌, ◌<◌}
use native.Mathlib.Omega.{arith}
use lib.Dec.{eqb}
use lib.ListN.{length, get_or, take, drop}
use borrow.Author.Tests.{le-leb, eqb-true, eqb-false}
use Rattle.lists.specs.Bytes.{bytes, all, filter_if, after_last}
use Rattle.lists.specs.Classes.{digit, except}
use Rattle.lists.proofs.Scan.{filter_if_append, ByParts, next_byte}
use Rattle.numerals.specs.Words.{Word, one, spell, spelled}
use Rattle.numerals.specs.Cardinal.{digit_values, digit_value, digits}

-- a byte at the front
digit_values_cons : (b : ℕ) (s : List ℕ) → digit_values (b ∷ s) ≡ cond (digit b) (digit_value b ∷ digit_values s) (digit_values s)
unfolding digit_values filter_if
digit_values_cons b s = go (digit b)
  where
    go : (t : Bool)
        → map digit_value (cond t (b ∷ filter_if digit s) (filter_if digit s)) ≡ cond t (digit_value b ∷ map digit_value (filter_if digit s))
        (map digit_value (filter_if digit s))
    go true = refl
    go false = refl

-- the digits of two texts, one after the other
pub digit_values_append : ByParts digit_values
unfolding digit_values
digit_values_append s t = ap (map digit_value) (filter_if_append digit s t) ∙ map-append digit_value (filter_if digit s) (filter_if digit t)

-- the digits from byte i on: that byte, if it is a digit, and the digits from the next byte on
pub digit_values_at : (s : List ℕ) (i : ℕ) → i < length s → digit_values (drop i s) ≡ digit_values (get_or s i 0 ∷ []) ++ digit_values (drop (i + 1) s)
digit_values_at = next_byte digit_values digit_values_append

-- digits have a value each
pub digit_values_count : (s : List ℕ) → all digit s ≡ true → length (digit_values s) ≡ length s
unfolding all digit_values filter_if
digit_values_count [] h = refl
digit_values_count (b ∷ s) h = let k = (and-eq-true_iff (digit b) (all digit s)).0 h in rw k.0 (ap suc (digit_values_count s k.1))

-- a byte that is a digit gives its value
pub digit_values_digit : (b : ℕ) → 48 ≤ b → b ≤ 57 → digit_values (b ∷ []) ≡ digit_value b ∷ []
unfolding digit_values filter_if
digit_values_digit b h k = rw (le-leb 48 b h, le-leb b 57 k)

-- a byte that is no digit gives no value
pub digit_values_not : (b : ℕ) → digit b ≡ false → digit_values (b ∷ []) ≡ []
unfolding digit_values filter_if
digit_values_not b e = rw e

-- two lists of words are spelled one after the other
pub spelled_append : (ws vs : List Word) → spelled (ws ++ vs) ≡ spelled ws ++ spelled vs
unfolding spelled
spelled_append ws vs = map-append spell ws vs

-- the words of the digits of two texts, one after the other
pub digits_append : ByParts (λ t. spelled (digits t))
unfolding digits
digits_append s t = rw (digit_values_append s t, map-append one (digit_values s) (digit_values t)) (spelled_append _ _)

no_digit_values : digit_values [] ≡ []
unfolding digit_values filter_if
no_digit_values = refl

-- an empty text has no digits to say
pub no_digits : spelled (digits []) ≡ []
unfolding digits digit_values filter_if spelled
no_digits = refl

-- without its commas a text has the same digits
pub digit_values_commas : (s : List ℕ) → digit_values (filter_if (except 44) s) ≡ digit_values s
unfolding digit_values filter_if
digit_values_commas [] = refl
digit_values_commas (b ∷ s) = go (eqb b 44) refl (digit_values_commas s) ∙ sym (digit_values_cons b s)
  where
    go : (t : Bool) → eqb b 44 ≡ t → digit_values (filter_if (except 44) s) ≡ digit_values s
        → digit_values (cond (not t) (b ∷ filter_if (except 44) s) (filter_if (except 44) s)) ≡ cond (digit b) (digit_value b ∷ digit_values s) (digit_values s)
    go true e r = r ∙ rw (eqb-true b 44 e)
    go false e r = digit_values_cons b (filter_if (except 44) s) ∙ rw r

-- ---- the last digit

no_last_digit : (s : List ℕ) → after_last digit s ≡ 0 → digit_values s ≡ []
unfolding after_last
no_last_digit [] e = no_digit_values
no_last_digit (b ∷ s) e = go (digit b) (eqb (after_last digit s) 0) refl refl e (no_last_digit s)
  where
    go : (t u : Bool) → digit b ≡ t → eqb (after_last digit s) 0 ≡ u → cond u (cond t 1 0) (suc (after_last digit s)) ≡ 0
        → (after_last digit s ≡ 0 → digit_values s ≡ []) → digit_values (b ∷ s) ≡ []
    go true true d z e r = absurd (omega arith)
    go false true d z e r = digit_values_cons b s ∙ rw d (r (eqb-true (after_last digit s) 0 z))
    go t false d z e r = absurd (omega arith)

-- the digits of a text: those before its last digit, and that digit
pub digit_values_last : (s : List ℕ) → (after_last digit s ≡ 0 → ⊥)
    → digit_values s ≡ digit_values (take (after_last digit s - 1) s) ++ digit_value (get_or s (after_last digit s - 1) 0) ∷ []
unfolding after_last
digit_values_last [] n = absurd (n refl)
digit_values_last (b ∷ s) n = go (digit b) (eqb (after_last digit s) 0) refl refl n (digit_values_last s)
  where
    k : ℕ
    k = after_last digit s

    more : (m : ℕ) → k ≡ suc m → digit_values s ≡ digit_values (take m s) ++ digit_value (get_or s m 0) ∷ []
        → digit_values (b ∷ s) ≡ digit_values (take (suc k - 1) (b ∷ s)) ++ digit_value (get_or (b ∷ s) (suc k - 1) 0) ∷ []
    more m e r =
        let q : suc k - 1 ≡ suc m = omega arith in
        digit_values_append (b ∷ []) s
        ∙ rw (q, r, digit_values_append (b ∷ []) (take m s))
        (sym (append_assoc (digit_values (b ∷ [])) (digit_values (take m s)) (digit_value (get_or s m 0) ∷ [])))

    go : (t u : Bool) → digit b ≡ t → eqb k 0 ≡ u → (cond u (cond t 1 0) (suc k) ≡ 0 → ⊥)
        → ((k ≡ 0 → ⊥) → digit_values s ≡ digit_values (take (k - 1) s) ++ digit_value (get_or s (k - 1) 0) ∷ [])
        → digit_values (b ∷ s) ≡ digit_values (take (cond u (cond t 1 0) (suc k) - 1) (b ∷ s)) ++ digit_value (get_or (b ∷ s) (cond u (cond t 1 0) (suc k) - 1) 0) ∷ []
    go true true d z n r = digit_values_cons b s ∙ rw (d, no_last_digit s (eqb-true k 0 z), no_digit_values)
    go false true d z n r = absurd (n refl)
    go t false d z n r = more (k - 1) (let q = eqb-false k 0 z in omega arith) (r (eqb-false k 0 z))

-- a text with digits has a last digit
pub last_some : (s : List ℕ) → 0 < length (digit_values s) → after_last digit s ≡ 0 → ⊥
last_some s h e = let q = ap length (no_last_digit s e) in omega arith

-- the bytes 0 to 9 have these values
pub each_digit_value : digit_values (bytes "0123456789") ≡ 0 ∷ 1 ∷ 2 ∷ 3 ∷ 4 ∷ 5 ∷ 6 ∷ 7 ∷ 8 ∷ 9 ∷ []
unfolding digit_values filter_if
each_digit_value = refl
