-- The words of a number are not like those of a time, and if there is only one, it is below a hundred. Assumes nothing.
use mathlib.Core.Path.{◌≡◌, refl, ◌∙◌}
use mathlib.Core.Bool.{false, not, ◌&&◌, and-false}
use mathlib.Core.List.{List, [], ◌∷◌, ◌++◌, map}
use Prim.Native.Nat.{ℕ, zero, suc, ◌+◌, ◌<◌}
use native.Mathlib.Omega.{arith}
use lib.Dec.{ltb, eqb}
use lib.ListN.{length, length-append}
use borrow.Author.Tests.{lt-ltb, ne_eqb}
use Rattle.lists.specs.Bytes.{all, any}
use Rattle.lists.proofs.Scan.{all_append}
use Rattle.numerals.specs.Words.{Word, one, teen, ten, hundred, scale}
use Rattle.numerals.specs.Cardinal.{digit_values, pair_words, scale_for, join_at_scale, short_cardinal, cardinal, digits}
use Rattle.numerals.proofs.Cardinal.{short_cardinal_induct, cardinal_of_elim}
use Rattle.numerals.specs.Walk.{BelowTen}
use Rattle.numerals.proofs.NumberWords.{digit_values_below_ten}
use Rattle.decoder.specs.Decode.{digit_of, value_below_hundred, is_below_hundred, is_minute_only, time_like}

-- the words are not like those of a time, and if there is only one, it is below a hundred
pub record NotTime (ws : List Word) : Type 0 where
  pub not_time_like : time_like ws ≡ false
  pub alone : (eqb (length ws) 1 && not (all is_below_hundred ws)) ≡ false

single_not_time : (w : Word) → value_below_hundred w < 100 → NotTime (w ∷ [])
unfolding all any
single_not_time w h = record { not_time_like = and-false (all is_below_hundred (w ∷ [])); alone = rw (lt-ltb (value_below_hundred w) 100 h) }

-- words are not all below a hundred if one of them is not
large_among : (u : List Word) (w : Word) (r : List Word) → ltb (value_below_hundred w) 100 ≡ false → all is_below_hundred (u ++ w ∷ r) ≡ false
unfolding all
large_among u w r h = all_append is_below_hundred u (w ∷ r) ∙ rw h (and-false (all is_below_hundred u))

-- this holds of words of which one is not below a hundred, if it is not the only one
pub large_not_time : (u : List Word) (w : Word) (r : List Word) → ltb (value_below_hundred w) 100 ≡ false → 0 < length u + length r → NotTime (u ++ w ∷ r)
large_not_time u w r h l =
    record {
      not_time_like = rw (large_among u w r h);
      alone = rw (ne_eqb (length (u ++ w ∷ r)) 1 (λ e. omega (arith, length-append u (w ∷ r))));
    }

pair_not_time : (a b : ℕ) → a < 10 → b < 10 → NotTime (pair_words a b)
unfolding pair_words all any value_below_hundred digit_of
pair_not_time zero zero p q = record { not_time_like = refl; alone = refl }
pair_not_time zero (suc b) p q = single_not_time (one (suc b)) (omega arith)
pair_not_time (suc a) zero p q = single_not_time (ten (suc a)) (omega arith)
pair_not_time (suc zero) (suc b) p q = single_not_time (teen (suc b)) (omega arith)
pair_not_time (suc (suc a)) (suc b) p q = record { not_time_like = rw (lt-ltb (suc b) 10 q, and-false (ltb (suc b) 100), and-false); alone = refl }

ones_not_minute_only : (s : List ℕ) → BelowTen s → any is_minute_only (map one s) ≡ false
unfolding any value_below_hundred digit_of
ones_not_minute_only [] h = refl
ones_not_minute_only (d ∷ s) h = rw (ones_not_minute_only s h.1, lt-ltb d 10 h.0, and-false (ltb d 100))

ones_not_time : (s : List ℕ) → BelowTen s → NotTime (map one s)
unfolding all any value_below_hundred
ones_not_time [] h = record { not_time_like = refl; alone = refl }
ones_not_time (d ∷ []) h = single_not_time (one d) (omega (arith, h.0))
ones_not_time (d ∷ b ∷ s) h =
    record {
      not_time_like = rw (ones_not_minute_only (b ∷ s) h.1) (and-false (all is_below_hundred (map one (d ∷ b ∷ s))));
      alone = rw (ne_eqb (length (map one (d ∷ b ∷ s))) 1 (λ e. omega arith));
    }

join_not_time : (l : List Word) (k : ℕ) (r : List Word) → NotTime r → NotTime (join_at_scale l (scale k) r)
unfolding join_at_scale value_below_hundred
join_not_time [] k r h = h
join_not_time (w ∷ l) k r h = large_not_time (w ∷ l) (scale k) r refl (omega arith)

short_not_time : (s : List ℕ) → BelowTen s → NotTime (short_cardinal s)
unfolding value_below_hundred all any
short_not_time = short_cardinal_induct (λ d. d < 10) (λ n ws. NotTime ws) (record {
  none = record { not_time_like = refl; alone = refl };
  single = λ a d. single_not_time (one a) (omega arith);
  double = pair_not_time;
  zero_led = λ ws h. h;
  triple = λ a b c d e f. large_not_time (one a ∷ []) hundred (pair_words b c) refl (omega arith);
  joined = λ n left right l h k. join_not_time left (scale_for n) right k;
})

-- this holds of the words of a number
pub cardinal_not_time : (s : List ℕ) → NotTime (cardinal s)
unfolding cardinal
cardinal_not_time s = let d = digit_values_below_ten s in cardinal_of_elim NotTime (digit_values s) (λ l. short_not_time (digit_values s) d)
    (ones_not_time (digit_values s) d)

-- and of the words of digits that are read one by one
pub digits_not_time : (s : List ℕ) → NotTime (digits s)
unfolding digits
digits_not_time s = ones_not_time (digit_values s) (digit_values_below_ten s)
