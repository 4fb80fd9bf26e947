-- The words that numbers are read with. What is computed for their list holds for each of them. Assumes nothing.
use mathlib.Core.Path.{◌≡◌, refl, sym, ap, ◌∙◌}
use mathlib.Core.Bool.{Bool, true, false, cond, ◌&&◌}
use mathlib.Core.List.{List, [], ◌∷◌, ◌++◌, map, cons-eq-cons}
use Prim.Native.Nat.{ℕ, zero, suc, ◌+◌, ◌<◌}
use Prim.Native.Char.{code}
use native.Mathlib.Nat.{suc-add, zero-add}
use native.Mathlib.Omega.{arith}
use lib.Dec.{leb, ltb}
use lib.ListN.{length, get_or}
use borrow.Author.Tests.{leb-true}
use Rattle.lists.specs.Bytes.{filter_if, all, Every}
use Rattle.lists.specs.Classes.{digit}
use Rattle.lists.proofs.Every.{every_append, every_map}
use Rattle.lists.proofs.Recursion.{cond_elim}
use Rattle.lists.proofs.Scan.{all_at}
use Rattle.numerals.specs.Words.{Word, one, teen, ten, hundred, scale, consecutive_words, number_words}
use Rattle.numerals.specs.Cardinal.{digit_values, digit_value, pair_words, scale_for, join_at_scale, short_cardinal, cardinal, digits}
use Rattle.numerals.specs.Walk.{BelowTen}
use Rattle.numerals.proofs.Cardinal.{short_cardinal_induct, cardinal_of_elim}

-- a word that numbers are read with
abbrev pub NumberWord : Word → Type 0
NumberWord w = (k : ℕ) × (k < length number_words) × (w ≡ get_or number_words k hundred)

-- each number word passes a test that the whole list passes; so one computation proves it for all
pub number_word_test : (p : Word → Bool) → all p number_words ≡ true → (w : Word) → NumberWord w → p w ≡ true
number_word_test p h w n = rw n.2 (all_at p hundred number_words n.0 h n.1)

-- two functions that agree on a whole list agree at each of its places
map_same_at : {A B : Type 0} (f g : A → B) (vs : List A) (k : ℕ) (d : A) → map f vs ≡ map g vs → k < length vs → f (get_or vs k d) ≡ g (get_or vs k d)
map_same_at f g [] k d e h = absurd (omega arith)
map_same_at f g (v ∷ vs) zero d e h = (cons-eq-cons.0 e).0
map_same_at f g (v ∷ vs) (suc k) d e h = map_same_at f g vs k d (cons-eq-cons.0 e).1 (omega arith)

-- two functions that agree on the list of number words agree on each of them; so one computation proves it for all
pub number_word_same : {A : Type 0} (f g : Word → A) → map f number_words ≡ map g number_words → (w : Word) → NumberWord w → f w ≡ g w
number_word_same f g e w n = rw n.2 (map_same_at f g number_words n.0 hundred e n.1)

-- ---- values of digits

-- the values of a text's digits are below ten
pub digit_values_below_ten : (s : List ℕ) → BelowTen (digit_values s)
unfolding digit_values filter_if
digit_values_below_ten [] = tt
digit_values_below_ten (b ∷ s) = go (leb (code "0") b) (leb b (code "9")) refl (digit_values_below_ten s)
  where
    go : (t u : Bool) → leb b (code "9") ≡ u → BelowTen (digit_values s) → BelowTen (map digit_value (cond (t && u) (b ∷ filter_if digit s) (filter_if digit s)))
    go true true e h = (omega (arith, leb-true b (code "9") e), h)
    go true false e h = h
    go false u e h = h

-- so is the value at any place; past the end it is 0
pub digit_at : (ds : List ℕ) (i : ℕ) → BelowTen ds → {b : ℕ} → b ≡ get_or ds i 0 → b < 10
digit_at [] i h e = omega arith
digit_at (d ∷ ds) zero h e = omega (arith, h.0)
digit_at (d ∷ ds) (suc i) h e = digit_at ds i h.1 e

-- ---- the words of a number

-- one of k consecutive words, and what stands after them
consecutive_in : (f : ℕ → Word) (n k i : ℕ) (r : List Word) → i < k → get_or (consecutive_words f n k ++ r) i hundred ≡ f (n + i)
unfolding consecutive_words
consecutive_in f n zero i r h = absurd (omega arith)
consecutive_in f n (suc k) zero r h = ap f (omega arith)
consecutive_in f n (suc k) (suc i) r h = consecutive_in f (suc n) k i r (omega arith) ∙ ap f (omega arith)

consecutive_past : (f : ℕ → Word) (n k i : ℕ) (r : List Word) → get_or (consecutive_words f n k ++ r) (k + i) hundred ≡ get_or r i hundred
unfolding consecutive_words
consecutive_past f n zero i r = rw zero-add
consecutive_past f n (suc k) i r = rw suc-add (consecutive_past f (suc n) k i r)

abbrev from_tens : List Word
from_tens = consecutive_words ten 1 9 ++ (hundred ∷ consecutive_words scale 1 3)

abbrev from_teens : List Word
from_teens = consecutive_words teen 1 9 ++ from_tens

-- the word of a digit is a number word
pub one_number_word : (d : ℕ) → d < 10 → NumberWord (one d)
unfolding number_words consecutive_words
one_number_word d h = (d, omega arith, sym (consecutive_in one 0 10 d from_teens h ∙ ap one (zero-add d)))

teen_number_word : (d : ℕ) → suc d < 10 → NumberWord (teen (suc d))
unfolding number_words consecutive_words
teen_number_word d h = (10 + d, omega arith, sym (consecutive_past one 0 10 d from_teens ∙ consecutive_in teen 1 9 d from_tens (omega arith) ∙ ap teen (omega arith)))

ten_number_word : (d : ℕ) → suc d < 10 → NumberWord (ten (suc d))
unfolding number_words consecutive_words
ten_number_word d h =
    let e : 10 + (9 + d) ≡ 19 + d = omega arith in (
      19 + d,
      omega arith,
      sym
          (rw e at (consecutive_past one 0 10 (9 + d) from_teens) ∙ consecutive_past teen 1 9 d from_tens
          ∙ consecutive_in ten 1 9 d (hundred ∷ consecutive_words scale 1 3) (omega arith) ∙ ap ten (omega arith)),
    )

-- "hundred" is a number word
pub hundred_number_word : NumberWord hundred
unfolding number_words consecutive_words
hundred_number_word = (28, omega arith, refl)

scale_number_word : (n : ℕ) → NumberWord (scale (scale_for n))
unfolding number_words consecutive_words
scale_number_word n =
    cond_elim (λ k. NumberWord (scale k)) (ltb 9 n) (λ e. (31, omega arith, refl))
    (λ e. cond_elim (λ k. NumberWord (scale k)) (ltb 6 n) (λ f. (30, omega arith, refl)) (λ f. (29, omega arith, refl)))

pair_number_words : (a b : ℕ) → a < 10 → b < 10 → Every NumberWord (pair_words a b)
unfolding pair_words
pair_number_words zero zero p q = tt
pair_number_words zero (suc b) p q = (one_number_word (suc b) q, tt)
pair_number_words (suc a) zero p q = (ten_number_word a p, tt)
pair_number_words (suc zero) (suc b) p q = (teen_number_word b q, tt)
pair_number_words (suc (suc a)) (suc b) p q = (ten_number_word (suc a) p, (one_number_word (suc b) q, tt))

join_number_words : (l : List Word) (w : Word) (r : List Word) → Every NumberWord l → NumberWord w → Every NumberWord r → Every NumberWord (join_at_scale l w r)
unfolding join_at_scale
join_number_words [] w r p q h = h
join_number_words (v ∷ l) w r p q h = every_append NumberWord (v ∷ l) (w ∷ r) p (q, h)

-- the words of up to twelve digits are number words
pub short_number_words : (s : List ℕ) → BelowTen s → Every NumberWord (short_cardinal s)
short_number_words = short_cardinal_induct (λ d. d < 10) (λ n ws. Every NumberWord ws) (record {
  none = tt;
  single = λ a h. (one_number_word a h, tt);
  double = pair_number_words;
  zero_led = λ ws h. h;
  triple = λ a b c x y z. (one_number_word a x, (hundred_number_word, pair_number_words b c y z));
  joined = λ n left right l h k. join_number_words left (scale (scale_for n)) right h (scale_number_word n) k;
})

-- the words of digits one by one are number words
pub digits_number_words : (s : List ℕ) → Every NumberWord (digits s)
unfolding digits
digits_number_words s = every_map (λ d. d < 10) NumberWord one one_number_word (digit_values s) (digit_values_below_ten s)

-- the words of any cardinal number are number words
pub cardinal_number_words : (s : List ℕ) → Every NumberWord (cardinal s)
unfolding cardinal digits
cardinal_number_words s = cardinal_of_elim (Every NumberWord) (digit_values s) (λ l. short_number_words (digit_values s) (digit_values_below_ten s))
    (digits_number_words s)
