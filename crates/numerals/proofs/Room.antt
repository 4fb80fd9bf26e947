-- How many words a number has at most, and how many bytes of a line they take. Assumes nothing.
use mathlib.Core.Path.{◌≡◌, refl}
use mathlib.Core.Bool.{Bool, ◌&&◌, ◌||◌, and-eq-true_iff, true}
use mathlib.Core.List.{List, [], ◌∷◌, ◌++◌, map, flatten}
use Prim.Native.Nat.{ℕ, suc, ◌+◌, ◌-◌, ◌*◌, ◌≤◌, ◌<◌}
use Prim.Native.Char.{code}
use native.Mathlib.Omega.{arith}
use lib.Dec.{leb}
use lib.ListN.{length, get_or, length-append, length-map}
use borrow.Author.Tests.{leb-true, lt-leb}
use Rattle.lists.specs.Bytes.{filter_if, all, Every}
use Rattle.lists.specs.Classes.{digit, except}
use Rattle.lists.proofs.Scan.{filter_if_le}
use Rattle.lists.proofs.Table.{upto, below}
use Rattle.vocabulary.proofs.Laws.{unfold_vocabulary}
use Rattle.numerals.specs.Words.{Word, one, hundred, scale, spell, spelled, consecutive_words, number_words}
use Rattle.numerals.specs.Cardinal.{digit_value, digit_values, pair_words, scale_for, join_at_scale, split_at, short_cardinal, cardinal_of, cardinal, digits}
use Rattle.numerals.specs.Ordinal.{form_in, ordinal_form, or_zero, on_last, ordinal}
use Rattle.numerals.specs.Walk.{BelowTen}
use Rattle.numerals.proofs.Cardinal.{scale_split, short_cardinal_induct, cardinal_of_elim, cardinal_2}
use Rattle.numerals.proofs.NumberWords.{NumberWord, number_word_test, cardinal_number_words, digit_values_below_ten}

-- the bytes that words take in a line, with a space before each
abbrev pub width : List Word → ℕ
width [] = 0
width (w ∷ ws) = suc (length (spell w) + width ws)

-- at most a words, which take at most b bytes in a line
pub record Room (a b : ℕ) (ws : List Word) : Type 0 where
  pub count : length ws ≤ a
  pub wide : width ws ≤ b

-- the room for the words of a text of n bytes
abbrev pub RoomFor : ℕ → List Word → Type 0
RoomFor n = Room (2 * n + 1) (11 * n + 8)

-- `Room` as a test that can be computed
abbrev fits : ℕ → ℕ → List Word → Bool
fits a b ws = leb (length ws) a && leb (width ws) b

fits_room : (a b : ℕ) (ws : List Word) → fits a b ws ≡ true → Room a b ws
fits_room a b ws t = let y = (and-eq-true_iff (leb (length ws) a) (leb (width ws) b)).0 t in record { count = leb-true _ _ y.0; wide = leb-true _ _ y.1 }

-- the counts of two lists of words add up, and so do the bytes
pub together : (ws vs : List Word) → (length (ws ++ vs) ≡ length ws + length vs) × (width (ws ++ vs) ≡ width ws + width vs)
together [] vs = omega arith
together (w ∷ ws) vs = omega (arith, together ws vs)

store_width : (ws : List Word) → length (flatten (spelled ws)) + length ws ≡ width ws
unfolding flatten spelled
store_width [] = omega arith
store_width (w ∷ ws) = omega (arith, length-append (spell w) (flatten (spelled ws)), store_width ws)

-- so both counts of a call are bounded: its words, and their bytes
pub room_counts : {a b : ℕ} {ws : List Word} → Room a b ws → (length (spelled ws) ≤ a) × (length (flatten (spelled ws)) ≤ b)
unfolding spelled
room_counts {ws = ws} r = omega (arith, length-map ws spell, store_width ws)

-- the word of a digit takes at most 6 bytes
pub one_room : (d : ℕ) → d < 10 → Room 1 6 (one d ∷ [])
unfolding spell unfold_vocabulary
one_room d h = fits_room 1 6 (one d ∷ []) (below (λ d. fits 1 6 (one d ∷ [])) 10 refl d h)

pair_room : (a b : ℕ) → a < 10 → b < 10 → Room 2 14 (pair_words a b)
unfolding pair_words spell unfold_vocabulary
pair_room a b h k =
    let f : ℕ → ℕ → Bool = λ a b. fits 2 14 (pair_words a b) in
    fits_room 2 14 (pair_words a b) (below (f a) 10 (below (λ a. upto (f a) 10) 10 refl a h) b k)

-- the word "hundred" takes 8 bytes
pub hundred_room : Room 1 8 (hundred ∷ [])
unfolding spell unfold_vocabulary
hundred_room = omega arith

-- the most bytes that the words of n digits take in a line, for n up to twelve
most : ℕ → ℕ
most n = get_or (0 ∷ 6 ∷ 14 ∷ 28 ∷ 43 ∷ 51 ∷ 65 ∷ 79 ∷ 87 ∷ 101 ∷ 115 ∷ 123 ∷ 137 ∷ []) n 0

-- the same for two parts with the word of a scale between them
abbrev joined : ℕ → ℕ
joined n = most (split_at n) + width (scale (scale_for n) ∷ []) + most (n - split_at n)

most_joined : (n : ℕ) → 3 < n → n ≤ 12 → joined n ≤ most n
unfolding most spell unfold_vocabulary
most_joined n z h = leb-true _ _ (rw (lt-leb n 3 z) at (below (λ k. leb k 3 || leb (joined k) (most k)) 13 refl n (omega arith)))

most_small : (n : ℕ) → n < 13 → most n ≤ 11 * n + 5
unfolding most
most_small n h = leb-true _ _ (below (λ n. leb (most n) (11 * n + 5)) 13 refl n h)

join_room : {a b c d : ℕ} (l : List Word) (w : Word) (r : List Word) → Room a b l → Room c d r → Room (a + 1 + c) (b + width (w ∷ []) + d) (join_at_scale l w r)
unfolding join_at_scale
join_room [] w r p q = omega arith
join_room (v ∷ l) w r p q = omega (arith, together (v ∷ l) (w ∷ r))

-- at most two words per digit, less one, so that two parts leave room for the word of a scale between them
short_room : (s : List ℕ) → BelowTen s → length s ≤ 12 → Room (2 * length s - 1) (most (length s)) (short_cardinal s)
unfolding most
short_room = short_cardinal_induct (λ d. d < 10) (λ n ws. n ≤ 12 → Room (2 * n - 1) (most n) ws) (record {
  none = λ l. omega arith;
  single = λ a d l. one_room a d;
  double = λ a b d e l. omega (arith, pair_room a b d e);
  zero_led = λ ws h l. omega (arith, h (omega arith));
  triple = λ a b c d e f l. omega (arith, one_room a d, hundred_room, pair_room b c e f);
  joined =
      λ n left right z h k l.
      let p = scale_split n z in
      omega (arith, join_room left (scale (scale_for n)) right (h (omega arith)) (k (omega arith)), most_joined n z l);
})

-- the words of two digits take at most 14 bytes
pub two_room : (a b : ℕ) → a < 10 → b < 10 → Room 2 14 (cardinal_of (a ∷ b ∷ []))
unfolding cardinal_of
two_room a b h k = rw (cardinal_2 (a ∷ b ∷ []) refl) (pair_room a b h k)

-- one word per digit takes at most 6 bytes per digit
pub ones_room : (s : List ℕ) → BelowTen s → Room (length s) (6 * length s) (map one s)
ones_room [] h = omega arith
ones_room (d ∷ s) h = omega (arith, one_room d h.0, ones_room s h.1)

-- the room for the words of a number of n digits
abbrev pub RoomForNumber : ℕ → List Word → Type 0
RoomForNumber n = Room (2 * n) (11 * n + 5)

-- the words of a number fit in it
pub cardinal_of_room : (s : List ℕ) → BelowTen s → RoomForNumber (length s) (cardinal_of s)
unfolding cardinal_of
cardinal_of_room s h =
    cardinal_of_elim (RoomForNumber (length s)) s (λ l. omega (arith, short_room s h l, most_small (length s) (omega arith))) (omega (arith, ones_room s h))

-- a text has no more digits than bytes
pub digit_values_le : (s : List ℕ) → length (digit_values s) ≤ length s
unfolding digit_values
digit_values_le s = omega (arith, length-map (filter_if digit s) digit_value, filter_if_le digit s)

-- the words of a text's cardinal number fit in the room for as many digits as the text has bytes
pub cardinal_room : (s : List ℕ) → RoomForNumber (length s) (cardinal s)
unfolding cardinal
cardinal_room s = omega (arith, cardinal_of_room (digit_values s) (digit_values_below_ten s), digit_values_le s)

-- the words of a text's digits, one by one, take at most 6 bytes per byte of the text
pub digits_room : (s : List ℕ) → Room (length s) (6 * length s) (digits s)
unfolding digits
digits_room s = omega (arith, ones_room (digit_values s) (digit_values_below_ten s), digit_values_le s)

-- an ordinal form has at most three bytes more than its word
form_small : (w : Word) → NumberWord w → length (ordinal_form (spell w)) ≤ length (spell w) + 3
unfolding number_words consecutive_words spell unfold_vocabulary ordinal_form form_in all
form_small w n = leb-true _ _ (number_word_test (λ w. leb (length (ordinal_form (spell w))) (length (spell w) + 3)) refl w n)

last_room : (ws : List Word) → Every NumberWord ws → Room (length ws) (width ws + 3) (on_last ws)
unfolding on_last spell
last_room [] h = omega arith
last_room (w ∷ []) h = omega (arith, form_small w h.0)
last_room (w ∷ v ∷ ws) h = omega (arith, last_room (v ∷ ws) h.1)

zero_room : (n : ℕ) (ws : List Word) → Every NumberWord ws → RoomForNumber n ws → RoomFor n (on_last (or_zero ws))
unfolding or_zero on_last spell ordinal_form form_in unfold_vocabulary
zero_room n [] h r = omega arith
zero_room n (w ∷ ws) h r = omega (arith, last_room (w ∷ ws) h)

-- the words of a text's ordinal number fit in the room for a text
pub ordinal_room : (s : List ℕ) → RoomFor (length s) (ordinal s)
unfolding ordinal
ordinal_room s =
    let t = filter_if (except (code ",")) s in
    omega (arith, zero_room (length t) (cardinal t) (cardinal_number_words t) (cardinal_room t), filter_if_le (except (code ",")) s)
