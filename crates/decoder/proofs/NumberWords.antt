-- The words that numbers are read with: the tests that each of them passes, and the digits that they are decoded as.
-- Assumes nothing.
use mathlib.Core.Path.{◌≡◌, refl, sym, ap, ◌∙◌}
use mathlib.Core.Bool.{Bool, true, false, cond, ◌&&◌, and-false, and-eq-true_iff}
use mathlib.Core.Logic.{⊎_elim}
use mathlib.Core.List.{List, [], ◌∷◌, map, nil≢cons}
use Prim.Native.Nat.{ℕ, zero, suc, ◌≤◌, ◌<◌}
use Prim.Native.Char.{code}
use native.Mathlib.Omega.{arith}
use lib.Dec.{ltb, eqb}
use lib.ListN.{length, get_or, length-map}
use borrow.Author.Tests.{lt-ltb, le-leb, lt-leb, ltb-true, eqb-true}
use Rattle.lists.specs.Bytes.{same, starts_with, Every, any}
use Rattle.lists.proofs.Sets.{le_or_lt}
use Rattle.lists.proofs.Table.{below}
use Rattle.vocabulary.proofs.Laws.{unfold_vocabulary}
use Rattle.units.specs.Units.{index_of}
use Rattle.shapes.specs.Shapes.{is_digits, is_leading_zero_digits}
use Rattle.numerals.specs.Words.{Word, one, hundred, scale, spell, spelled, consecutive_words, number_words}
use Rattle.numerals.specs.Cardinal.{digit_values, pair_words, scale_for, join_at_scale, short_cardinal, cardinal_of, cardinal, digits}
use Rattle.numerals.specs.Value.{words_value, value_from}
use Rattle.numerals.proofs.Cardinal.{short_cardinal_induct, cardinal_1}
use Rattle.numerals.specs.Walk.{BelowTen}
use Rattle.numerals.proofs.NumberWords.{NumberWord, digit_values_below_ten}
use Rattle.numerals.proofs.Value.{cardinal_value}
use Rattle.clear.specs.Clear.{plain}
use Rattle.decoder.specs.Decode.{parse_word_in, parse_word, parse_words, decimal_digits, digit_of, is_one, two_ones, decode_digits}
use Rattle.clear.proofs.Figures.{plain_digits}
use Rattle.decoder.proofs.DecimalDigits.{plain_values, decimal_digits_plain, digit_values_length, digit_bytes_digit_values}

-- ---- words from their spelling

-- parsing finds the first word that is spelled w
parse_first : (vs : List Word) (w : List ℕ) → index_of w (map spell vs) < length vs → parse_word_in vs w ≡ get_or vs (index_of w (map spell vs)) hundred
unfolding parse_word_in index_of any
parse_first [] w h = absurd (omega arith)
parse_first (v ∷ vs) w h = go (same (spell v) w) h (parse_first vs w)
  where
    go : (t : Bool) → cond t 0 (suc (index_of w (map spell vs))) < suc (length vs)
        → (index_of w (map spell vs) < length vs → parse_word_in vs w ≡ get_or vs (index_of w (map spell vs)) hundred)
        → cond t v (parse_word_in vs w) ≡ get_or (v ∷ vs) (cond t 0 (suc (index_of w (map spell vs)))) hundred
    go true h r = refl
    go false h r = r (omega arith)

-- no two number words are spelled the same
parses_back : ℕ → Bool
parses_back k = eqb (index_of (spell (get_or number_words k hundred)) (map spell number_words)) k

-- a number's word is parsed from its spelling
pub number_word_parsed : (w : Word) → NumberWord w → parse_word (spell w) ≡ w
unfolding parses_back parse_word number_words consecutive_words index_of any spell unfold_vocabulary
number_word_parsed w n =
    let k = n.0 in
    let e : index_of (spell (get_or number_words k hundred)) (map spell number_words) ≡ k = eqb-true _ _ (below parses_back 32 refl k n.1) in
    rw (n.2, parse_first number_words (spell (get_or number_words k hundred)) (rw e n.1), e)

-- words are parsed from their spellings if each of them is
pub every_parsed : (ws : List Word) → Every (λ w. parse_word (spell w) ≡ w) ws → parse_words (spelled ws) ≡ ws
unfolding spelled
every_parsed [] h = refl
every_parsed (w ∷ ws) h = rw (h.0, every_parsed ws h.1)

-- ---- digits that are decoded

-- digits that have a word each are decoded from these words
pub digits_back : (d : List ℕ) → map digit_of (map one d) ≡ d
unfolding digit_of
digits_back [] = refl
digits_back (a ∷ d) = ap (λ (r : List ℕ). a ∷ r) (digits_back d)

each_two : (d : List ℕ) → BelowTen d → 1 < length d → two_ones (map one d) ≡ true
unfolding two_ones digit_of
each_two [] t l = absurd (omega arith)
each_two (a ∷ []) t l = absurd (omega arith)
each_two (a ∷ b ∷ d) t l = rw (lt-ltb a 10 t.0, lt-ltb b 10 t.1.0)

decode_each : (s : List ℕ) → is_digits s ≡ true → 1 < length s → decode_digits (digits s) ≡ s
unfolding decode_digits digits
decode_each s h l = rw (each_two (digit_values s) (digit_values_below_ten s) (rw (digit_values_length s h) l), digits_back (digit_values s)) (digit_bytes_digit_values s h)

-- a number that is read by groups does not start with two words of ONES
pair_not : (a b : ℕ) → two_ones (pair_words a b) ≡ false
unfolding two_ones pair_words digit_of
pair_not zero zero = refl
pair_not zero (suc b) = refl
pair_not (suc a) zero = refl
pair_not (suc zero) (suc b) = refl
pair_not (suc (suc a)) (suc b) = refl

join_not : (l : List Word) (k : ℕ) (r : List Word) → two_ones l ≡ false → two_ones r ≡ false → two_ones (join_at_scale l (scale k) r) ≡ false
unfolding two_ones join_at_scale digit_of
join_not [] k r p q = q
join_not (v ∷ []) k r p q = and-false (is_one v)
join_not (v ∷ u ∷ l) k r p q = p

short_not : (s : List ℕ) → BelowTen s → two_ones (short_cardinal s) ≡ false
unfolding two_ones digit_of
short_not = short_cardinal_induct (λ d. d < 10) (λ n ws. two_ones ws ≡ false) (record {
  none = refl;
  single = λ a d. refl;
  double = λ a b d e. pair_not a b;
  zero_led = λ ws h. h;
  triple = λ a b c d e f. and-false (ltb a 10);
  joined = λ n left right l h k. join_not left (scale_for n) right h k;
})

cardinal_short : (s : List ℕ) → length (digit_values s) ≤ 12 → cardinal s ≡ short_cardinal (digit_values s)
unfolding cardinal cardinal_of
cardinal_short s h = rw (le-leb (length (digit_values s)) 12 h)

cardinal_long : (s : List ℕ) → 12 < length (digit_values s) → cardinal s ≡ digits s
unfolding cardinal cardinal_of digits
cardinal_long s h = rw (lt-leb (length (digit_values s)) 12 h)

-- the digits of the value of a number's words
decimal_digits_value : (s : List ℕ) → plain s ≡ true → length (digit_values s) ≤ 12 → decimal_digits 11 (words_value (cardinal s)) [] ≡ digit_values s
decimal_digits_value s h l = rw (cardinal_value s l) (decimal_digits_plain (digit_values s) 11 (digit_values_below_ten s) (plain_values s h) l)

-- plain digits of the value 0 have one word, "zero"
pub zero_named : (s : List ℕ) → plain s ≡ true → length (digit_values s) ≤ 12 → words_value (cardinal s) ≡ 0 → cardinal s ≡ one 0 ∷ []
unfolding decimal_digits
zero_named s h l z =
    let d : 0 ∷ [] ≡ digit_values s = rw z at (decimal_digits_value s h l) in
    cardinal_short s l ∙ rw (← d) (cardinal_1 (0 ∷ []) refl)

-- more than twelve digits have a word each
pub long_length : (s : List ℕ) → 12 < length (digit_values s) → length (cardinal s) ≡ length (digit_values s)
unfolding digits
long_length s l = ap length (cardinal_long s l) ∙ length-map (digit_values s) one

plain_has_words : (s : List ℕ) → plain s ≡ true → cardinal s ≡ [] → ⊥
unfolding words_value value_from
plain_has_words s h e =
    ⊎_elim
    (λ (l : length (digit_values s) ≤ 12). nil≢cons (sym e ∙ zero_named s h l (rw e)))
    (λ (l : 12 < length (digit_values s)). omega (arith, long_length s l, ap length e))
    (le_or_lt (length (digit_values s)) 12)

-- plain digits have at least one word
pub plain_some : (s : List ℕ) → plain s ≡ true → (w : Word) × (ws : List Word) × (cardinal s ≡ w ∷ ws)
plain_some s h = go (cardinal s) refl
  where
    go : (ws : List Word) → cardinal s ≡ ws → (w : Word) × (ws : List Word) × (cardinal s ≡ w ∷ ws)
    go [] e = absurd (plain_has_words s h e)
    go (w ∷ ws) e = (w, ws, e)

-- plain digits are decoded from their words
pub decode_plain : (s : List ℕ) → plain s ≡ true → decode_digits (cardinal s) ≡ s
unfolding decode_digits
decode_plain s h =
    ⊎_elim
    (λ (l : length (digit_values s) ≤ 12). rw
    (ap two_ones (cardinal_short s l) ∙ short_not (digit_values s) (digit_values_below_ten s), decimal_digits_value s h l) (digit_bytes_digit_values s i))
    (λ (l : 12 < length (digit_values s)). ap decode_digits (cardinal_long s l) ∙ decode_each s i (omega (arith, digit_values_length s i)))
    (le_or_lt (length (digit_values s)) 12)
  where
    i : is_digits s ≡ true
    i = plain_digits s h

-- so are digits with a leading zero
pub decode_leading : (s : List ℕ) → is_leading_zero_digits s ≡ true → decode_digits (digits s) ≡ s
decode_leading s h =
    let k = (and-eq-true_iff (ltb 1 (length s) && starts_with (code "0") s) (is_digits s)).0 h in
    decode_each s k.1 (ltb-true 1 (length s) ((and-eq-true_iff (ltb 1 (length s)) (starts_with (code "0") s)).0 k.0).0)
