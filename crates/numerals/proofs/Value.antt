-- The words of a number of up to twelve digits name its decimal value. Assumes nothing.
use mathlib.Core.Path.{◌≡◌, refl, sym, ap, ◌∙◌}
use mathlib.Core.Bool.{Bool, true, false, cond}
use mathlib.Core.List.{List, [], ◌∷◌, ◌++◌, map, append-nil}
use mathlib.Core.Option.{Option, some}
use Prim.Native.Nat.{ℕ, zero, suc, ◌+◌, ◌*◌, ◌^◌, ◌≤◌, ◌<◌}
use Prim.Native.Char.{code}
use native.Mathlib.Nat.{pow-suc, zero-add}
use native.Mathlib.Omega.{arith}
use lib.Dec.{eqb}
use lib.ListN.{length, take, drop, get_or, length-take, length-drop, take-append-drop}
use lib.Pow.{pow-add}
use borrow.Author.Tests.{eqb-true, le-leb}
use Rattle.lists.specs.Bytes.{filter_if, same_by, Every}
use Rattle.lists.specs.Classes.{except}
use Rattle.vocabulary.proofs.Laws.{unfold_vocabulary}
use Rattle.numerals.specs.Words.{Word, one, hundred, scale, spell, spelled, consecutive_words, number_words}
use Rattle.numerals.specs.Cardinal.{digit_values, pair_words, scale_for, join_at_scale, split_at, by_scale, cardinal_step, short_cardinal, cardinal_of, cardinal, digits}
use Rattle.numerals.specs.Ordinal.{form_in, ordinal_form, or_zero, on_last, ordinal}
use Rattle.numerals.specs.Value.{Meaning, adds, cardinal_meanings, ordinal_meanings, meaning_in, prepend, meanings_of, ordinal_meanings_of}
use Rattle.numerals.specs.Value.{value_from, value_of, ordinal_value_of, decimal_from, decimal, meaning_of, words_value}
use Rattle.numerals.proofs.Digits.{digit_values_commas}
use Rattle.numerals.proofs.Cardinal.{scale_split, cardinal_eq, cardinal_1}
use Rattle.numerals.proofs.NumberWords.{NumberWord, number_word_same, one_number_word, cardinal_number_words, digits_number_words}

-- `value_from` for words by their kind
abbrev words_value_from : ℕ → ℕ → List Word → ℕ
words_value_from t c ws = value_from t c (map meaning_of ws)

pair_value : (t c a b : ℕ) (ws : List Word) → words_value_from t c (pair_words a b ++ ws) ≡ words_value_from t (c + (a * 10 + b)) ws
unfolding value_from pair_words
pair_value t c zero zero ws = ap (λ (x : ℕ). words_value_from t x ws) (omega arith)
pair_value t c zero (suc b) ws = ap (λ (x : ℕ). words_value_from t x ws) (omega arith)
pair_value t c (suc a) zero ws = ap (λ (x : ℕ). words_value_from t x ws) (omega arith)
pair_value t c (suc zero) (suc b) ws = ap (λ (x : ℕ). words_value_from t x ws) (omega arith)
pair_value t c (suc (suc a)) (suc b) ws = ap (λ (x : ℕ). words_value_from t x ws) (omega arith)

two_value : (t a b : ℕ) (ws : List Word) → words_value_from t 0 (short_cardinal (a ∷ b ∷ []) ++ ws) ≡ words_value_from t (a * 10 + b) ws
unfolding cardinal_step
two_value t a b ws = rw (cardinal_eq (a ∷ b ∷ [])) (pair_value t 0 a b ws ∙ ap (λ (x : ℕ). words_value_from t x ws) (omega arith))

-- the words of up to three digits add the value of these digits
group_value : (t : ℕ) (s : List ℕ) (ws : List Word) → length s ≤ 3 → words_value_from t 0 (short_cardinal s ++ ws) ≡ words_value_from t (decimal s) ws
unfolding value_from cardinal_step decimal decimal_from
group_value t [] ws h = rw (cardinal_eq [])
group_value t (a ∷ []) ws h = rw (cardinal_eq (a ∷ [])) (ap (λ (x : ℕ). words_value_from t x ws) (omega arith))
group_value t (a ∷ b ∷ []) ws h = two_value t a b ws ∙ ap (λ (x : ℕ). words_value_from t x ws) (omega arith)
group_value t (a ∷ b ∷ c ∷ []) ws h = rw (cardinal_eq (a ∷ b ∷ c ∷ [])) (go (eqb a 0) refl)
  where
    go : (z : Bool) → eqb a 0 ≡ z
        → words_value_from t 0 (cond z (short_cardinal (b ∷ c ∷ [])) (one a ∷ hundred ∷ pair_words b c) ++ ws) ≡ words_value_from t
        (((0 * 10 + a) * 10 + b) * 10 + c) ws
    go true e = two_value t b c ws ∙ ap (λ (x : ℕ). words_value_from t x ws) (omega (arith, eqb-true a 0 e))
    go false e = pair_value t ((0 + a) * 100) b c ws ∙ ap (λ (x : ℕ). words_value_from t x ws) (omega arith)
group_value t (a ∷ b ∷ c ∷ d ∷ s) ws h = absurd (omega arith)

decimal_from_split : (s : List ℕ) (n : ℕ) → decimal_from n s ≡ n * 10 ^ length s + decimal_from 0 s
unfolding decimal_from
decimal_from_split [] n = omega arith
decimal_from_split (d ∷ s) n =
    let p = decimal_from_split s (n * 10 + d) in
    let q = decimal_from_split s (0 * 10 + d) in
    simp pow-suc (omega arith)

decimal_from_append : (a b : List ℕ) (n : ℕ) → decimal_from n (a ++ b) ≡ decimal_from (decimal_from n a) b
unfolding decimal_from
decimal_from_append [] b n = refl
decimal_from_append (d ∷ a) b n = decimal_from_append a b (n * 10 + d)

-- the value of the digits a is multiplied by ten for each digit that follows them
pub decimal_append : (a b : List ℕ) → decimal (a ++ b) ≡ decimal a * 10 ^ length b + decimal b
unfolding decimal
decimal_append a b = decimal_from_append a b 0 ∙ decimal_from_split b (decimal_from 0 a)

join_value : (t k : ℕ) (s : List ℕ) (r : List Word) → length s ≤ 3
    → words_value_from t 0 (join_at_scale (short_cardinal s) (scale k) r) ≡ words_value_from (t + decimal s * 1000 ^ k) 0 r
unfolding value_from join_at_scale
join_value t k s r h = go (short_cardinal s) refl
  where
    go : (g : List Word) → short_cardinal s ≡ g → words_value_from t 0 (join_at_scale g (scale k) r) ≡ words_value_from (t + decimal s * 1000 ^ k) 0 r
    go [] e =
        let z : decimal s ≡ 0 = omega (arith, rw e at (group_value 0 s [] h)) in
        ap (λ (x : ℕ). words_value_from x 0 r) (rw z (omega arith))
    go (w ∷ g) e = rw e at (group_value t s (scale k ∷ r) h)

pow_thousand : (k : ℕ) → 1000 ^ k ≡ 10 ^ (3 * k)
pow_thousand zero = refl
pow_thousand (suc k) = pow-suc 1000 k ∙ ap (λ (x : ℕ). x * 1000) (pow_thousand k) ∙ sym (pow-add 10 (3 * k) 3) ∙ ap (λ (x : ℕ). 10 ^ x) (omega arith)

-- a number cut before its last 3 * k digits: the digits before them count 1000 ^ k times
cut_value : (s : List ℕ) (i k : ℕ) → i + 3 * k ≡ length s → decimal (take i s) * 1000 ^ k + decimal (drop i s) ≡ decimal s
cut_value s i k e =
    let l : length (drop i s) ≡ 3 * k = length-drop i s ∙ omega arith in
    rw (pow_thousand k) (rw l at (sym (decimal_append (take i s) (drop i s))) ∙ ap decimal (take-append-drop i s))

group_end : (t : ℕ) (s : List ℕ) → length s ≤ 3 → words_value_from t 0 (short_cardinal s) ≡ t + decimal s
unfolding value_from
group_end t s h = rw append-nil at (group_value t s [] h)

-- by induction on m, a bound of the length: the parts of a string are shorter
shorter_value : (m t : ℕ) (s : List ℕ) → length s < m → length s ≤ 12 → words_value_from t 0 (short_cardinal s) ≡ t + decimal s
unfolding value_from cardinal_step by_scale
shorter_value zero t s l h = absurd (omega arith)
shorter_value (suc m) t [] l h = group_end t [] (omega arith)
shorter_value (suc m) t (a ∷ []) l h = group_end t (a ∷ []) (omega arith)
shorter_value (suc m) t (a ∷ b ∷ []) l h = group_end t (a ∷ b ∷ []) (omega arith)
shorter_value (suc m) t (a ∷ b ∷ c ∷ []) l h = group_end t (a ∷ b ∷ c ∷ []) (omega arith)
shorter_value (suc m) t (a ∷ b ∷ c ∷ d ∷ r) l h =
    let s = a ∷ b ∷ c ∷ d ∷ r in
    let i = split_at (length s) in
    let k = scale_for (length s) in
    let p = scale_split (length s) (omega arith) in
    let u = t + decimal (take i s) * 1000 ^ k in
    rw (cardinal_eq (a ∷ b ∷ c ∷ d ∷ r))
    (join_value t k (take i s) (short_cardinal (drop i s)) (omega (arith, length-take i s, p.left_short h))
    ∙ shorter_value m u (drop i s) (omega (arith, length-drop i s, p.whole, p.right)) (omega (arith, length-drop i s))
    ∙ omega (arith, cut_value s i k p.whole))

-- the words of up to twelve digits stand for their decimal value
pub cardinal_value : (s : List ℕ) → length (digit_values s) ≤ 12 → words_value (cardinal s) ≡ decimal (digit_values s)
unfolding words_value cardinal cardinal_of
cardinal_value s h =
    rw (le-leb (length (digit_values s)) 12 h) (shorter_value (suc (length (digit_values s))) 0 (digit_values s) (omega arith) h ∙ zero-add (decimal (digit_values s)))

-- ---- the words as they are spelled

-- each word of a number, and its ordinal form, means what it stands for
spell_means : (w : Word) → NumberWord w → meaning_in cardinal_meanings (spell w) ≡ some (meaning_of w)
unfolding number_words consecutive_words spell unfold_vocabulary meaning_in cardinal_meanings same_by
spell_means = number_word_same (λ w. meaning_in cardinal_meanings (spell w)) (λ w. some (meaning_of w)) refl

form_means : (w : Word) → NumberWord w → meaning_in ordinal_meanings (ordinal_form (spell w)) ≡ some (meaning_of w)
unfolding number_words consecutive_words spell unfold_vocabulary ordinal_form form_in meaning_in ordinal_meanings same_by
form_means = number_word_same (λ w. meaning_in ordinal_meanings (ordinal_form (spell w))) (λ w. some (meaning_of w)) refl

spelled_mean : (ws : List Word) → Every NumberWord ws → meanings_of (spelled ws) ≡ some (map meaning_of ws)
unfolding meanings_of spelled prepend
spelled_mean [] h = refl
spelled_mean (w ∷ ws) h = rw (spell_means w h.0, spelled_mean ws h.1)

last_means : (w : Word) (ws : List Word) → Every NumberWord (w ∷ ws) → ordinal_meanings_of (spelled (on_last (w ∷ ws))) ≡ some (map meaning_of (w ∷ ws))
unfolding ordinal_meanings_of spelled spell prepend on_last
last_means w [] h = rw (form_means w h.0)
last_means w (v ∷ []) h = rw (spell_means w h.0, form_means v h.1.0)
last_means w (v ∷ u ∷ ws) h = rw (spell_means w h.0, last_means v (u ∷ ws) h.1)

-- "For 1 to 12 digits without a leading zero ("0" itself counts as such) the words are proved to name the decimal value". A
-- leading zero adds nothing, and an empty list of words names 0. So the law also holds with leading zeros and without digits
pub cardinal_names : (s : List ℕ) → length (digit_values s) ≤ 12 → value_of (spelled (cardinal s)) ≡ some (decimal (digit_values s))
unfolding value_of words_value
cardinal_names s h = rw (spelled_mean (cardinal s) (cardinal_number_words s), ← cardinal_value s h)

decimal_least : (s : List ℕ) (n : ℕ) → n ≤ decimal_from n s
unfolding decimal_from
decimal_least [] n = omega arith
decimal_least (d ∷ s) n = omega (arith, decimal_least s (n * 10 + d))

-- a number without a leading zero has words, and so has "0"
pub cardinal_some : (s : List ℕ) → 0 < length (digit_values s) → length (digit_values s) ≤ 12
    → (get_or (digit_values s) 0 0 ≡ 0 → length (digit_values s) ≡ 1) → 0 < length (cardinal s)
unfolding cardinal cardinal_of value_from decimal decimal_from
cardinal_some s z h n = rw (le-leb (length (digit_values s)) 12 h)
    (go (digit_values s) z n (shorter_value (suc (length (digit_values s))) 0 (digit_values s) (omega arith) h))
  where
    first : (d : ℕ) (ds : List ℕ) (ws : List Word) → 0 < d → value_from 0 0 (map meaning_of ws) ≡ 0 + decimal (d ∷ ds) → 0 < length ws
    first d ds [] p e = absurd (omega (arith, e, decimal_least ds (0 * 10 + d)))
    first d ds (w ∷ ws) p e = omega arith

    go : (ds : List ℕ) → 0 < length ds → (get_or ds 0 0 ≡ 0 → length ds ≡ 1) → value_from 0 0 (map meaning_of (short_cardinal ds)) ≡ 0 + decimal ds
        → 0 < length (short_cardinal ds)
    go [] z n e = absurd (omega arith)
    go (zero ∷ ds) z n e = rw (cardinal_1 (zero ∷ ds) (n refl)) (omega arith)
    go (suc d ∷ ds) z n e = first (suc d) ds (short_cardinal (suc d ∷ ds)) (omega arith) e

-- the words of an ordinal number of up to twelve digits name its decimal value
pub ordinal_names : (s : List ℕ) → length (digit_values s) ≤ 12 → ordinal_value_of (spelled (ordinal s)) ≡ some (decimal (digit_values s))
unfolding ordinal ordinal_value_of words_value value_from or_zero
ordinal_names s h =
    let t = filter_if (except (code ",")) s in
    go (cardinal t) (cardinal_number_words t) (cardinal_value t (rw (digit_values_commas s) h) ∙ ap decimal (digit_values_commas s))
  where
    go : (ws : List Word) → Every NumberWord ws → words_value ws ≡ decimal (digit_values s)
        → ordinal_value_of (spelled (on_last (or_zero ws))) ≡ some (decimal (digit_values s))
    go [] h e = rw (last_means (one 0) [] (one_number_word 0 (omega arith), tt), ← e)
    go (w ∷ ws) h e = rw (last_means w ws h, ← e)

-- if a text is read digit by digit, each word means its digit
pub digits_name : (s : List ℕ) → meanings_of (spelled (digits s)) ≡ some (map adds (digit_values s))
unfolding digits
digits_name s = spelled_mean (digits s) (digits_number_words s) ∙ ap {B = Option (List Meaning)} some (go (digit_values s))
  where
    go : (ds : List ℕ) → map meaning_of (map one ds) ≡ map adds ds
    go [] = refl
    go (d ∷ ds) = ap (λ (ms : List Meaning). adds d ∷ ms) (go ds)
