-- No other text has the key of an abbreviation, the vocabulary has each word, and a look-up goes row by row. Assumes nothing.
use mathlib.Core.Path.{◌≡◌, refl, sym, ap, ◌∙◌}
use mathlib.Core.Bool.{Bool, true, false, cond, not, ◌&&◌, ◌||◌, and-eq-true_iff, true≢false}
use mathlib.Core.List.{List, [], ◌∷◌, map}
use Prim.Native.Nat.{ℕ, suc, ◌+◌, ◌*◌, ◌≤◌, ◌<◌, ◌%◌}
use native.Mathlib.Nat.{mod-eq_of_lt, add-mul-mod_self_left, eq_of_mul-eq-mul_left}
use native.Mathlib.Omega.{arith}
use lib.Dec.{leb, ltb, eqb, leb-suc-suc}
use lib.ListN.{length, get_or, get_or-eq_default}
use borrow.Author.Tests.{lt-ltb, le-leb, leb-true, leb-false, eq-eqb, ne_eqb, eqb-true, eqb-false, ltb-true}
use Rattle.std.specs.Int.{w32, from_le_bytes}
use Rattle.std.specs.List.{position, position_or_len}
use Rattle.std.specs.Option.{is_some}
use Rattle.std.proofs.Common.{Some, None}
use Rattle.std.proofs.lemmas.Option.{cond_some}
use Rattle.lists.specs.Bytes.{all, any, same, same_by, listed}
use Rattle.lists.specs.LittleEndian.{le_value}
use Rattle.lists.proofs.Scan.{same_long}
use Rattle.lists.proofs.Table.{below, same_true}
use Rattle.vocabulary.specs.Vocabulary.{word_of}
use Rattle.vocabulary.proofs.Laws.{unfold_vocabulary}
use Rattle.units.specs.Units.{unit_abbreviations, abbreviations, unit_words, index_of, unit_index, is_unit, unit_row, unit_word, key, unit_key, unit_keys, word_numbers}

-- two numbers, each a lowest digit and a rest, are equal exactly if the digits are equal and the rests are
digit_same : (n b c v w : ℕ) → b < n → c < n → eqb (b + n * v) (c + n * w) ≡ eqb b c && eqb v w
digit_same n b c v w h g = go (eqb b c) (eqb v w) refl refl
  where
    low : b + n * v ≡ c + n * w → b ≡ c
    low e = rw (add-mul-mod_self_left b n v, add-mul-mod_self_left c n w, mod-eq_of_lt h, mod-eq_of_lt g) at (ap (λ (x : ℕ). x % n) e)

    go : (s t : Bool) → eqb b c ≡ s → eqb v w ≡ t → eqb (b + n * v) (c + n * w) ≡ s && t
    go true true p q = rw (eqb-true b c p, eqb-true v w q) (eq-eqb (c + n * w) (c + n * w) refl)
    go true false p q = ne_eqb (b + n * v) (c + n * w) (λ e. eqb-false v w q (eq_of_mul-eq-mul_left n (omega arith) v w (omega (arith, low e))))
    go false t p q = ne_eqb (b + n * v) (c + n * w) (λ e. eqb-false b c p (low e))

-- the key of a text of 2 bytes, as the code reads it
pub key_two : (u : List ℕ) → 2 ≤ length u → length u < 3 → Some (from_le_bytes w32 (2 ∷ get_or u 0 0 ∷ get_or u 1 0 ∷ 0 ∷ [])) ≡ unit_key u
unfolding unit_key key le_value
key_two [] h g = absurd (omega arith)
key_two (a ∷ []) h g = absurd (omega arith)
key_two (a ∷ b ∷ []) h g = ap Some (omega arith)
key_two (a ∷ b ∷ c ∷ u) h g = absurd (omega arith)

-- the key of a text of 3 bytes
pub key_three : (u : List ℕ) → 3 ≤ length u → length u < 4
    → Some (from_le_bytes w32 (3 ∷ get_or u 0 0 ∷ get_or u 1 0 ∷ get_or u 2 0 ∷ [])) ≡ unit_key u
unfolding unit_key key le_value
key_three [] h g = absurd (omega arith)
key_three (a ∷ []) h g = absurd (omega arith)
key_three (a ∷ b ∷ []) h g = absurd (omega arith)
key_three (a ∷ b ∷ c ∷ []) h g = ap Some (omega arith)
key_three (a ∷ b ∷ c ∷ d ∷ u) h g = absurd (omega arith)

-- each element is a byte
abbrev Bytes : List ℕ → Type 0
Bytes s = (i : ℕ) → get_or s i 0 < 256

-- the same as a test that can be computed
abbrev bytesb : List ℕ → Bool
bytesb s = all (λ b. ltb b 256) s

-- texts of the same length are the same exactly if their values are
value_same : (a u : List ℕ) → bytesb a ≡ true → Bytes u → length a ≡ length u → eqb (le_value a) (le_value u) ≡ same a u
unfolding le_value all same_by
value_same [] [] t q e = refl
value_same [] (c ∷ u) t q e = absurd (omega arith)
value_same (b ∷ a) [] t q e = absurd (omega arith)
value_same (b ∷ a) (c ∷ u) t q e =
    let y = (and-eq-true_iff (ltb b 256) (bytesb a)).0 t in
    rw (digit_same 256 b c (le_value a) (le_value u) (ltb-true b 256 y.0) (q 0), value_same a u y.1 (λ i. q (suc i)) (omega arith))

-- texts are the same exactly if their lengths and their values are
text_same : (a u : List ℕ) → bytesb a ≡ true → Bytes u → (eqb (length a) (length u) && eqb (le_value a) (le_value u)) ≡ same a u
text_same a u p q = go (eqb (length a) (length u)) refl
  where
    go : (t : Bool) → eqb (length a) (length u) ≡ t → (t && eqb (le_value a) (le_value u)) ≡ same a u
    go true e = value_same a u p q (eqb-true (length a) (length u) e)
    go false e = sym (same_long _ a u (eqb-false (length a) (length u) e))

-- the text has 2 or 3 bytes
abbrev keyed : List ℕ → Bool
keyed u = leb 2 (length u) && leb (length u) 3

-- two texts of less than 256 bytes have the same key exactly if they are the same
pub key_same : (a u : List ℕ) → length a < 256 → length u < 256 → bytesb a ≡ true → Bytes u → eqb (key a) (key u) ≡ same a u
unfolding key le_value
key_same a u h g p q = digit_same 256 (length a) (length u) (le_value a) (le_value u) h g ∙ text_same a u p q

-- where every text of more than 3 bytes has the key 0, any text u has the key of a text a of 1 to 3 bytes exactly if u is a
pub key_same_any : (a u : List ℕ) → 1 ≤ length a → length a ≤ 3 → bytesb a ≡ true → Bytes u
    → eqb (cond (leb (length a) 3) (key a) 0) (cond (leb (length u) 3) (key u) 0) ≡ same a u
unfolding key le_value
key_same_any a u h l p q = rw (le-leb (length a) 3 l) (go (leb (length u) 3) refl)
  where
    go : (t : Bool) → leb (length u) 3 ≡ t → eqb (key a) (cond t (key u) 0) ≡ same a u
    go true e = key_same a u (omega arith) (omega (arith, leb-true _ _ e)) p q
    go false e = ne_eqb (key a) 0 (λ z. omega arith) ∙ sym (same_long _ a u (λ z. omega (arith, leb-false _ _ e)))

-- a text of 2 or 3 bytes has less than 256
keyed_short : (u : List ℕ) → keyed u ≡ true → length u < 256
keyed_short u k = omega (arith, leb-true _ _ ((and-eq-true_iff (leb 2 (length u)) (leb (length u) 3)).0 k).1)

-- an abbreviation: its bytes are such, and it has 2 or 3
abbrev short_text : List ℕ → Bool
short_text a = keyed a && bytesb a

-- the first key that is the key of u stands where the first text that is u stands
index_of_key : (u : List ℕ) (ss : List (List ℕ)) → keyed u ≡ true → Bytes u → all short_text ss ≡ true
    → position_or_len (λ k. eqb k (key u)) (map key ss) ≡ index_of u ss
unfolding all index_of
index_of_key u [] l b t = refl
index_of_key u (a ∷ ss) l b t =
    let x = (and-eq-true_iff (short_text a) (all short_text ss)).0 t in
    let y = (and-eq-true_iff (keyed a) (bytesb a)).0 x.0 in
    rw (key_same a u (keyed_short a y.0) (keyed_short u l) y.1 b, index_of_key u ss l b x.1) (go (same a u))
  where
    go : (t : Bool) → cond (not t) (1 + index_of u ss) 0 ≡ cond t 0 (suc (index_of u ss))
    go true = refl
    go false = omega arith

-- a text of another length is none of them
no_key : (u : List ℕ) (ss : List (List ℕ)) → keyed u ≡ false → all short_text ss ≡ true → listed u ss ≡ false
unfolding all any
no_key u [] l t = refl
no_key u (a ∷ ss) l t =
    let x = (and-eq-true_iff (short_text a) (all short_text ss)).0 t in
    let y = (and-eq-true_iff (keyed a) (bytesb a)).0 x.0 in
    rw (same_long _ a u (λ e. true≢false (rw e at (sym y.0) ∙ l)), no_key u ss l x.1) refl

-- the word of row k is the one that the vocabulary has under its number
has_word : ℕ → Bool
has_word k = same (word_of (get_or word_numbers k 0)) (get_or unit_words k [])

-- this holds of every row
pub unit_word_number : (k : ℕ) → k < 22 → word_of (get_or word_numbers k 0) ≡ get_or unit_words k []
unfolding has_word unfold_vocabulary word_numbers index_of unit_words unit_abbreviations
unit_word_number k h = same_true _ _ (below has_word 22 refl k h)

abbreviations_length : length abbreviations ≡ 22
unfolding abbreviations unit_abbreviations
abbreviations_length = refl

-- a text is one of those listed exactly if fewer than all stand before it
pub listed_index_of : (t : List ℕ) (ss : List (List ℕ)) → listed t ss ≡ ltb (index_of t ss) (length ss)
unfolding any index_of
listed_index_of t [] = refl
listed_index_of t (s ∷ ss) = go (same s t) (listed_index_of t ss)
  where
    go : (b : Bool) → listed t ss ≡ ltb (index_of t ss) (length ss) → (b || listed t ss) ≡ ltb (cond b 0 (suc (index_of t ss))) (suc (length ss))
    go true h = sym (lt-ltb 0 (suc (length ss)) (omega arith))
    go false h = h ∙ sym (leb-suc-suc (suc (index_of t ss)) (length ss))

-- a text is a unit exactly if its row number is below 22
pub unit_in_table : (u : List ℕ) → is_unit u ≡ ltb (unit_index u) 22
unit_in_table u = listed_index_of u abbreviations ∙ ap (ltb (unit_index u)) abbreviations_length

-- the row of a text with a key is found by that key
pub row_of_key : (u : List ℕ) (k : ℕ) → Bytes u → Some k ≡ unit_key u → position (λ j. eqb j k) unit_keys ≡ unit_row u
unfolding unit_key unit_row unit_keys abbreviations unit_abbreviations all
row_of_key u k b e =
    let x = cond_some (keyed u) (key u) k (sym e) in
    let i = index_of_key u abbreviations x.0 b refl in
    rw (← x.1, i, unit_in_table u)

-- a text with no key has no row
pub row_of_no_key : (u : List ℕ) → None ≡ unit_key u → None ≡ unit_row u
unfolding unit_key unit_row abbreviations unit_abbreviations all
row_of_no_key u e = go (keyed u) refl e
  where
    go : (t : Bool) → keyed u ≡ t → None ≡ cond t (Some (key u)) None → None ≡ unit_row u
    go true l e = cc
    go false l e = rw (no_key u abbreviations l refl) refl

-- no abbreviation is empty
pub empty_none : is_unit [] ≡ false
unfolding abbreviations unit_abbreviations any same_by
empty_none = refl

-- and it has no word
pub miss_word : (u : List ℕ) → 22 ≤ unit_index u → unit_word u ≡ []
unfolding unit_words unit_abbreviations
miss_word u h = get_or-eq_default unit_words [] h

-- the row of a text is there exactly if the text is a unit
pub row_there : (u : List ℕ) → is_some (unit_row u) ≡ is_unit u
unfolding unit_row
row_there u = go (is_unit u)
  where
    go : (t : Bool) → is_some (cond t (Some (unit_index u)) None) ≡ t
    go true = refl
    go false = refl

-- a text with a row is a unit, and the row is the first that has it
pub row_some : (u : List ℕ) (k : ℕ) → Some k ≡ unit_row u → (is_unit u ≡ true) × (unit_index u ≡ k)
unfolding unit_row
row_some u k e = go (is_unit u) refl e
  where
    go : (t : Bool) → is_unit u ≡ t → Some k ≡ cond t (Some (unit_index u)) None → (is_unit u ≡ true) × (unit_index u ≡ k)
    go true h e = (h, cc)
    go false h e = cc

-- the vocabulary has the word of that row under its number
pub row_word : (u : List ℕ) (k : ℕ) → Some k ≡ unit_row u → word_of (get_or word_numbers k 0) ≡ unit_word u
row_word u k e =
    let y = row_some u k e in
    rw (← y.1) (unit_word_number (unit_index u) (ltb-true _ _ (sym (unit_in_table u) ∙ y.0)))

-- a text with no row is no unit
pub row_none : (u : List ℕ) → None ≡ unit_row u → is_unit u ≡ false
row_none u e = sym (row_there u) ∙ ap is_some (sym e)
