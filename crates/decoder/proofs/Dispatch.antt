-- How `decode` chooses by the first and the last word of a line. Assumes nothing.
use mathlib.Core.Path.{◌≡◌, refl}
use mathlib.Core.Bool.{Bool, true, false, not, ◌&&◌, and-eq-true_iff}
use mathlib.Core.List.{List, [], ◌∷◌, ◌++◌, map}
use Prim.Native.Nat.{ℕ, ◌-◌, ◌≤◌}
use native.Mathlib.Omega.{arith}
use lib.ListN.{length, get_or, length-append}
use lib.Seq.{take_at, get_or_at}
use borrow.Author.Tests.{ne_eqb, not-true}
use Rattle.lists.specs.Bytes.{bytes, all, same, Every, listed}
use Rattle.lists.proofs.Every.{every_imply}
use Rattle.vocabulary.specs.Vocabulary.{ordinals}
use Rattle.vocabulary.proofs.Laws.{unfold_vocabulary}
use Rattle.units.specs.Units.{abbreviations, unit_words, index_of}
use Rattle.numerals.specs.Words.{Word, other, spell, spelled, consecutive_words, number_words}
use Rattle.numerals.specs.Cardinal.{cardinal}
use Rattle.numerals.proofs.Digits.{spelled_append}
use Rattle.rows.specs.Rows.{read_with}
use Rattle.clear.specs.Clear.{plain}
use Rattle.decoder.specs.Decode.{parse_word, parse_words, first_word, last_word, but_last, decode_digits, is_letter_word, is_one_word_name, cardinal_word, with_suffix, decode}
use Rattle.decoder.proofs.Decoded.{DecodedWith}
use Rattle.decoder.proofs.NumberWords.{number_word_parsed, every_parsed, plain_some}
use Rattle.numerals.proofs.NumberWords.{NumberWord, number_word_test}

-- ---- the words of a line

-- the last word of a line that ends in x is x
pub last_word_lem : (ws : List (List ℕ)) (x : List ℕ) → last_word (ws ++ x ∷ []) ≡ x
last_word_lem ws x = get_or_at ws x [] [] (length (ws ++ x ∷ []) - 1) (omega (arith, length-append ws (x ∷ [])))

-- a line without its last words is the words before them
pub but_last_lem : (ws vs : List (List ℕ)) → but_last (length vs) (ws ++ vs) ≡ ws
but_last_lem ws vs = take_at ws vs (length (ws ++ vs) - length vs) (omega (arith, length-append ws vs))

-- two words are not one word alone
pub not_one_word : (ws : List (List ℕ)) → 2 ≤ length ws → is_one_word_name ws ≡ false
not_one_word ws h = rw (ne_eqb (length ws) 1 (omega arith))

-- ---- the words of numbers

-- the words of a number are parsed from their spelling
pub number_words_parsed : (ws : List Word) → Every NumberWord ws → parse_words (spelled ws) ≡ ws
number_words_parsed ws h = every_parsed ws (every_imply NumberWord (λ w. parse_word (spell w) ≡ w) number_word_parsed ws h)

-- no word of a number is a letter's word
pub number_word_no_letter : (w : Word) → NumberWord w → is_letter_word (spell w) ≡ false
unfolding number_words consecutive_words spell unfold_vocabulary all
number_word_no_letter w n = not-true (is_letter_word (spell w)) (number_word_test (λ w. not (is_letter_word (spell w))) refl w n)

-- a line that starts with the words of plain digits and has more words is not one word alone
pub plain_not_one_word : (s : List ℕ) → plain s ≡ true → (x : List ℕ) (vs : List (List ℕ)) → is_one_word_name (spelled (cardinal s) ++ x ∷ vs) ≡ false
unfolding spelled
plain_not_one_word s h x vs =
    let k = plain_some s h in
    rw k.2 (not_one_word (spell k.0 ∷ (map spell k.1 ++ x ∷ vs)) (omega (arith, length-append (map spell k.1) (x ∷ vs))))

-- a name is decoded if its words are decoded as the name
pub decoded : {word : List ℕ → List ℕ} (n : List ℕ) (ws : List Word) → (read_with word n).words ≡ ws → decode (spelled ws) ≡ n → DecodedWith word n
decoded n ws e h = record { decoded = rw e h }

-- ---- a number and one word more

-- a word that is no letter's word, and neither "cent" nor "m"
abbrev pub is_ordinary_end : List ℕ → Bool
is_ordinary_end x = not (is_letter_word x) && (not (same x (bytes "cent")) && not (same x (bytes "m")))

module _ (ns : List Word) (x : List ℕ) (e : Every NumberWord ns) (q : is_ordinary_end x ≡ true) (l : is_one_word_name (spelled ns ++ x ∷ []) ≡ false) where
  abbrev line : List (List ℕ)
  line = spelled ns ++ x ∷ []

  ordinary_end : (is_letter_word x ≡ false) × (same x (bytes "cent") ≡ false) × (same x (bytes "m") ≡ false)
  ordinary_end =
      let k = (and-eq-true_iff (not (is_letter_word x)) _).0 q in
      let l = (and-eq-true_iff (not (same x (bytes "cent"))) (not (same x (bytes "m")))).0 k.1 in
      (not-true _ k.0, not-true _ l.0, not-true _ l.1)

  first : is_letter_word (first_word line) ≡ false
  unfolding spelled
  first = go ns e
    where
      go : (ns : List Word) → Every NumberWord ns → is_letter_word (first_word (spelled ns ++ x ∷ [])) ≡ false
      go [] e = ordinary_end.0
      go (w ∷ ws) e = number_word_no_letter w e.0

  -- how a number and a unit's word are decoded
  pub decode_unit_lem : listed x unit_words ≡ true → decode line ≡ decode_digits ns ++ get_or abbreviations (index_of x unit_words) []
  unfolding decode
  decode_unit_lem u = rw (l, first, last_word_lem (spelled ns) x, ordinary_end.1, ordinary_end.2, u, but_last_lem (spelled ns) (x ∷ []), number_words_parsed ns e)

  -- how a number is decoded whose last word has its ordinal form
  pub decode_ordinal_lem : listed x unit_words ≡ false → listed x (map bytes ordinals) ≡ true
      → decode line ≡ with_suffix (decode_digits (parse_words (spelled ns ++ cardinal_word x ∷ [])))
  unfolding decode
  decode_ordinal_lem u o = rw (l, first, last_word_lem (spelled ns) x, ordinary_end.1, ordinary_end.2, u, o, but_last_lem (spelled ns) (x ∷ []))

  -- a name that is read as a number and one word more is decoded if its line is
  pub decoded_ordinary : {word : List ℕ → List ℕ} (n : List ℕ) → (read_with word n).words ≡ ns ++ other x ∷ [] → decode line ≡ n → DecodedWith word n
  unfolding spelled spell
  decoded_ordinary n r h =
      let s : spelled (ns ++ other x ∷ []) ≡ line = spelled_append ns (other x ∷ []) in
      decoded n (ns ++ other x ∷ []) r (rw s h)
