-- The words of `letters` are those of the text's characters by RFC 3629. Assumes nothing.
use mathlib.Core.Path.{◌≡◌, refl, sym, ap, ap₂, ◌∙◌}
use mathlib.Core.Bool.{true, false, and-true, and-false, and-eq-true_iff}
use mathlib.Core.List.{List, [], ◌∷◌, ◌++◌, map, flatten}
use Prim.Native.Nat.{ℕ, ◌+◌, ◌/◌, ◌≤◌, ◌<◌}
use Prim.Native.Char.{code}
use native.Mathlib.Omega.{arith}
use lib.ListN.{length, get_or, length-map}
use borrow.Author.Tests.{lt-leb}
use Rattle.lists.specs.Bytes.{all, Every, to_lower, same_by, onto}
use Rattle.lists.specs.Classes.{continuation}
use Rattle.admit.specs.Utf8.{utf8, utf8_chars}
use Rattle.admit.specs.Scalars.{encode, text_of}
use Rattle.admit.proofs.Scalars.{encode_elim, tail_true, text_chars, utf8_scalars}
use Rattle.numerals.specs.Words.{other, spell, spelled}
use Rattle.letters.specs.Letters.{chars, letter_word, letters, character_word}

-- continuation bytes belong to the byte before them
chars_run : (b : ℕ) (s r : List ℕ) → all continuation s ≡ true → continuation (get_or r 0 0) ≡ false → chars (b ∷ s ++ r) ≡ (b ∷ s) ∷ chars r
unfolding chars all onto
chars_run b [] r h k = rw k
chars_run b (c ∷ s) r h k = let g = (and-eq-true_iff (continuation c) (all continuation s)).0 h in rw g.0 (ap (onto b) (chars_run c s r g.1 k))

-- the first byte of a scalar value is no continuation byte
first_byte : (c : ℕ) (r : List ℕ) → continuation (get_or (encode c ++ r) 0 0) ≡ false
first_byte c r =
    encode_elim (λ l. continuation (get_or (l ++ r) 0 0) ≡ false) c (λ h. rw (lt-leb 0x80 c (omega arith)))
    (λ h. simp (lt-leb (0xC0 + c / 64) 0xBF (omega arith), and-false))
    (λ h. simp (lt-leb (0xE0 + c / 4096) 0xBF (omega arith), and-false))
    (λ h. simp (lt-leb (0xF0 + c / 262144) 0xBF (omega arith), and-false))

-- its other bytes are continuation bytes, so its bytes are one character
chars_encode : (c : ℕ) (r : List ℕ) → continuation (get_or r 0 0) ≡ false → chars (encode c ++ r) ≡ encode c ∷ chars r
unfolding all
chars_encode c r k =
    encode_elim (λ l. chars (l ++ r) ≡ l ∷ chars r) c (λ h. chars_run _ _ r refl k)
    (λ h. chars_run _ _ r (rw (tail_true c)) k)
    (λ h. chars_run _ _ r (rw (tail_true (c / 64), tail_true c)) k)
    (λ h. chars_run _ _ r (rw (tail_true (c / 4096), tail_true (c / 64), tail_true c)) k)

-- the characters of a text of scalar values are the encodings of these values
chars_text : (cs : List ℕ) → (chars (text_of cs) ≡ map encode cs) × (continuation (get_or (text_of cs) 0 0) ≡ false)
unfolding chars flatten
chars_text [] = (refl, refl)
chars_text (c ∷ cs) =
    let i = chars_text cs in
    (chars_encode c (text_of cs) i.1 ∙ ap (λ (l : List (List ℕ)). encode c ∷ l) i.0, first_byte c (text_of cs))

-- the characters of a UTF-8 text are those of RFC 3629's table
pub chars_utf8 : (s : List ℕ) → utf8 s ≡ true → chars s ≡ utf8_chars s
chars_utf8 s h = let t = (utf8_scalars s).0 h in rw t.2 ((chars_text t.0).0 ∙ sym (text_chars t.0 t.1))

-- ---- the words

-- no byte above ASCII is lowered
high_bytes_lower : (s : List ℕ) → Every (λ b. 0x80 ≤ b) s → map to_lower s ≡ s
high_bytes_lower [] h = refl
high_bytes_lower (b ∷ s) h = let k : code "Z" < b = omega arith in ap₂ ◌∷◌ (simp (lt-leb b (code "Z") k, and-false)) (high_bytes_lower s h.1)

-- the word of a character of several bytes, and then of any character
several : (a b : ℕ) (s : List ℕ) → Every (λ b. 0x80 ≤ b) (a ∷ b ∷ s) → letter_word (a ∷ b ∷ s) ≡ character_word (a ∷ b ∷ s)
unfolding letter_word same_by
several a b s h = rw (high_bytes_lower (a ∷ b ∷ s) h) (simp and-false)

letter_encode : (c : ℕ) → letter_word (encode c) ≡ character_word (encode c)
unfolding letter_word same_by
letter_encode c =
    encode_elim (λ l. letter_word l ≡ character_word l) c (λ h. simp and-true) (λ h. several _ _ _ (omega arith))
    (λ h. several _ _ _ (omega arith)) (λ h. several _ _ _ (omega arith))

-- the words of a text of scalar values
letters_text : (cs : List ℕ) → spelled (map (λ c. other (letter_word c)) (map encode cs)) ≡ map character_word (map encode cs)
unfolding spelled spell
letters_text [] = refl
letters_text (c ∷ cs) = ap₂ ◌∷◌ (letter_encode c) (letters_text cs)

-- a UTF-8 text has a word for each of its characters, and that is "_a" or the character lowered
pub letters_utf8 : (s : List ℕ) → utf8 s ≡ true → spelled (letters s) ≡ map character_word (utf8_chars s)
unfolding letters
letters_utf8 s h = let t = (utf8_scalars s).0 h in rw (t.2, (chars_text t.0).0, text_chars t.0 t.1) (letters_text t.0)

-- a UTF-8 text has as many words as characters
pub letters_count : (s : List ℕ) → utf8 s ≡ true → length (letters s) ≡ length (utf8_chars s)
unfolding letters
letters_count s h = rw (chars_utf8 s h) (length-map (utf8_chars s) (λ c. other (letter_word c)))
