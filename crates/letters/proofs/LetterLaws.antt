-- The characters of a text, one after the other. Assumes nothing.
use mathlib.Core.Path.{◌≡◌, refl, sym, ap, ap₂, ◌∙◌}
use mathlib.Core.Bool.{Bool, true, false, cond}
use mathlib.Core.List.{List, [], ◌∷◌, ◌++◌, map, flatten}
use Rattle.word_writer.specs.Writer.{Says}
use Rattle.word_writer.specs.declared.Writer.{Writer}
use Prim.Native.Nat.{ℕ, suc, ◌<◌}
use Prim.Native.Char.{code}
use native.Mathlib.Omega.{arith}
use lib.ListN.{length, take, drop, get_or, length-drop}
use borrow.Author.Tests.{eq-eqb, ne_eqb}
use Rattle.lists.specs.Bytes.{bytes, to_lower, span, onto}
use Rattle.lists.specs.Classes.{continuation}
use Rattle.numerals.specs.Words.{other, spell, spelled}
use Rattle.letters.specs.Letters.{chars, letter_word, letters}
use Rattle.letters.specs.Walk.{char_span}

-- the first character, and those of what is left
chars_cons : (b : ℕ) (s : List ℕ) → chars (b ∷ s) ≡ (b ∷ take (span continuation s) s) ∷ chars (drop (span continuation s) s)
unfolding chars span onto
chars_cons b [] = refl
chars_cons b (c ∷ s) = go (continuation c) (chars_cons c s)
  where
    n : ℕ
    n = span continuation s

    go : (t : Bool) → chars (c ∷ s) ≡ (c ∷ take n s) ∷ chars (drop n s)
        → cond t (onto b (chars (c ∷ s))) ((b ∷ []) ∷ chars (c ∷ s)) ≡ (b ∷ take (cond t (suc n) 0) (c ∷ s)) ∷ chars (drop (cond t (suc n) 0) (c ∷ s))
    go true e = ap (onto b) e
    go false e = refl

-- joined, the characters of a text are the text
pub chars_join : (s : List ℕ) → flatten (chars s) ≡ s
unfolding chars flatten onto
chars_join [] = refl
chars_join (b ∷ s) = go (continuation (get_or s 0 0)) (chars s) (chars_join s)
  where
    go : (t : Bool) (cs : List (List ℕ)) → flatten cs ≡ s → flatten (cond t (onto b cs) ((b ∷ []) ∷ cs)) ≡ b ∷ s
    go true [] e = ap (λ (l : List ℕ). b ∷ l) e
    go true (c ∷ cs) e = ap (λ (l : List ℕ). b ∷ l) e
    go false cs e = ap (λ (l : List ℕ). b ∷ l) e

-- an empty text has no words
pub letters_end : (s : List ℕ) → length s ≡ 0 → [] ≡ spelled (letters s)
unfolding letters chars spelled
letters_end [] h = refl
letters_end (b ∷ s) h = absurd (omega arith)

-- the word of the first character, and those of what is left
letters_cons : (s : List ℕ) → 0 < length s → letters s ≡ other (letter_word (take (char_span s) s)) ∷ letters (drop (char_span s) s)
unfolding letters
letters_cons [] h = absurd (omega arith)
letters_cons (b ∷ s) h = ap (map (λ (c : List ℕ). other (letter_word c))) (chars_cons b s)

-- what is left of a text after its first character, and the words of that
module _ (s : List ℕ) (h : 0 < length s) where
  -- it is shorter
  pub rest_shorter : {t : List ℕ} → t ≡ drop (char_span s) s → length t < length s
  rest_shorter e = omega (arith, ap length e, length-drop (char_span s) s)

  pub letters_on : {c t : List ℕ} → c ≡ take (char_span s) s → t ≡ drop (char_span s) s
      → spelled (letters s) ≡ (letter_word c ∷ []) ++ spelled (letters t)
  unfolding spelled spell
  letters_on e d = ap spelled (letters_cons s h) ∙ ap₂ (λ (w l : List ℕ). letter_word w ∷ spelled (letters l)) (sym e) (sym d)

-- a writer says the word of the letter a in either case
pub says_a : (c : List ℕ) {p q : Writer} → length c ≡ 1 → to_lower (get_or c 0 0) ≡ code "a" → Says (bytes "_a" ∷ []) p q
    → Says (letter_word c ∷ []) p q
unfolding letter_word
says_a [] n a d = absurd (omega arith)
says_a (b ∷ []) n a d = rw (eq-eqb (to_lower b) (code "a") a) d
says_a (b ∷ e ∷ s) n a d = absurd (omega arith)

-- of any other character of one byte, which is lowered
pub says_lowered : (c : List ℕ) {p q : Writer} → length c ≡ 1 → (to_lower (get_or c 0 0) ≡ code "a" → ⊥)
    → Says ((to_lower (get_or c 0 0) ∷ []) ∷ []) p q → Says (letter_word c ∷ []) p q
unfolding letter_word
says_lowered [] n a d = absurd (omega arith)
says_lowered (b ∷ []) n a d = rw (ne_eqb (to_lower b) (code "a") a) d
says_lowered (b ∷ e ∷ s) n a d = absurd (omega arith)

-- of it, if what is said is the text of one byte, lowered
pub says_byte : (c : List ℕ) {p q : Writer} → length c ≡ 1 → (to_lower (get_or c 0 0) ≡ code "a" → ⊥) → Says (map to_lower c ∷ []) p q
    → Says (letter_word c ∷ []) p q
says_byte [] n a d = absurd (omega arith)
says_byte (b ∷ []) n a d = says_lowered (b ∷ []) n a d
says_byte (b ∷ e ∷ s) n a d = absurd (omega arith)

-- and of a character of several bytes
pub says_bytes : (c : List ℕ) {p q : Writer} → (length c ≡ 1 → ⊥) → Says (c ∷ []) p q → Says (letter_word c ∷ []) p q
unfolding letter_word
says_bytes [] n d = d
says_bytes (b ∷ []) n d = absurd (n refl)
says_bytes (b ∷ e ∷ s) n d = d
