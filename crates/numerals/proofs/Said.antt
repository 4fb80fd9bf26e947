-- Words said one after the other. Assumes nothing.
use mathlib.Core.Path.{◌≡◌, sym}
use mathlib.Core.List.{List, [], ◌∷◌, ◌++◌}
use Prim.Native.Nat.{ℕ, ◌+◌, ◌<◌}
use Rattle.vocabulary.specs.Vocabulary.{word_of, ones_at, scales_at}
use Rattle.word_writer.specs.Writer.{Says}
use Rattle.word_writer.specs.declared.Writer.{Writer}
use Rattle.word_writer.proofs.Saying.{says_append, says_same, says_nothing}
use Rattle.numerals.specs.Words.{Word, one, hundred, other, spell, spelled}
use Rattle.numerals.proofs.Digits.{spelled_append}
use Rattle.numerals.proofs.Forms.{digit_number, hundred_number}

-- no word is said
pub said_nothing : {p : Writer} → Says (spelled []) p p
unfolding spelled
said_nothing = says_nothing

-- one word is said
pub said_word : (w : Word) {p q : Writer} → Says (spell w ∷ []) p q → Says (spelled (w ∷ [])) p q
unfolding spelled
said_word w a = a

-- a word that no table of numbers has is said
pub said_other : (w : List ℕ) {p q : Writer} → Says (w ∷ []) p q → Says (spelled (other w ∷ [])) p q
unfolding spell
said_other w a = said_word (other w) a

-- the word of a digit is said by its number
pub said_digit : (d : ℕ) {p q : Writer} → d < 10 → Says (word_of (ones_at + d) ∷ []) p q → Says (spelled (one d ∷ [])) p q
unfolding spelled
said_digit d h a = rw (digit_number d h) a

-- the word "hundred" is said by its number
pub said_hundred : {p q : Writer} → Says (word_of scales_at ∷ []) p q → Says (spelled (hundred ∷ [])) p q
unfolding spelled
said_hundred a = rw hundred_number a

-- one list of words is said after another
pub says_more : (ws vs : List Word) {us : List Word} {p q r : Writer} → us ≡ ws ++ vs → Says (spelled ws) p q → Says (spelled vs) q r → Says (spelled us) p r
says_more ws vs e a b = says_same (sym (rw e (spelled_append ws vs))) (says_append a b)
