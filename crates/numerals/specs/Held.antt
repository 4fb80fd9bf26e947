-- Holding back the last word. Definitions only; no public promise is made of them.
use Rattle.std.specs.Prelude.{◌≡◌, List, [], ◌∷◌, Option, Some, None, ℕ}
use Rattle.vocabulary.specs.Vocabulary.{word_of}
use Rattle.word_writer.specs.Writer.{Written, written, put_word, SameBuffers}
use Rattle.word_writer.specs.declared.Writer.{Writer}
use Rattle.numerals.specs.Walk.{ordinal_number}
use Rattle.numerals.specs.declared.held.Held.{Held}

-- what is written, and the number of the word that is held
pub record HeldWriter : Type 0 where
  pub writer : Written
  pub last : Option ℕ

abbrev pub held : Held → Writer → HeldWriter
held h p = record { writer = written p; last = h.last }

-- the word that is held is written
abbrev pub flush_word : Option ℕ → Written → Written
flush_word None s = s
flush_word (Some k) s = put_word (word_of k) s

unfoldable pub flushed : HeldWriter → Written
flushed h = flush_word h.last h.writer

-- the word that is held is written in its ordinal form
abbrev pub form_word : Option ℕ → Written → Written
form_word last s = put_word (word_of (ordinal_number last)) s

unfoldable pub formed : HeldWriter → Written
formed h = form_word h.last h.writer

-- the word that is held is written, and word k is held
unfoldable pub hold_word : ℕ → HeldWriter → HeldWriter
hold_word k h = record { writer = flushed h; last = Some k }

unfoldable pub hold_words : List ℕ → HeldWriter → HeldWriter
hold_words [] h = h
hold_words (k ∷ ks) h = hold_words ks (hold_word k h)

-- after the words with the numbers ks are held, h is g and the writer p is q
pub record Holds (ks : List ℕ) (h : Held) (p : Writer) (g : Held) (q : Writer) : Type 0 where
  pub buffers : SameBuffers p q
  pub words : held g q ≡ hold_words ks (held h p)
