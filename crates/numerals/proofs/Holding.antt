-- Lists of words that are held one after the other. Assumes nothing.
use mathlib.Core.Path.{◌≡◌, refl, sym, ap, ◌∙◌}
use mathlib.Core.Bool.{cond}
use mathlib.Core.List.{List, [], ◌∷◌, ◌++◌, map, map-append}
use Prim.Native.Nat.{ℕ, zero, suc}
use native.Mathlib.Omega.{arith}
use lib.Dec.{eqb}
use borrow.Author.Tests.{ne_eqb}
use Rattle.numerals.specs.Words.{Word, one, teen, ten}
use Rattle.numerals.specs.Cardinal.{pair_words}
use Rattle.numerals.specs.Walk.{number_of}
use Rattle.numerals.specs.Held.{HeldWriter, held, hold_word, hold_words, Holds}
use Rattle.numerals.specs.declared.held.Held.{Held}
use Rattle.word_writer.specs.declared.Writer.{Writer}
use Rattle.word_writer.proofs.Saying.{same_buffers_on}

-- one list of numbers after the other
pub hold_words_append : (ks js : List ℕ) (h : HeldWriter) → hold_words (ks ++ js) h ≡ hold_words js (hold_words ks h)
unfolding hold_words
hold_words_append [] js h = refl
hold_words_append (k ∷ ks) js h = hold_words_append ks js (hold_word k h)

-- the same for words, by their numbers
pub hold_words_words : (ws vs : List Word) (h : HeldWriter) → hold_words (map number_of (ws ++ vs)) h ≡ hold_words (map number_of vs) (hold_words (map number_of ws) h)
hold_words_words ws vs h = rw (map-append number_of ws vs) (hold_words_append (map number_of ws) (map number_of vs) h)

-- if nothing is done, no word was held
pub holds_nothing : {h : Held} {p : Writer} → Holds [] h p h p
unfolding hold_words
holds_nothing = record { buffers = record { store = refl; table = refl }; words = refl }

-- the same words by another name
pub holds_same : (ws : List Word) {vs : List Word} {h g : Held} {p q : Writer} → vs ≡ ws → Holds (map number_of ws) h p g q → Holds (map number_of vs) h p g q
holds_same ws e a = rw e a

-- one list of words is held after another
pub holds_more : (ws vs : List Word) {us : List Word} {h g f : Held} {p q r : Writer} → us ≡ ws ++ vs → Holds (map number_of ws) h p g q
    → Holds (map number_of vs) g q f r → Holds (map number_of us) h p f r
holds_more ws vs {h = h} {p = p} e a b =
    rw e
    (record {
      buffers = same_buffers_on a.buffers b.buffers;
      words = b.words ∙ ap (hold_words (map number_of vs)) a.words ∙ sym (hold_words_words ws vs (held h p));
    })

-- the words of a pair, by the tests that the code makes
pub pair_tests : (t n : ℕ)
    → pair_words t n ≡ cond (eqb t 0) (cond (eqb n 0) [] (one n ∷ []))
    (cond (eqb n 0) (ten t ∷ []) (cond (eqb t 1) (teen n ∷ []) (ten t ∷ one n ∷ [])))
unfolding pair_words
pair_tests zero zero = refl
pair_tests zero (suc n) = rw (ne_eqb (suc n) 0 (omega arith))
pair_tests (suc t) zero = rw (ne_eqb (suc t) 0 (omega arith))
pair_tests (suc zero) (suc n) = rw (ne_eqb (suc n) 0 (omega arith))
pair_tests (suc (suc t)) (suc n) = rw (ne_eqb (suc (suc t)) 0 (omega arith), ne_eqb (suc n) 0 (omega arith), ne_eqb (suc (suc t)) 1 (omega arith))
