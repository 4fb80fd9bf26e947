-- How the words that a writer says add up. Assumes nothing.
use mathlib.Core.Path.{◌≡◌, refl, sym, ap, ◌∙◌}
use mathlib.Core.List.{List, [], ◌∷◌, ◌++◌}
use Prim.Native.Nat.{ℕ, ◌+◌, ◌<◌}
use native.Mathlib.Numerals.{add-one}
use lib.ListN.{length, take, get_or}
use lib.Seq.{take-suc}
use Rattle.lists.proofs.Scan.{ByParts}
use Rattle.word_writer.specs.Writer.{written, put_words, SameBuffers, Says}
use Rattle.word_writer.specs.declared.Writer.{Writer}
use Rattle.word_writer.proofs.Finish.{put_words_append}

-- a writer that is left alone said nothing
pub says_nothing : {p : Writer} → Says [] p p
unfolding put_words
says_nothing = record { buffers = record { store = refl; table = refl }; result = refl }

-- the buffers stay the same over two steps
pub same_buffers_on : {p q r : Writer} → SameBuffers p q → SameBuffers q r → SameBuffers p r
same_buffers_on a b = record { store = b.store ∙ a.store; table = b.table ∙ a.table }

-- words said after words
pub says_append : {ws vs : List (List ℕ)} {p q r : Writer} → Says ws p q → Says vs q r → Says (ws ++ vs) p r
says_append {ws} {vs} {p} a b =
    record {
      buffers = same_buffers_on a.buffers b.buffers;
      result = b.result ∙ ap (put_words vs) a.result ∙ sym (put_words_append ws vs (written p));
    }

-- the same words by another name
pub says_same : {ws vs : List (List ℕ)} {p q : Writer} → ws ≡ vs → Says ws p q → Says vs p q
says_same {ws} {vs} {p} e a = record { buffers = a.buffers; result = a.result ∙ ap (λ (us : List (List ℕ)). put_words us (written p)) e }

-- a loop over the bytes of the text s says their words, which f gives: after one more byte it said one more byte's words
pub says_byte : (f : List ℕ → List (List ℕ)) (s : List ℕ) (i : ℕ) {p₀ p q : Writer} → ByParts f → i < length s → Says (f (take i s)) p₀ p
    → Says (f (get_or s i 0 ∷ [])) p q → Says (f (take (i + 1) s)) p₀ q
says_byte f s i parts h a b = says_same (sym (rw (add-one i, take-suc s i 0 h) (parts (take i s) (get_or s i 0 ∷ [])))) (says_append a b)

-- p₀ has the words ws to say; p said some of them, and the words vs are left
pub record Leaves (ws vs : List (List ℕ)) (p₀ p : Writer) : Type 0 where
  pub buffers : SameBuffers p₀ p
  pub left : put_words vs (written p) ≡ put_words ws (written p₀)

-- at first all words are left
pub leaves_all : {ws : List (List ℕ)} {p : Writer} → Leaves ws ws p p
leaves_all = record { buffers = record { store = refl; table = refl }; left = refl }

-- the next words gs are said, and us are left
pub leaves_next : {ws vs : List (List ℕ)} {p₀ p q : Writer} → Leaves ws vs p₀ p → (gs us : List (List ℕ)) → vs ≡ gs ++ us → Says gs p q → Leaves ws us p₀ q
leaves_next {p = p} l gs us e a =
    record {
      buffers = same_buffers_on l.buffers a.buffers;
      left =
          ap (put_words us) a.result ∙ sym (put_words_append gs us (written p))
          ∙ ap (λ (vs : List (List ℕ)). put_words vs (written p)) (sym e) ∙ l.left;
    }

-- all words that are left are said
pub leaves_none : {ws vs : List (List ℕ)} {p₀ p q : Writer} → Leaves ws vs p₀ p → Says vs p q → Says ws p₀ q
leaves_none l a = record { buffers = same_buffers_on l.buffers a.buffers; result = a.result ∙ l.left }
