-- The words of a number that has no sign and no "e", and the words of one step of `real`. Assumes nothing.
use mathlib.Core.Path.{◌≡◌, refl, sym, ◌∙◌}
use mathlib.Core.Bool.{true, false}
use mathlib.Core.List.{List, [], ◌∷◌, append-nil}
use Prim.Native.Nat.{ℕ, ◌<◌}
use Prim.Native.Char.{code}
use native.Mathlib.Omega.{arith}
use lib.ListN.{length, take, drop, get_or, drop_of_length-le}
use lib.Seq.{take_all}
use borrow.Author.Tests.{ltb-false, eq-eqb, ne_eqb}
use Rattle.std.specs.Prelude.{Some, None}
use Rattle.lists.specs.Bytes.{bytes, around, starts_with}
use Rattle.lists.specs.Classes.{letter_e, only}
use Rattle.lists.proofs.Library.{around_some, around_none}
use Rattle.lists.proofs.Scan.{starts_with_first}
use Rattle.vocabulary.specs.Vocabulary.{word_of}
use Rattle.vocabulary.proofs.Laws.{unfold_vocabulary}
use Rattle.word_writer.specs.Writer.{Says}
use Rattle.word_writer.specs.declared.Writer.{Writer}
use Rattle.numerals.specs.Words.{other, spell, spelled}
use Rattle.numerals.specs.Cardinal.{cardinal, digits}
use Rattle.reals.specs.Real.{e_at, pointed}
use Rattle.reals.specs.Walk.{part_words, part_size, PartSaid}
use Rattle.numerals.proofs.Said.{said_word, says_more}

-- a text with no point is said whole
pub pointed_whole : (s : List ℕ) → None ≡ around (only 46) s → {p q : Writer} → Says (spelled (cardinal s)) p q → Says (spelled (pointed s)) p q
unfolding pointed
pointed_whole s e a = rw (around_none (only 46) s e) a

-- of any other text the parts around the first point are said, with the word "point" between
pub pointed_parts : (s : List ℕ) {w f : List ℕ} → Some (w, f) ≡ around (only 46) s → {p q r t : Writer} → Says (spelled (cardinal w)) p q
    → Says (word_of 85 ∷ []) q r → Says (spelled (digits f)) r t → Says (spelled (pointed s)) p t
unfolding pointed spell unfold_vocabulary
pointed_parts s {w} {f} e a b c =
    let x = around_some (only 46) s e in
    rw (x.0, ← x.1, ← x.2)
    (says_more (cardinal w) (other (bytes "point") ∷ digits f) refl a
    (says_more (other (bytes "point") ∷ []) (digits f) refl (said_word (other (bytes "point")) b) c))

-- a text starts with a byte exactly if that is its first byte
starts_with_some : (c : ℕ) (s : List ℕ) → 0 < length s → get_or s 0 0 ≡ c → starts_with c s ≡ true
starts_with_some c [] h e = absurd (omega arith)
starts_with_some c (b ∷ s) h e = starts_with_first c b s ∙ eq-eqb b c e

starts_with_none : (c : ℕ) (s : List ℕ) → (0 < length s → get_or s 0 0 ≡ c → ⊥) → starts_with c s ≡ false
starts_with_none c [] h = refl
starts_with_none c (b ∷ s) h = starts_with_first c b s ∙ ne_eqb b c (h (omega arith))

module _ (s : List ℕ) {p : Writer} where
  -- the text starts with "-", or with "+"
  module _ (l : 0 < length s) {q : Writer} where
    pub part_minus : get_or s 0 0 ≡ code "-" → Says (word_of 86 ∷ []) p q → PartSaid s p q (drop 1 s)
    unfolding part_words part_size spell unfold_vocabulary
    part_minus e d = let m = starts_with_some (code "-") s l e in record { said = rw m (said_word (other (bytes "minus")) d); rest = rw m }

    pub part_plus : get_or s 0 0 ≡ code "+" → Says (word_of 87 ∷ []) p q → PartSaid s p q (drop 1 s)
    unfolding part_words part_size spell unfold_vocabulary
    part_plus e d =
        let n = starts_with_none (code "-") s (λ h k. omega arith) in
        let m = starts_with_some (code "+") s l e in
        record { said = rw (n, m) (said_word (other (bytes "plus")) d); rest = rw (n, m) }

  -- it starts with no sign
  module _ (i : 0 < length s → get_or s 0 0 ≡ code "-" → ⊥) (j : 0 < length s → get_or s 0 0 ≡ code "+" → ⊥) where
    -- there is no "e", so this is the last part
    pub part_last : None ≡ around letter_e s → {q : Writer} → Says (spelled (pointed s)) p q → PartSaid s p q []
    unfolding part_words part_size
    part_last e d =
        let m = starts_with_none (code "-") s i in
        let k = starts_with_none (code "+") s j in
        let l = around_none letter_e s e in
        let n = ltb-false (e_at s) (length s) l in
        record {
          said = rw (m, k, l, append-nil (pointed (take (e_at s) s)), take_all (e_at s) s n) d;
          rest = rw (m, k, l) (sym (drop_of_length-le s n));
        }

    -- the part before the first "e" is said, and the word "e"
    pub part_e : {a b : List ℕ} → Some (a, b) ≡ around letter_e s → {q r : Writer} → Says (spelled (pointed a)) p q → Says (word_of 88 ∷ []) q r
        → PartSaid s p r b
    unfolding part_words part_size spell unfold_vocabulary
    part_e {a} {b} e d c =
        let m = starts_with_none (code "-") s i in
        let k = starts_with_none (code "+") s j in
        let x = around_some letter_e s e in
        record {
          said = rw (m, k, x.0, ← x.1) (says_more (pointed a) (other (bytes "e") ∷ []) refl d (said_word (other (bytes "e")) c));
          rest = rw (m, k, x.0) x.2;
        }
