-- How a text of letters is read letter by letter. Assumes nothing.
use mathlib.Core.Path.{◌≡◌, refl, sym, ap, ◌∙◌}
use mathlib.Core.Bool.{true, false, and-false, and-eq-true_iff, false≢true}
use mathlib.Core.Logic.{⊎_elim}
use mathlib.Core.List.{List, [], ◌∷◌, map}
use Prim.Native.Nat.{ℕ, ◌<◌, ◌≤◌}
use Prim.Native.Char.{code}
use native.Mathlib.Omega.{arith}
use lib.ListN.{get_or}
use borrow.Author.Tests.{lt-leb}
use Rattle.lists.specs.Bytes.{all}
use Rattle.lists.specs.Classes.{letter, continuation}
use Rattle.lists.proofs.Sets.{le_or_lt}
use Rattle.numerals.specs.Words.{Word, other}
use Rattle.letters.specs.Letters.{letter_word, letters, chars}

letter_alone : (b : ℕ) → letter b ≡ true → continuation b ≡ false
letter_alone b e =
    ⊎_elim
    (λ (h : 128 ≤ b). absurd
    (false≢true (sym (simp and-false refl ∙ refl) ∙ rw (lt-leb b (code "Z") (omega arith), lt-leb b (code "z") (omega arith)) at e)))
    (λ (h : b < 128). rw (lt-leb 128 b h))
    (le_or_lt 128 b)

letters_alone : (s : List ℕ) → all letter s ≡ true → continuation (get_or s 0 0) ≡ false
unfolding all
letters_alone [] e = refl
letters_alone (b ∷ s) e = letter_alone b ((and-eq-true_iff (letter b) (all letter s)).0 e).0

-- in a text of letters each byte is a character, and is read as one letter
pub letter_chars : (s : List ℕ) → all letter s ≡ true → letters s ≡ map (λ b. other (letter_word (b ∷ []))) s
unfolding letters chars all
letter_chars [] e = refl
letter_chars (b ∷ s) e =
    let t = ((and-eq-true_iff (letter b) (all letter s)).0 e).1 in
    rw (letters_alone s t) (ap (λ (ws : List Word). other (letter_word (b ∷ [])) ∷ ws) (letter_chars s t))
