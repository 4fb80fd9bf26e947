-- How many words a text read letter by letter has at most, and how many bytes of a line they take. Assumes nothing.
use mathlib.Core.Path.{ap}
use mathlib.Core.List.{List, [], ◌∷◌, map, flatten}
use Prim.Native.Nat.{ℕ, suc, ◌+◌, ◌*◌, ◌≤◌}
use Prim.Native.Char.{code}
use native.Mathlib.Omega.{arith}
use lib.Dec.{eqb}
use lib.ListN.{length, get_or, length-append, length-map}
use Rattle.lists.specs.Bytes.{to_lower, onto}
use Rattle.lists.specs.Classes.{continuation}
use Rattle.lists.proofs.Recursion.{cond_elim}
use Rattle.numerals.specs.Words.{other, spell}
use Rattle.numerals.proofs.Room.{Room, width}
use Rattle.letters.specs.Letters.{chars, letter_word, letters}
use Rattle.letters.proofs.LetterLaws.{chars_join}

letter_short : (c : List ℕ) → length (letter_word c) ≤ 2 * length c
unfolding letter_word
letter_short [] = omega arith
letter_short (b ∷ []) = cond_elim (λ (w : List ℕ). length w ≤ 2) (eqb (to_lower b) (code "a")) (λ e. omega arith) (λ e. omega arith)
letter_short (b ∷ c ∷ s) = omega arith

letters_wide : (cs : List (List ℕ)) → width (map (λ c. other (letter_word c)) cs) ≤ length cs + 2 * length (flatten cs)
unfolding flatten spell
letters_wide [] = omega arith
letters_wide (c ∷ cs) = omega (arith, letter_short c, letters_wide cs, length-append c (flatten cs))

onto_count : (b : ℕ) (cs : List (List ℕ)) → length (onto b cs) ≤ suc (length cs)
unfolding onto
onto_count b [] = omega arith
onto_count b (c ∷ cs) = omega arith

chars_count : (s : List ℕ) → length (chars s) ≤ length s
unfolding chars
chars_count [] = omega arith
chars_count (b ∷ s) =
    cond_elim (λ (cs : List (List ℕ)). length cs ≤ suc (length s)) (continuation (get_or s 0 0))
    (λ e. omega (arith, onto_count b (chars s), chars_count s)) (λ e. omega (arith, chars_count s))

-- at most one word per byte; only "_a" is longer than its character
pub letters_room : (s : List ℕ) → Room (length s) (3 * length s) (letters s)
unfolding letters
letters_room s = omega (arith, chars_count s, length-map (chars s) (λ c. other (letter_word c)), letters_wide (chars s), ap length (chars_join s))
