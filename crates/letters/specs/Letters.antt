-- numbers.rs, `letters`: document 01 says "as the Rust". Definitions only.
use Rattle.std.specs.Prelude.{cond, List, [], ◌∷◌, map, ℕ, eqb, get_or}
use Prim.Native.Char.{code}
use Rattle.lists.specs.Bytes.{bytes, same, to_lower, onto}
use Rattle.lists.specs.Classes.{continuation}
use Rattle.numerals.specs.Words.{Word, other}

-- the characters of a text, each a list of its bytes. A character ends with a byte that no continuation byte follows. In a UTF-8
-- text they are those of RFC 3629's table (`chars_utf8` of proofs/Characters.antt)
unfoldable pub chars : List ℕ → List (List ℕ)
chars [] = []
chars (b ∷ s) = cond (continuation (get_or s 0 0)) (onto b (chars s)) ((b ∷ []) ∷ chars s)

-- the word of a character: _a for the letter a in either case, and any other single byte itself, with A to Z lowered. A character
-- of several bytes stays as it is
unfoldable pub letter_word : List ℕ → List ℕ
letter_word [] = []
letter_word (b ∷ []) = cond (eqb (to_lower b) (code "a")) (bytes "_a") (to_lower b ∷ [])
letter_word (b ∷ c ∷ s) = b ∷ c ∷ s

unfoldable pub letters : List ℕ → List Word
letters s = map (λ c. other (letter_word c)) (chars s)

-- the same for a whole character, used by `letters_utf8`: "_a" for the letter a in either case, else the character lowered
abbrev pub character_word : List ℕ → List ℕ
character_word c = cond (same (map to_lower c) (bytes "a")) (bytes "_a") (map to_lower c)
