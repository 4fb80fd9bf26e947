-- The words of numbers: what each stands for, and how it is spelled. Definitions only.
use Rattle.std.specs.Prelude.{List, [], ◌∷◌, ◌++◌, map, ℕ, zero, suc, get_or}
use Rattle.lists.specs.Bytes.{bytes}
use Rattle.vocabulary.specs.Vocabulary.{ones, teens, tens, scales}

-- a word of ONES, TEENS or TENS by its place there; "hundred"; thousand, million and billion as scales 1 to 3; any other word
pub data Word : Type 0 where
  one teen ten : ℕ → Word
  hundred : Word
  scale : ℕ → Word
  other : List ℕ → Word

-- the bytes of a word; none if the table has no such place
unfoldable pub spell : Word → List ℕ
spell (one d) = bytes (get_or ones d "")
spell (teen d) = bytes (get_or teens d "")
spell (ten d) = bytes (get_or tens d "")
spell hundred = bytes "hundred"
spell (scale k) = bytes (get_or scales k "")
spell (other w) = w

unfoldable pub spelled : List Word → List (List ℕ)
spelled = map spell

-- ---- no public promise is made of these

-- k words: f n, f (n + 1) and so on
unfoldable pub consecutive_words : (ℕ → Word) → ℕ → ℕ → List Word
consecutive_words f n zero = []
consecutive_words f n (suc k) = f n ∷ consecutive_words f (suc n) k

-- the words that a cardinal number is read with
unfoldable pub number_words : List Word
number_words = consecutive_words one 0 10 ++ (consecutive_words teen 1 9 ++ (consecutive_words ten 1 9 ++ (hundred ∷ consecutive_words scale 1 3)))
