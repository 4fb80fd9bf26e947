-- Document 01, "Set pieces": the starred ones in one table, each in the paper's own words. Definitions only.
use Rattle.std.specs.Prelude.{Bool, true, false, ◌&&◌, ℕ, eqb}
use mathlib.Core.List.{List, [], ◌∷◌, flat_map}
use Prim.Native.Char.{code}
use Prim.Native.String.{String}
use Rattle.lists.specs.Bytes.{bytes, same, split, non_empty}
use Rattle.numerals.specs.Words.{Word, spelled}
use Rattle.numerals.specs.Cardinal.{cardinal}
use Rattle.numerals.specs.Ordinal.{ordinal}
use Rattle.years.specs.Year.{year}
use Rattle.reals.specs.Real.{real}
use Rattle.roman.specs.Roman.{roman_value}
use Rattle.tokens.specs.Tokens.{tokens, token_parts}

-- three kinds: a reading, a text and its words; a function, a text and its value; a text of one token, and that token's
-- whitespace, prepunctuation, name and punctuation
pub data SetPiece : Type 0 where
  reads_as : (List ℕ → List Word) → String → String → SetPiece
  has_value : (List ℕ → ℕ) → String → ℕ → SetPiece
  has_parts : String → String → String → String → String → SetPiece

unfoldable pub set_pieces : List SetPiece
set_pieces =
    reads_as cardinal "000" ""
    ∷ reads_as cardinal "0005" "zero thousand five"
    ∷ reads_as cardinal "1000000" "one million"
    ∷ reads_as year "1984" "nineteen eighty four"
    ∷ reads_as year "1900" "nineteen hundred"
    ∷ reads_as year "2005" "two thousand five"
    ∷ reads_as year "07" "oh seven"
    ∷ reads_as ordinal "" "zeroth"
    ∷ reads_as real "-1.50" "minus one point five zero"
    ∷ has_value roman_value "IIX" 8
    ∷ has_parts "\"" "" "" "\"" ""
    ∷ has_parts "\" " "" "\"" "" ""
    ∷ has_parts "?!" "" "" "?" "!"
    ∷ []

-- corners of the Rust that no set piece shows
unfoldable pub reading_corners : List SetPiece
reading_corners =
    reads_as year "00" "zero zero"
    ∷ reads_as year "000" "zero zero zero"
    ∷ reads_as year "500" "five hundred"
    ∷ reads_as year "2000" "two thousand"
    ∷ reads_as year "123" "one twenty three"
    ∷ reads_as real "+5" "plus five"
    ∷ reads_as real "1E5e2" "one e five e two"
    ∷ reads_as real "1.2.3" "one point two three"
    ∷ []

-- texts, and the numbers that they are refused with; 0 is none. U+0080 and U+009F are two bytes each, and no control bytes
unfoldable pub text_corners : List (List ℕ × ℕ)
text_corners =
    ([], 0)
    ∷ (bytes " ~\t\n\r", 0)
    ∷ (0x00 ∷ [], 6)
    ∷ (0x08 ∷ [], 6)
    ∷ (0x0B ∷ [], 6)
    ∷ (0x0C ∷ [], 6)
    ∷ (0x0E ∷ [], 6)
    ∷ (0x1F ∷ [], 6)
    ∷ (0x7F ∷ [], 6)
    ∷ (0xC2 ∷ 0x80 ∷ 0xC2 ∷ 0x9F ∷ [], 0)
    ∷ (0xC2 ∷ 0x80 ∷ 0x00 ∷ [], 6)
    ∷ (0x00 ∷ 0xC2 ∷ [], 2)
    ∷ (0xFF ∷ 0x7F ∷ [], 2)
    ∷ []

-- the same texts in the same order
unfoldable pub same_texts : List (List ℕ) → List (List ℕ) → Bool
same_texts [] [] = true
same_texts [] (t ∷ ts) = false
same_texts (s ∷ ss) [] = false
same_texts (s ∷ ss) (t ∷ ts) = same s t && same_texts ss ts

-- whether a set piece holds; its words are written with spaces between them
unfoldable pub piece_holds : SetPiece → Bool
piece_holds (reads_as f s t) = same_texts (spelled (f (bytes s))) (non_empty (split (code " ") (bytes t)))
piece_holds (has_value f s n) = eqb (f (bytes s)) n
piece_holds (has_parts s w p n q) = same_texts (flat_map token_parts (tokens (bytes s))) (bytes w ∷ bytes p ∷ bytes n ∷ bytes q ∷ [])
