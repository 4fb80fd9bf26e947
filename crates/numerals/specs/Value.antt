-- Document 01, "Number words": the value that the words of a number name. Definitions only.
use Rattle.std.specs.Prelude.{cond, List, [], ◌∷◌, map, ℕ, ◌+◌, ◌*◌, ◌^◌}
use Rattle.std.proofs.Math.Option
use Rattle.std.proofs.Math.Option.{Option, none, some}
use Prim.Native.String.{String}
use Rattle.lists.specs.Bytes.{bytes, same}
use Rattle.numerals.specs.Words.{Word, one, teen, ten, hundred, scale, other}

-- "units, teens and tens add, hundred multiplies by 100, scale words by their power of ten"
pub data Meaning : Type 0 where
  adds multiplies scales_by : ℕ → Meaning

-- a word and what it means
infix 70 ◌means◌
pub data WordMeaning : Type 0 where
  ◌means◌ : String → Meaning → WordMeaning

-- the words of a cardinal number
unfoldable pub cardinal_meanings : List WordMeaning
cardinal_meanings =
    "zero" means adds 0 ∷ "one" means adds 1 ∷ "two" means adds 2 ∷ "three" means adds 3 ∷ "four" means adds 4
    ∷ "five" means adds 5 ∷ "six" means adds 6 ∷ "seven" means adds 7 ∷ "eight" means adds 8 ∷ "nine" means adds 9
    ∷ "ten" means adds 10 ∷ "eleven" means adds 11 ∷ "twelve" means adds 12 ∷ "thirteen" means adds 13 ∷ "fourteen" means adds 14
    ∷ "fifteen" means adds 15 ∷ "sixteen" means adds 16 ∷ "seventeen" means adds 17 ∷ "eighteen" means adds 18 ∷ "nineteen" means adds 19
    ∷ "twenty" means adds 20 ∷ "thirty" means adds 30 ∷ "forty" means adds 40 ∷ "fifty" means adds 50
    ∷ "sixty" means adds 60 ∷ "seventy" means adds 70 ∷ "eighty" means adds 80 ∷ "ninety" means adds 90
    ∷ "hundred" means multiplies 100
    ∷ "thousand" means scales_by (10 ^ 3) ∷ "million" means scales_by (10 ^ 6) ∷ "billion" means scales_by (10 ^ 9) ∷ []

-- the ordinal forms; only the last word of an ordinal number is one
unfoldable pub ordinal_meanings : List WordMeaning
ordinal_meanings =
    "zeroth" means adds 0 ∷ "first" means adds 1 ∷ "second" means adds 2 ∷ "third" means adds 3 ∷ "fourth" means adds 4
    ∷ "fifth" means adds 5 ∷ "sixth" means adds 6 ∷ "seventh" means adds 7 ∷ "eighth" means adds 8 ∷ "ninth" means adds 9
    ∷ "tenth" means adds 10 ∷ "eleventh" means adds 11 ∷ "twelfth" means adds 12 ∷ "thirteenth" means adds 13 ∷ "fourteenth" means adds 14
    ∷ "fifteenth" means adds 15 ∷ "sixteenth" means adds 16 ∷ "seventeenth" means adds 17 ∷ "eighteenth" means adds 18 ∷ "nineteenth" means adds 19
    ∷ "twentieth" means adds 20 ∷ "thirtieth" means adds 30 ∷ "fortieth" means adds 40 ∷ "fiftieth" means adds 50
    ∷ "sixtieth" means adds 60 ∷ "seventieth" means adds 70 ∷ "eightieth" means adds 80 ∷ "ninetieth" means adds 90
    ∷ "hundredth" means multiplies 100
    ∷ "thousandth" means scales_by (10 ^ 3) ∷ "millionth" means scales_by (10 ^ 6) ∷ "billionth" means scales_by (10 ^ 9) ∷ []

-- the meaning of a word; none if it is not in the table
unfoldable pub meaning_in : List WordMeaning → List ℕ → Option Meaning
meaning_in [] w = none
meaning_in (t means m ∷ es) w = cond (same (bytes t) w) (some m) (meaning_in es w)

-- the meaning of a word before the meanings of others; none if one of the words has no meaning
unfoldable pub prepend : Option Meaning → Option (List Meaning) → Option (List Meaning)
prepend none r = none
prepend (some m) none = none
prepend (some m) (some ms) = some (m ∷ ms)

unfoldable pub meanings_of : List (List ℕ) → Option (List Meaning)
meanings_of [] = some []
meanings_of (w ∷ ws) = prepend (meaning_in cardinal_meanings w) (meanings_of ws)

-- the last word is an ordinal form, and no other is
unfoldable pub ordinal_meanings_of : List (List ℕ) → Option (List Meaning)
ordinal_meanings_of [] = none
ordinal_meanings_of (w ∷ []) = prepend (meaning_in ordinal_meanings w) (some [])
ordinal_meanings_of (w ∷ v ∷ ws) = prepend (meaning_in cardinal_meanings w) (ordinal_meanings_of (v ∷ ws))

-- t is the value up to the last scale word, and c the value of the words after it
unfoldable pub value_from : ℕ → ℕ → List Meaning → ℕ
value_from t c [] = t + c
value_from t c (adds n ∷ ms) = value_from t (c + n) ms
value_from t c (multiplies n ∷ ms) = value_from t (c * n) ms
value_from t c (scales_by n ∷ ms) = value_from (t + c * n) 0 ms

-- the value that words name; none if one of them has no meaning
unfoldable pub value_of : List (List ℕ) → Option ℕ
value_of ws = Option.map (value_from 0 0) (meanings_of ws)

unfoldable pub ordinal_value_of : List (List ℕ) → Option ℕ
ordinal_value_of ws = Option.map (value_from 0 0) (ordinal_meanings_of ws)

-- the decimal value of digits that follow digits of the value n
unfoldable pub decimal_from : ℕ → List ℕ → ℕ
decimal_from n [] = n
decimal_from n (d ∷ s) = decimal_from (n * 10 + d) s

unfoldable pub decimal : List ℕ → ℕ
decimal s = decimal_from 0 s

-- ---- no public promise is made of these

-- what a word means, by its kind and not by its spelling
abbrev pub meaning_of : Word → Meaning
meaning_of (one d) = adds d
meaning_of (teen d) = adds (10 + d)
meaning_of (ten d) = adds (10 * d)
meaning_of hundred = multiplies 100
meaning_of (scale k) = scales_by (1000 ^ k)
meaning_of (other w) = adds 0

unfoldable pub words_value : List Word → ℕ
words_value ws = value_from 0 0 (map meaning_of ws)
