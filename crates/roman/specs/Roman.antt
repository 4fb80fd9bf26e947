-- Document 01, "Number words": `roman_value`. Definitions only.
use Rattle.std.specs.Prelude.{Bool, cond, Option, Some, None, eqb, List, [], ◌∷◌, map, ◌++◌, ℕ, ◌+◌, ◌-◌, ◌/◌, ◌%◌, ltb, get_or}
use Prim.Native.String.{String}
use Rattle.lists.specs.Bytes.{bytes, any, elem}

-- the value of a roman letter, in either case; 0 for any other byte, and so for each byte of a longer character
unfoldable pub roman_letter_value : ℕ → ℕ
roman_letter_value b =
    cond (elem b (bytes "Ii")) 1 (cond (elem b (bytes "Vv")) 5 (cond (elem b (bytes "Xx")) 10 (cond (elem b (bytes "Ll")) 50
    (cond (elem b (bytes "Cc")) 100 (cond (elem b (bytes "Dd")) 500 (cond (elem b (bytes "Mm")) 1000 0))))))

-- the same, where another byte has none
unfoldable pub letter_value : ℕ → Option ℕ
letter_value b = cond (eqb (roman_letter_value b) 0) None (Some (roman_letter_value b))

-- some value after v is larger
abbrev pub any_larger : ℕ → List ℕ → Bool
any_larger v ws = any (ltb v) ws

-- "a letter with any larger one after it subtracts": the sum of those that add, and of those that subtract
unfoldable pub sum_added : List ℕ → ℕ
sum_added [] = 0
sum_added (v ∷ vs) = cond (any_larger v vs) 0 v + sum_added vs

unfoldable pub sum_subtracted : List ℕ → ℕ
sum_subtracted [] = 0
sum_subtracted (v ∷ vs) = cond (any_larger v vs) v 0 + sum_subtracted vs

-- "below 0 gives 0; one foreign character gives 0": `-` of natural numbers gives 0 if the result would be below 0
unfoldable pub roman_value : List ℕ → ℕ
roman_value s = cond (elem 0 (map roman_letter_value s)) 0 (sum_added (map roman_letter_value s) - sum_subtracted (map roman_letter_value s))

-- ---- the standard numerals: proofs/Standard.antt proves that each is read as its number

abbrev pub roman_thousands : List String
roman_thousands = "" ∷ "M" ∷ "MM" ∷ "MMM" ∷ []

abbrev pub roman_hundreds : List String
roman_hundreds = "" ∷ "C" ∷ "CC" ∷ "CCC" ∷ "CD" ∷ "D" ∷ "DC" ∷ "DCC" ∷ "DCCC" ∷ "CM" ∷ []

abbrev pub roman_tens : List String
roman_tens = "" ∷ "X" ∷ "XX" ∷ "XXX" ∷ "XL" ∷ "L" ∷ "LX" ∷ "LXX" ∷ "LXXX" ∷ "XC" ∷ []

abbrev pub roman_ones : List String
roman_ones = "" ∷ "I" ∷ "II" ∷ "III" ∷ "IV" ∷ "V" ∷ "VI" ∷ "VII" ∷ "VIII" ∷ "IX" ∷ []

abbrev pub roman_digit : List String → ℕ → List ℕ
roman_digit letters d = bytes (get_or letters d "")

-- the numeral of a number below 4,000, digit by digit
abbrev pub standard_numeral : ℕ → List ℕ
standard_numeral n = roman_digit roman_thousands (n / 1000) ++ roman_digit roman_hundreds (n / 100 % 10) ++ roman_digit roman_tens
    (n / 10 % 10) ++ roman_digit roman_ones (n % 10)
