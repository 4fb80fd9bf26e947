-- Document 02, A2: fractions. Definitions only.
use Rattle.std.specs.Prelude.{cond, List, [], ◌∷◌, ◌++◌, ℕ, ltb, drop}
use Rattle.lists.specs.Bytes.{bytes, same, after_last, take_while}
use Rattle.lists.specs.Classes.{digit, non_digit}
use Rattle.numerals.specs.Words.{Word, other}
use Rattle.numerals.specs.Cardinal.{digit_values, cardinal}
use Rattle.numerals.specs.Ordinal.{ordinal}
use Rattle.numerals.specs.Value.{decimal}

-- "its first and last runs of digits being numerator and denominator": a name that row 5b takes begins and ends with one
abbrev pub numerator : List ℕ → List ℕ
numerator s = take_while digit s

abbrev pub denominator : List ℕ → List ℕ
denominator s = drop (after_last non_digit s) s

-- "The values are compared at any length": the decimal value of digits
abbrev pub value : List ℕ → ℕ
value s = decimal (digit_values s)

-- "the word "'s" if the numerator exceeds 1"
unfoldable pub plural : List ℕ → List Word
plural num = cond (ltb 1 (value num)) (other (bytes "'s") ∷ []) []

-- "with a numerator below the denominator, it is the cardinal, then the ordinal, then the word "'s" ..; else cardinal, "slash",
-- cardinal"
unfoldable pub fraction_of : List ℕ → List ℕ → List Word
fraction_of num den = cond (ltb (value num) (value den)) (cardinal num ++ (ordinal den ++ plural num)) (cardinal num ++ other (bytes "slash") ∷ cardinal den)

-- "only the name "1/2" is "a", "half""
unfoldable pub fraction : List ℕ → List Word
fraction s = cond (same s (bytes "1/2")) (other (bytes "a") ∷ other (bytes "half") ∷ []) (fraction_of (numerator s) (denominator s))
