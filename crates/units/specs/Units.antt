-- patterns.rs, UNIT_ABBREVIATIONS, and its two look-ups. Definitions only.
use Rattle.std.specs.Prelude.{Option, Some, None, Bool, cond, ◌&&◌, List, [], ◌∷◌, map, ℕ, suc, leb, length, get_or}
use Prim.Native.String.{String}
use Rattle.lists.specs.Bytes.{bytes, same, listed}
use Rattle.lists.specs.LittleEndian.{le_value}
use Rattle.vocabulary.specs.Vocabulary.{vocabulary}

-- a row of the table
pub record UnitAbbreviation : Type 0 where
  pub abbreviation : List ℕ
  pub word : List ℕ

abbrev pub unit : String → String → UnitAbbreviation
unit a w = record { abbreviation = bytes a; word = bytes w }

unfoldable pub unit_abbreviations : List UnitAbbreviation
unit_abbreviations =
    unit "LB" "pounds" ∷ unit "LBS" "pounds" ∷ unit "lb" "pounds" ∷ unit "lbs" "pounds"
    ∷ unit "ft" "feet" ∷ unit "FT" "feet" ∷ unit "kg" "kilograms" ∷ unit "km" "kilometers"
    ∷ unit "cm" "centimeters" ∷ unit "mm" "millimeters" ∷ unit "ml" "milliliters" ∷ unit "oz" "ounces"
    ∷ unit "hz" "hertz" ∷ unit "Hz" "hertz" ∷ unit "HZ" "hertz" ∷ unit "KHz" "kilohertz"
    ∷ unit "MHz" "megahertz" ∷ unit "GHz" "gigahertz" ∷ unit "KB" "kilobytes" ∷ unit "GB" "gigabytes"
    ∷ unit "MB" "megabytes" ∷ unit "TB" "terabytes" ∷ []

-- the two columns
unfoldable pub abbreviations : List (List ℕ)
abbreviations = map (λ (r : UnitAbbreviation). r.abbreviation) unit_abbreviations

unfoldable pub unit_words : List (List ℕ)
unit_words = map (λ (r : UnitAbbreviation). r.word) unit_abbreviations

-- how many texts stand before the first that is t
unfoldable pub index_of : List ℕ → List (List ℕ) → ℕ
index_of t [] = 0
index_of t (s ∷ ss) = cond (same s t) 0 (suc (index_of t ss))

-- the number of the first row whose abbreviation is u, the table's length if there is none
abbrev pub unit_index : List ℕ → ℕ
unit_index u = index_of u abbreviations

-- some row's abbreviation is u
abbrev pub is_unit : List ℕ → Bool
is_unit u = listed u abbreviations

-- the number of the first row whose abbreviation is u, if there is one
unfoldable pub unit_row : List ℕ → Option ℕ
unit_row u = cond (is_unit u) (Some (unit_index u)) None

-- unit_word: the word of the first row whose abbreviation is u, nothing if there is none
abbrev pub unit_word : List ℕ → List ℕ
unit_word u = get_or unit_words (unit_index u) []

-- ---- no public promise is made of these

-- the length and the bytes of a text in one number
unfoldable pub key : List ℕ → ℕ
key u = le_value (length u ∷ u)

-- a number that is different for different texts of 2 or 3 bytes, and none for a text of another length
unfoldable pub unit_key : List ℕ → Option ℕ
unit_key u = cond (leb 2 (length u) && leb (length u) 3) (Some (key u)) None

-- the abbreviations as the code holds them: their keys
unfoldable pub unit_keys : List ℕ
unit_keys = map key abbreviations

-- the words as the code holds them: their numbers in the vocabulary
unfoldable pub word_numbers : List ℕ
word_numbers = map (λ (w : List ℕ). index_of w vocabulary) unit_words
