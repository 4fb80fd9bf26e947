-- The words of units, of number readings, and of rows 4, 5a, 5b and 10. Definitions only.
use Rattle.std.specs.Prelude.{List, [], ◌∷◌, ◌++◌, map, ℕ, get_or}
use Prim.Native.String.{String}
use Rattle.lists.specs.Bytes.{bytes}

-- the tables of numbers.rs: ONES, TEENS and TENS; and "hundred" with the words of SCALES, smallest first
unfoldable pub ones : List String
ones = "zero" ∷ "one" ∷ "two" ∷ "three" ∷ "four" ∷ "five" ∷ "six" ∷ "seven" ∷ "eight" ∷ "nine" ∷ []

unfoldable pub teens : List String
teens =
    "ten" ∷ "eleven" ∷ "twelve" ∷ "thirteen" ∷ "fourteen" ∷ "fifteen" ∷ "sixteen"
    ∷ "seventeen" ∷ "eighteen" ∷ "nineteen" ∷ []

unfoldable pub tens : List String
tens = "zero" ∷ "ten" ∷ "twenty" ∷ "thirty" ∷ "forty" ∷ "fifty" ∷ "sixty" ∷ "seventy" ∷ "eighty" ∷ "ninety" ∷ []

unfoldable pub scales : List String
scales = "hundred" ∷ "thousand" ∷ "million" ∷ "billion" ∷ []

-- their ordinal forms, in the same order: ORDINAL_ONES, ORDINAL_TEENS, ORDINAL_TENS, and those of `ordinal_form`
unfoldable pub ordinal_ones : List String
ordinal_ones = "zeroth" ∷ "first" ∷ "second" ∷ "third" ∷ "fourth" ∷ "fifth" ∷ "sixth" ∷ "seventh" ∷ "eighth" ∷ "ninth" ∷ []

unfoldable pub ordinal_teens : List String
ordinal_teens =
    "tenth" ∷ "eleventh" ∷ "twelfth" ∷ "thirteenth" ∷ "fourteenth" ∷ "fifteenth"
    ∷ "sixteenth" ∷ "seventeenth" ∷ "eighteenth" ∷ "nineteenth" ∷ []

unfoldable pub ordinal_tens : List String
ordinal_tens =
    "zeroth" ∷ "tenth" ∷ "twentieth" ∷ "thirtieth" ∷ "fortieth" ∷ "fiftieth"
    ∷ "sixtieth" ∷ "seventieth" ∷ "eightieth" ∷ "ninetieth" ∷ []

unfoldable pub ordinal_scales : List String
ordinal_scales = "hundredth" ∷ "thousandth" ∷ "millionth" ∷ "billionth" ∷ []

-- the words that have ordinal forms, and those forms
unfoldable pub cardinals : List String
cardinals = ones ++ (teens ++ (tens ++ scales))

unfoldable pub ordinals : List String
ordinals = ordinal_ones ++ (ordinal_teens ++ (ordinal_tens ++ ordinal_scales))

-- ---- no public promise is made of these

-- the words of the unit abbreviations
unfoldable pub unit_vocabulary : List String
unit_vocabulary =
    "pounds" ∷ "feet" ∷ "kilograms" ∷ "kilometers" ∷ "centimeters" ∷ "millimeters" ∷ "milliliters" ∷ "ounces"
    ∷ "hertz" ∷ "kilohertz" ∷ "megahertz" ∷ "gigahertz" ∷ "kilobytes" ∷ "gigabytes" ∷ "megabytes" ∷ "terabytes" ∷ []

-- the other words of number readings in numbers.rs, the two words of row 10, the word of a full hour in row 4, that of a range,
-- and those of fractions
unfoldable pub others : List String
others = "oh" ∷ "point" ∷ "minus" ∷ "plus" ∷ "e" ∷ "per" ∷ "cent" ∷ "o'clock" ∷ "to" ∷ "a" ∷ "half" ∷ "'s" ∷ "slash" ∷ []

-- every word, by number
unfoldable pub vocabulary : List (List ℕ)
vocabulary = map bytes (unit_vocabulary ++ (cardinals ++ (ordinals ++ others)))

-- where in `vocabulary` each table starts
abbrev pub ones_at : ℕ
ones_at = 16

abbrev pub teens_at : ℕ
teens_at = 26

abbrev pub tens_at : ℕ
tens_at = 36

abbrev pub scales_at : ℕ
scales_at = 46

-- how far after each cardinal word its ordinal form stands
abbrev pub ordinal_step : ℕ
ordinal_step = 34

abbrev pub others_at : ℕ
others_at = 84

-- the word of a number, nothing if there is none
unfoldable pub word_of : ℕ → List ℕ
word_of k = get_or vocabulary k []
