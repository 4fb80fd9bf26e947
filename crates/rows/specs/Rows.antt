-- Document 01, "Call sheet": the twelve rows; document 02, A1, adds a word to row 4, and A2 the rows 5a and 5b. Definitions only.
use Rattle.std.specs.Prelude.{Bool, true, cond, List, [], ◌∷◌, ◌++◌, map, ℕ, ◌-◌, eqb, length, take, drop, Option, Some, None}
use Prim.Native.Char.{code}
use Rattle.lists.specs.Bytes.{bytes, filter_if, to_lower, take_while, drop_while, same, starts_with, ends_with}
use Rattle.lists.specs.Classes.{except}
use Rattle.lists.specs.Recur.{recur}
use Rattle.units.specs.Units.{unit_word}
use Rattle.shapes.specs.Shapes.{is_dotted_abbrev, is_comma_int, is_time, is_leading_zero_digits, is_digits, is_double, is_ordinal, is_range, is_digits_slash_digits, unit_at, has_unit, unit_part}
use Rattle.shapes.specs.Times.{TimeParts, parts_of_time, no_parts_of_time, is_meridiem_time, time_parts}
use Rattle.numerals.specs.Words.{Word, other}
use Rattle.numerals.specs.Cardinal.{cardinal, digits}
use Rattle.numerals.specs.Ordinal.{ordinal}
use Rattle.years.specs.Year.{year}
use Rattle.reals.specs.Real.{real}
use Rattle.letters.specs.Letters.{letters}
use Rattle.fractions.specs.Fraction.{fraction}
use Rattle.rows.specs.declared.Sign.{Sign}
use Rattle.rows.specs.declared.Sign.TheVariants.{Plus, Minus}
use Rattle.rows.specs.declared.Row.{Row}
use Rattle.rows.specs.declared.Row.TheVariants.{Empty, Dotted, CommaInt, Time, Meridiem, Range, Fraction, LeadingZero, Digits, Figure, Ordinal, Percent, Unit, OneWord}

-- the number of each row; 02, A2: "The old rows keep their numbers; the new ones are 5a and 5b (13 and 14 where the C program
-- gets a number)"
abbrev pub row_number : Row → ℕ
row_number Empty = 1
row_number Dotted = 2
row_number CommaInt = 3
row_number Time = 4
row_number Meridiem = 5
row_number Range = 13
row_number Fraction = 14
row_number LeadingZero = 6
row_number Digits = 7
row_number (Figure g) = 8
row_number Ordinal = 9
row_number Percent = 10
row_number Unit = 11
row_number OneWord = 12

-- the value of each sign, and of a row's sign: "for row 8, its sign", 0 if it has none
abbrev pub sign_number : Sign → ℕ
sign_number Plus = 1
sign_number Minus = 2

abbrev pub sign_value : Option Sign → ℕ
sign_value None = 0
sign_value (Some g) = sign_number g

abbrev pub row_sign : Row → ℕ
row_sign Empty = 0
row_sign Dotted = 0
row_sign CommaInt = 0
row_sign Time = 0
row_sign Meridiem = 0
row_sign Range = 0
row_sign Fraction = 0
row_sign LeadingZero = 0
row_sign Digits = 0
row_sign (Figure g) = sign_number g
row_sign Ordinal = 0
row_sign Percent = 0
row_sign Unit = 0
row_sign OneWord = 0

-- a name's sign is minus if the name starts with a minus, else plus
abbrev pub sign_of : List ℕ → Sign
sign_of s = cond (starts_with (code "-") s) Minus Plus

-- "the hour by `cardinal`; then, unless the minute is "00", the minute by `year`" (`read_clock`)
unfoldable pub clock : List ℕ → List ℕ → List Word
clock hour minute = cardinal hour ++ cond (same minute (bytes "00")) [] (year minute)

-- 02, A1: "In row 4 a minute of "00" shall add the word "o'clock" after the hour."
unfoldable pub full_hour : List ℕ → List Word
full_hour minute = cond (same minute (bytes "00")) (other (bytes "o'clock") ∷ []) []

-- the parts of a text before and after its first byte c
abbrev pub before : ℕ → List ℕ → List ℕ
before c s = take_while (except c) s

abbrev pub after : ℕ → List ℕ → List ℕ
after c s = drop 1 (drop_while (except c) s)

-- the parts of a time
abbrev pub hour_of : List ℕ → List ℕ
hour_of s = before (code ":") s

abbrev pub minute_of : List ℕ → List ℕ
minute_of s = after (code ":") s

-- 02, A2: "the word "to"", between the parts of a range
abbrev pub to : Word
to = other (bytes "to")

-- "as 4, then `letters` of the meridiem"; 02, A1: "Row 5 keeps its reading", so a full hour adds nothing
unfoldable pub clock_letters : TimeParts → List Word
clock_letters (parts_of_time hour minute meridiem) = clock hour minute ++ letters meridiem
clock_letters no_parts_of_time = []

-- "ends in %"
abbrev pub is_percent : List ℕ → Bool
is_percent s = ends_with (code "%") s

abbrev pub per_cent : List Word
per_cent = other (bytes "per") ∷ other (bytes "cent") ∷ []

-- a name as it is read: the row that takes it, and its words
pub record Reading : Type 0 where
  pub row : Row
  pub words : List Word

abbrev pub by : Row → List Word → Reading
by r ws = record { row = r; words = ws }

-- what stands in for a reading if no row takes the name; row 12 takes every name
abbrev pub no_reading : Reading
no_reading = by OneWord []

-- a row as a rule for one name: whether it takes the name, and how it reads it
infix 70 ◌reads◌
pub data Rule : Type 0 where
  ◌reads◌ : Bool → Reading → Rule

-- "The name goes to the first row that takes it"
abbrev pub first_taking : List Rule → Reading
first_taking [] = no_reading
first_taking (takes reads reading ∷ rules) = cond takes reading (first_taking rules)

-- the rows in their order; `again` reads a shorter name from row 1, and `word` is what the last row says
abbrev pub rows : (List ℕ → List ℕ) → (List ℕ → Reading) → List ℕ → List Rule
rows word again s =
    eqb (length s) 0 reads by Empty []
    ∷ is_dotted_abbrev s reads by Dotted (letters (filter_if (except (code ".")) s))
    ∷ is_comma_int s reads by CommaInt (cardinal s)
    ∷ is_time s reads by Time (clock (hour_of s) (minute_of s) ++ full_hour (minute_of s))
    ∷ is_meridiem_time s reads by Meridiem (clock_letters (time_parts s))
    ∷ is_range s reads by Range ((again (before (code "-") s)).words ++ to ∷ (again (after (code "-") s)).words)
    ∷ is_digits_slash_digits s reads by Fraction (fraction s)
    ∷ is_leading_zero_digits s reads by LeadingZero (digits s)
    ∷ is_digits s reads by Digits (cardinal s)
    ∷ is_double s reads by (Figure (sign_of s)) (real s)
    ∷ is_ordinal s reads by Ordinal (ordinal (take (length s - 2) s))
    ∷ is_percent s reads by Percent ((again (take (length s - 1) s)).words ++ per_cent)
    ∷ has_unit s reads by Unit (cardinal (take (unit_at s) s) ++ other (unit_word (unit_part s)) ∷ [])
    ∷ true reads by OneWord (other (word s) ∷ [])
    ∷ []

unfoldable pub read_step : (List ℕ → List ℕ) → (List ℕ → Reading) → List ℕ → Reading
read_step word again s = first_taking (rows word again s)

unfoldable pub read_with : (List ℕ → List ℕ) → List ℕ → Reading
read_with word = recur no_reading (read_step word)

-- "the name, A to Z lowered, as one word"
abbrev pub read : List ℕ → Reading
read = read_with (map to_lower)
