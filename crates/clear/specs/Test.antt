-- Whether a name is clear, as a test on its bytes. Definitions only; `clear_tested` in proofs/Tested.antt says
-- that it passes exactly the clear names of the definition by kinds.
use Rattle.std.specs.Prelude.{Bool, cond, not, ◌&&◌, ◌||◌, List, ℕ, ◌-◌, leb, eqb, length, take, drop}
use Prim.Native.Char.{code}
use Rattle.lists.specs.Bytes.{bytes, all, span, same, uppercase, lowercase, starts_with, ends_with, strip_prefix, take_while, drop_while, listed}
use Rattle.lists.specs.Classes.{digit, except}
use Rattle.units.specs.Units.{unit_words, index_of, unit_index, is_unit, unit_word}
use Rattle.shapes.specs.Shapes.{is_digits, strip_sign, is_time, is_dotted_abbrev, is_range, unit_at}
use Rattle.clear.specs.Clear.{plain, suffix, table_words}

-- what may follow the digits of a figure: an exponent, or nothing
unfoldable pub is_exponent_clear : List ℕ → Bool
is_exponent_clear s = cond (starts_with (code "e") s) (plain (strip_sign (drop 1 s))) (eqb (length s) 0)

-- what may follow its whole digits: an optional point with digits, and an optional exponent
unfoldable pub is_decimals_clear : List ℕ → Bool
is_decimals_clear s =
    let f : ℕ = span digit (drop 1 s) in
    cond (starts_with (code ".") s) (not (eqb f 0) && is_exponent_clear (drop f (drop 1 s))) (is_exponent_clear s)

-- what may follow its minus
unfoldable pub is_figure_clear : List ℕ → Bool
is_figure_clear s = plain (take_while digit s) && is_decimals_clear (drop_while digit s)

-- the first two kinds
abbrev pub is_number_clear : List ℕ → Bool
is_number_clear s = is_digits s || is_figure_clear (strip_prefix (code "-") s)

abbrev pub is_percent_clear : List ℕ → Bool
is_percent_clear s = ends_with (code "%") s && is_number_clear (take (length s - 1) s)

-- a time whose hour is plain; `is_time` tests the rest
abbrev pub is_time_clear : List ℕ → Bool
is_time_clear s = is_time s && plain (take_while (except (code ":")) s)

-- all but the last two bytes, and the last two
abbrev pub but_last_two : List ℕ → List ℕ
but_last_two s = take (length s - 2) s

abbrev pub last_two : List ℕ → List ℕ
last_two s = drop (length s - 2) s

abbrev pub is_meridiem_clear : List ℕ → Bool
is_meridiem_clear s = (same (last_two s) (bytes "am") || same (last_two s) (bytes "pm")) && is_time_clear (but_last_two s)

abbrev pub is_ordinal_clear : List ℕ → Bool
is_ordinal_clear s = plain (but_last_two s) && same (last_two s) (suffix (but_last_two s))

-- u is the first abbreviation of its word
abbrev pub is_first_abbreviation : List ℕ → Bool
is_first_abbreviation u = is_unit u && eqb (index_of (unit_word u) unit_words) (unit_index u)

abbrev pub is_unit_clear : List ℕ → Bool
is_unit_clear s = plain (take (unit_at s) s) && is_first_abbreviation (drop (unit_at s) s)

abbrev pub uppercase_or_point : ℕ → Bool
uppercase_or_point b = uppercase b || eqb b (code ".")

abbrev pub is_initials_clear : List ℕ → Bool
is_initials_clear s = is_dotted_abbrev s && not (ends_with (code ".") s) && all uppercase_or_point s

abbrev pub is_word_clear : List ℕ → Bool
is_word_clear s = leb 2 (length s) && all lowercase s && not (listed s table_words)

unfoldable pub is_clear : List ℕ → Bool
is_clear s =
    is_number_clear s || is_percent_clear s || is_time_clear s || is_meridiem_clear s || is_ordinal_clear s || is_unit_clear s || is_range s
    || is_initials_clear s || is_word_clear s
