-- The shape verdicts of patterns.rs, each written from the Rust function of its name, and the ranges of document 02, A2. They
-- stand in that file's order, but is_n_digits comes earlier, since others use it. Definitions only.
use Rattle.std.specs.Prelude.{Option, Some, None, Bool, false, cond, not, ◌&&◌, ◌||◌, List, [], ◌∷◌, ℕ, ◌+◌, ◌-◌, leb, ltb, eqb, length, take, drop, get_or}
use Prim.Native.Char.{code}
use Rattle.lists.specs.Bytes.{bytes, all, span, after_last, elem, same, same_by, to_lower, starts_with, ends_with, strip_prefix, strip_suffix, ends_with_by, split, non_empty}
use Rattle.lists.specs.Classes.{digit, letter, digit_or_comma, roman_tail, except}
use Rattle.units.specs.Units.{is_unit}

unfoldable pub is_digits : List ℕ → Bool
is_digits s = not (eqb (length s) 0) && all digit s

abbrev pub is_n_digits : ℕ → List ℕ → Bool
is_n_digits n s = eqb (length s) n && is_digits s

unfoldable pub is_alpha : List ℕ → Bool
is_alpha s = not (eqb (length s) 0) && all letter s

-- strip_prefix(['+', '-'])
abbrev pub strip_sign : List ℕ → List ℕ
strip_sign s = cond (starts_with (code "+") s || starts_with (code "-") s) (drop 1 s) s

-- the end of is_double: an exponent, or nothing
unfoldable pub is_exponent : List ℕ → Bool
is_exponent s = cond (starts_with (code "e") s || starts_with (code "E") s) (is_digits (strip_sign (drop 1 s))) (eqb (length s) 0)

-- is_double past its minus: digits, a point with digits, an exponent
unfoldable pub is_unsigned : List ℕ → Bool
is_unsigned s =
    let int = span digit s in
    let rest = drop int s in
    let frac = span digit (drop 1 rest) in
    cond (starts_with (code ".") rest)
    (not (eqb int 0 && eqb frac 0) && is_exponent (drop frac (drop 1 rest)))
    (not (eqb int 0) && is_exponent rest)

-- "one leading minus and no plus"
abbrev pub is_double : List ℕ → Bool
is_double s = is_unsigned (strip_prefix (code "-") s)

unfoldable pub is_comma_groups : List (List ℕ) → Bool
is_comma_groups [] = false
is_comma_groups (first ∷ groups) = is_digits first && leb (length first) 3 && not (eqb (length groups) 0) && all (is_n_digits 3) groups

-- "a comma, a first group of 1 to 3 digits and further groups of 3"
abbrev pub is_comma_int : List ℕ → Bool
is_comma_int s = is_comma_groups (split (code ",") s)

-- the byte starts a character (is_char_boundary)
abbrev pub starts_char : ℕ → Bool
starts_char b = ltb b 0x80 || leb 0xC0 b

-- th, st, nd, rd, in any case
abbrev pub is_ordinal_suffix : List ℕ → Bool
is_ordinal_suffix s = same_by to_lower s (bytes "th") || same_by to_lower s (bytes "st") || same_by to_lower s (bytes "nd") || same_by to_lower s (bytes "rd")

unfoldable pub is_ordinal : List ℕ → Bool
is_ordinal s =
    let num = take (length s - 2) s in
    let suffix = drop (length s - 2) s in
    leb 3 (length s) && starts_char (get_or suffix 0 0) && is_ordinal_suffix suffix && digit (get_or num 0 0) && all digit_or_comma num

-- is_us_money past its dollar sign
unfoldable pub is_amount : List ℕ → Bool
is_amount s =
    let whole = span digit_or_comma s in
    let rest = drop whole s in
    not (eqb whole 0) && cond (starts_with (code ".") rest) (is_digits (drop 1 rest)) (eqb (length rest) 0)

abbrev pub is_us_money : List ℕ → Bool
is_us_money s = starts_with (code "$") s && is_amount (drop 1 s)

abbrev pub is_illion : List ℕ → Bool
is_illion s = ends_with_by (λ b. b) (bytes "illion") s

-- the nine numerals that is_roman names
abbrev pub is_small_roman : List ℕ → Bool
is_small_roman s =
    same s (bytes "I") || same s (bytes "II") || same s (bytes "III") || same s (bytes "IV") || same s (bytes "V")
    || same s (bytes "VI") || same s (bytes "VII") || same s (bytes "VIII") || same s (bytes "IX")

abbrev pub is_roman : List ℕ → Bool
is_roman s = is_small_roman s || (starts_with (code "X") s && all roman_tail (drop 1 s))

abbrev pub is_dr_or_st : List ℕ → Bool
is_dr_or_st s = same_by to_lower s (bytes "dr") || same_by to_lower s (bytes "st")

abbrev pub is_number_s : List ℕ → Bool
is_number_s s = leb 2 (length s) && ends_with (code "s") s && is_digits (take (length s - 1) s)

abbrev pub is_leading_zero_digits : List ℕ → Bool
is_leading_zero_digits s = ltb 1 (length s) && starts_with (code "0") s && is_digits s

-- split_once(c): c stands in the text, and what stands before and after the first c passes the test `both`
unfoldable pub split_once : ℕ → (List ℕ → List ℕ → Bool) → List ℕ → Bool
split_once c both s = let at = span (except c) s in ltb at (length s) && both (take at s) (drop (at + 1) s)

abbrev pub is_phone_parts : List ℕ → List ℕ → Bool
is_phone_parts a b = is_n_digits 3 a && is_n_digits 4 b

abbrev pub is_seven_digit_phone : List ℕ → Bool
is_seven_digit_phone = split_once (code "-") is_phone_parts

-- an hour of 1 or 2 digits, and a minute of 2 digits of which the first is at most 5: "hours aren't limited"
unfoldable pub is_hour_minute : List ℕ → List ℕ → Bool
is_hour_minute h m = leb 1 (length h) && leb (length h) 2 && is_digits h && is_n_digits 2 m && leb (get_or m 0 0) (code "5")

abbrev pub is_time : List ℕ → Bool
is_time = split_once (code ":") is_hour_minute

abbrev pub is_one_letter : List ℕ → Bool
is_one_letter s = eqb (length s) 1 && is_alpha s

unfoldable pub is_dotted_abbrev : List ℕ → Bool
is_dotted_abbrev s = let parts = split (code ".") (strip_suffix (code ".") s) in leb 2 (length parts) && all is_one_letter parts

abbrev pub are_digits : List ℕ → List ℕ → Bool
are_digits a b = is_digits a && is_digits b

abbrev pub is_digits_slash_digits : List ℕ → Bool
is_digits_slash_digits = split_once (code "/") are_digits

-- 02, A2: "A name of digits, hyphen, digits"
abbrev pub is_range : List ℕ → Bool
is_range = split_once (code "-") are_digits

-- "drops empty parts"
unfoldable pub is_digits_dash_digits : List ℕ → Bool
is_digits_dash_digits s = let parts = non_empty (split (code "-") s) in leb 2 (length parts) && elem (code "-") s && all is_digits parts

-- split_unit: where the unit starts, "after the last digit"
abbrev pub unit_at : List ℕ → ℕ
unit_at s = after_last digit s

-- split_unit: there is a number before the unit, and the unit is in the table
unfoldable pub has_unit : List ℕ → Bool
has_unit s = not (eqb (unit_at s) 0) && all digit_or_comma (take (unit_at s) s) && is_unit (drop (unit_at s) s)

-- split_unit: the unit, "a part of the caller's own bytes"
abbrev pub split_unit : List ℕ → Option (List ℕ)
split_unit s = cond (has_unit s) (Some (drop (unit_at s) s)) None

-- the unit's bytes, none if there is no unit, since no unit is empty
abbrev pub unit_part : List ℕ → List ℕ
unit_part s = cond (has_unit s) (drop (unit_at s) s) []
