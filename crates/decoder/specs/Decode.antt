-- From the words that a clear name is called with back to the name. Definitions only; no public promise is made of them, and
-- the statement of `call_sheets_distinguish_sheets` does not mention them.
use Rattle.std.specs.Prelude.{Bool, false, cond, not, ◌&&◌, ◌||◌, List, [], ◌∷◌, ◌++◌, map, ℕ, zero, suc, ◌+◌, ◌-◌, ◌*◌, ◌/◌, ◌%◌, ltb, eqb, length, take, drop, get_or}
use Prim.Native.Char.{code}
use Rattle.lists.specs.Bytes.{bytes, all, any, same, lowercase, listed}
use Rattle.vocabulary.specs.Vocabulary.{cardinals, ordinals}
use Rattle.units.specs.Units.{abbreviations, unit_words, index_of}
use Rattle.numerals.specs.Words.{Word, one, teen, ten, hundred, scale, other, spell, number_words}
use Rattle.numerals.specs.Value.{words_value}
use Rattle.clear.specs.Clear.{suffix, dotted_initials, table_words}

-- ---- words

-- the first of the words that is spelled w, `other w` if there is none
unfoldable pub parse_word_in : List Word → List ℕ → Word
parse_word_in [] w = other w
parse_word_in (v ∷ vs) w = cond (same (spell v) w) v (parse_word_in vs w)

unfoldable pub parse_word : List ℕ → Word
parse_word w = parse_word_in number_words w

abbrev pub parse_words : List (List ℕ) → List Word
parse_words = map parse_word

-- the first word, the last word, and all but the last n
abbrev pub first_word : List (List ℕ) → List ℕ
first_word ws = get_or ws 0 []

abbrev pub last_word : List (List ℕ) → List ℕ
last_word ws = get_or ws (length ws - 1) []

abbrev pub but_last : ℕ → List (List ℕ) → List (List ℕ)
but_last n ws = take (length ws - n) ws

-- ---- digits

-- digits as bytes
unfoldable pub digit_bytes : List ℕ → List ℕ
digit_bytes = map (λ d. d + code "0")

-- the digits of n, put before those in acc, if n has at most f + 1 digits
unfoldable pub decimal_digits : ℕ → ℕ → List ℕ → List ℕ
decimal_digits zero n acc = n ∷ acc
decimal_digits (suc f) n acc = cond (ltb n 10) (n ∷ acc) (decimal_digits f (n / 10) (n % 10 ∷ acc))

-- the digit of a word of ONES, 10 for any other word
unfoldable pub digit_of : Word → ℕ
digit_of (one d) = d
digit_of (teen d) = 10
digit_of (ten d) = 10
digit_of hundred = 10
digit_of (scale k) = 10
digit_of (other w) = 10

abbrev pub is_one : Word → Bool
is_one w = ltb (digit_of w) 10

-- a number that is read digit by digit starts with two words of ONES, and no other number does
unfoldable pub two_ones : List Word → Bool
two_ones [] = false
two_ones (w ∷ []) = false
two_ones (w ∷ v ∷ ws) = is_one w && is_one v

-- the digits of the number that has these words
unfoldable pub decode_digits : List Word → List ℕ
decode_digits ws = digit_bytes (cond (two_ones ws) (map digit_of ws) (decimal_digits 11 (words_value ws) []))

-- ---- numbers with sign, point and exponent, and ranges

-- the byte that a word between digits stands for: a sign, a point, an "e" or the hyphen of a range; 0 if it stands for none
abbrev pub symbol_in : List ℕ → ℕ
symbol_in w =
    cond (same w (bytes "minus")) (code "-")
    (cond (same w (bytes "plus")) (code "+") (cond (same w (bytes "point")) (code ".") (cond (same w (bytes "e")) (code "e")
    (cond (same w (bytes "to")) (code "-") 0))))

unfoldable pub symbol_byte : Word → ℕ
symbol_byte (one d) = 0
symbol_byte (teen d) = 0
symbol_byte (ten d) = 0
symbol_byte hundred = 0
symbol_byte (scale k) = 0
symbol_byte (other w) = symbol_in w

-- the digits after the symbol c; after a point each word is one digit
unfoldable pub decode_after_symbol : ℕ → List Word → List ℕ
decode_after_symbol c [] = []
decode_after_symbol c (w ∷ ws) = cond (eqb c (code ".")) (digit_bytes (map digit_of (w ∷ ws))) (decode_digits (w ∷ ws))

-- words decoded from the right: the words that stand before the first symbol, and the bytes from that symbol on
pub record Decoding : Type 0 where
  pub pending : List Word
  pub bytes : List ℕ

unfoldable pub decode_from_right : List Word → Decoding
decode_from_right [] = record { pending = []; bytes = [] }
decode_from_right (w ∷ ws) =
    cond (eqb (symbol_byte w) 0)
    (record { pending = w ∷ (decode_from_right ws).pending; bytes = (decode_from_right ws).bytes })
    (record { pending = []; bytes = symbol_byte w ∷ (decode_after_symbol (symbol_byte w) (decode_from_right ws).pending ++ (decode_from_right ws).bytes) })

unfoldable pub decode_figure : List Word → List ℕ
decode_figure ws = decode_after_symbol 0 (decode_from_right ws).pending ++ (decode_from_right ws).bytes

-- ---- hour and minute

-- the value of a word if it is below 100, 0 for "oh" and "o'clock", and 100 for any other word
unfoldable pub value_below_hundred : Word → ℕ
value_below_hundred (one d) = d
value_below_hundred (teen d) = 10 + d
value_below_hundred (ten d) = 10 * d
value_below_hundred hundred = 100
value_below_hundred (scale k) = 100
value_below_hundred (other w) = cond (same w (bytes "oh") || same w (bytes "o'clock")) 0 100

-- a word of a value below 100, "oh" or "o'clock"
abbrev pub is_below_hundred : Word → Bool
is_below_hundred w = ltb (value_below_hundred w) 100

-- a teen, a ten, "oh" or "o'clock": if all words are below a hundred, only a minute has such a word after the first one
abbrev pub is_minute_only : Word → Bool
is_minute_only w = is_below_hundred w && not (is_one w)

abbrev pub time_like : List Word → Bool
time_like ws = all is_below_hundred ws && any is_minute_only (drop 1 ws)

unfoldable pub decode_minute : List Word → ℕ
decode_minute [] = 0
decode_minute (w ∷ []) = value_below_hundred w
decode_minute (w ∷ v ∷ ws) = value_below_hundred w + value_below_hundred v

abbrev pub time_text : ℕ → ℕ → List ℕ
time_text h m = digit_bytes (decimal_digits 1 h []) ++ (bytes ":" ++ digit_bytes (m / 10 ∷ m % 10 ∷ []))

-- the hour is one word, or tens and ones
unfoldable pub decode_time : List Word → List ℕ
decode_time [] = []
decode_time (w ∷ []) = time_text (value_below_hundred w) 0
decode_time (w ∷ v ∷ ws) =
    cond (ltb 19 (value_below_hundred w) && (ltb 0 (digit_of v) && is_one v))
    (time_text (value_below_hundred w + value_below_hundred v) (decode_minute ws))
    (time_text (value_below_hundred w) (decode_minute (v ∷ ws)))

-- ---- the kinds

-- the word of a letter: the letter by itself, but "_a" for a
abbrev pub is_letter_word : List ℕ → Bool
is_letter_word w = same w (bytes "_a") || (eqb (length w) 1 && lowercase (get_or w 0 0))

abbrev pub letter_of_word : List ℕ → ℕ
letter_of_word w = cond (same w (bytes "_a")) (code "A") (get_or w 0 0 - 32)

unfoldable pub decode_initials : List (List ℕ) → List ℕ
decode_initials [] = []
decode_initials (w ∷ ws) = dotted_initials (letter_of_word w) (map letter_of_word ws)

-- the last two words are "_a" or "p", and "m"
abbrev pub decode_meridiem : List (List ℕ) → List ℕ
decode_meridiem ws = decode_time (parse_words (but_last 2 ws)) ++ ((cond (same (get_or ws (length ws - 2) []) (bytes "p")) (code "p") (code "a") ∷ []) ++ bytes "m")

-- the cardinal word of an ordinal form
abbrev pub cardinal_word : List ℕ → List ℕ
cardinal_word w = get_or (map bytes cardinals) (index_of w (map bytes ordinals)) []

abbrev pub with_suffix : List ℕ → List ℕ
with_suffix s = s ++ suffix s

abbrev pub decode_ordinal : List (List ℕ) → List ℕ
decode_ordinal ws = with_suffix (decode_digits (parse_words (but_last 1 ws ++ cardinal_word (last_word ws) ∷ [])))

-- "the first abbreviation of a unit word in table order"
abbrev pub decode_unit : List (List ℕ) → List ℕ
decode_unit ws = decode_digits (parse_words (but_last 1 ws)) ++ get_or abbreviations (index_of (last_word ws) unit_words) []

-- a line of one word that is not in the tables
abbrev pub is_one_word_name : List (List ℕ) → Bool
is_one_word_name ws = eqb (length ws) 1 && not (listed (first_word ws) table_words)

-- the clear name that is called with the words ws, if there is one; the first word is tested, and then the last one
unfoldable pub decode : List (List ℕ) → List ℕ
decode ws =
    cond (is_one_word_name ws) (first_word ws)
    (cond (is_letter_word (first_word ws)) (decode_initials ws)
    (cond (same (last_word ws) (bytes "cent")) (decode_figure (parse_words (but_last 2 ws)) ++ bytes "%")
    (cond (same (last_word ws) (bytes "m")) (decode_meridiem ws)
    (cond (listed (last_word ws) unit_words) (decode_unit ws)
    (cond (listed (last_word ws) (map bytes ordinals)) (decode_ordinal ws)
    (cond (time_like (parse_words ws)) (decode_time (parse_words ws))
    (decode_figure (parse_words ws))))))))
