-- UTF-8 as the table of byte sequences in RFC 3629, section 4, has it. Definitions only.
-- A byte past the end reads as 0. That is no tail byte, so a character that is cut off needs no case of its own.
use Rattle.std.specs.Prelude.{Bool, true, false, cond, ◌&&◌, ◌||◌, List, [], ◌∷◌, ℕ, leb, eqb, length, take, drop, get_or}
use Rattle.lists.specs.Classes.{ascii}
use Rattle.lists.specs.Recur.{recur}

abbrev pub in_range : ℕ → ℕ → ℕ → Bool
in_range lo hi b = leb lo b && leb b hi

-- UTF8-tail = %x80-BF
abbrev pub utf8_tail : ℕ → Bool
utf8_tail b = in_range 0x80 0xBF b

-- the first byte of UTF8-2 = %xC2-DF UTF8-tail
abbrev pub lead2 : ℕ → Bool
lead2 a = in_range 0xC2 0xDF a

-- the first two bytes of
-- UTF8-3 = %xE0 %xA0-BF UTF8-tail / %xE1-EC 2( UTF8-tail ) / %xED %x80-9F UTF8-tail / %xEE-EF 2( UTF8-tail )
abbrev pub lead3 : ℕ → ℕ → Bool
lead3 a b =
    (eqb a 0xE0 && in_range 0xA0 0xBF b) || (in_range 0xE1 0xEC a && utf8_tail b)
    || (eqb a 0xED && in_range 0x80 0x9F b) || (in_range 0xEE 0xEF a && utf8_tail b)

-- the first two bytes of UTF8-4 = %xF0 %x90-BF 2( UTF8-tail ) / %xF1-F3 3( UTF8-tail ) / %xF4 %x80-8F 2( UTF8-tail )
abbrev pub lead4 : ℕ → ℕ → Bool
lead4 a b = (eqb a 0xF0 && in_range 0x90 0xBF b) || (in_range 0xF1 0xF3 a && utf8_tail b) || (eqb a 0xF4 && in_range 0x80 0x8F b)

-- how many of the bytes a, b, c and d, in a row, are the character that starts with a; 0 if no character does. UTF8-1 = %x00-7F
unfoldable pub sequence_len : ℕ → ℕ → ℕ → ℕ → ℕ
sequence_len a b c d =
    cond (ascii a) 1
    (cond (lead2 a && utf8_tail b) 2
    (cond (lead3 a b && utf8_tail c) 3
    (cond (lead4 a b && utf8_tail c && utf8_tail d) 4 0)))

-- how many bytes the character at the front takes, 0 if there is none
abbrev pub char_len : List ℕ → ℕ
char_len s = sequence_len (get_or s 0 0) (get_or s 1 0) (get_or s 2 0) (get_or s 3 0)

-- UTF8-octets = *( UTF8-char )
unfoldable pub utf8_step : (List ℕ → Bool) → List ℕ → Bool
utf8_step rest s = cond (eqb (length s) 0) true (cond (eqb (char_len s) 0) false (rest (drop (char_len s) s)))

unfoldable pub utf8 : List ℕ → Bool
utf8 = recur false utf8_step

-- the UTF8-chars of a text, in order, each a list of its bytes; they end before the first byte that starts none
unfoldable pub utf8_chars_step : (List ℕ → List (List ℕ)) → List ℕ → List (List ℕ)
utf8_chars_step rest s = cond (eqb (length s) 0) [] (cond (eqb (char_len s) 0) [] (take (char_len s) s ∷ rest (drop (char_len s) s)))

unfoldable pub utf8_chars : List ℕ → List (List ℕ)
utf8_chars = recur [] utf8_chars_step
