-- The classes of bytes. Definitions only.
use Rattle.std.specs.Prelude.{Bool, not, ◌&&◌, ◌||◌, List, ℕ, leb, ltb, eqb}
use Prim.Native.Char.{code}
use Rattle.lists.specs.Bytes.{bytes, any, uppercase, lowercase}

-- a byte that is a character by itself
abbrev pub ascii : ℕ → Bool
ascii b = ltb b 128

-- 0 to 9
abbrev pub digit : ℕ → Bool
digit b = leb (code "0") b && leb b (code "9")

-- A to Z, a to z
abbrev pub letter : ℕ → Bool
letter b = uppercase b || lowercase b

abbrev pub digit_or_comma : ℕ → Bool
digit_or_comma b = digit b || eqb b (code ",")

-- V, I, X
abbrev pub roman_tail : ℕ → Bool
roman_tail b = eqb b (code "V") || eqb b (code "I") || eqb b (code "X")

-- a colon or a point
abbrev pub colon_or_point : ℕ → Bool
colon_or_point b = eqb b (code ":") || eqb b (code ".")

-- neither a colon nor a point
abbrev pub not_colon_or_point : ℕ → Bool
not_colon_or_point b = not (eqb b (code ":") || eqb b (code "."))

abbrev pub except : ℕ → ℕ → Bool
except c b = not (eqb b c)

-- e and E
abbrev pub letter_e : ℕ → Bool
letter_e b = eqb b (code "e") || eqb b (code "E")

-- neither e nor E
abbrev pub not_e : ℕ → Bool
not_e b = not (eqb b (code "e") || eqb b (code "E"))

-- a byte of a character after its first byte
abbrev pub continuation : ℕ → Bool
continuation b = leb 0x80 b && leb b 0xBF

-- the byte is one of those listed
abbrev pub one_of : List ℕ → ℕ → Bool
one_of cs b = any (eqb b) cs

-- document 01: "Whitespace is space, tab, LF, CR."
abbrev pub whitespace_bytes : List ℕ
whitespace_bytes = bytes " \t\n\r"

abbrev pub whitespace : ℕ → Bool
whitespace = one_of whitespace_bytes

abbrev pub non_whitespace : ℕ → Bool
non_whitespace b = not (whitespace b)

-- `PREPUNCTUATION` of text.rs
abbrev pub prepunctuation_marks : List ℕ
prepunctuation_marks = bytes "\"'`({["

abbrev pub prepunctuation_mark : ℕ → Bool
prepunctuation_mark = one_of prepunctuation_marks

-- `POSTPUNCTUATION` of text.rs
abbrev pub postpunctuation_marks : List ℕ
postpunctuation_marks = bytes "\"'`.,:;!?(){}[]"

abbrev pub postpunctuation_mark : ℕ → Bool
postpunctuation_mark = one_of postpunctuation_marks

abbrev pub non_postpunctuation : ℕ → Bool
non_postpunctuation b = not (postpunctuation_mark b)

abbrev pub only : ℕ → ℕ → Bool
only c b = eqb b c

-- ---- no public promise is made of these

abbrev pub digit_or_dash : ℕ → Bool
digit_or_dash b = digit b || eqb b (code "-")

abbrev pub non_digit : ℕ → Bool
non_digit b = not (digit b)
