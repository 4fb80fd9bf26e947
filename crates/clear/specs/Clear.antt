-- Document 01, "Clear entries", with the full hours of document 02, A1, and the ranges of A2: clear names, kind by kind, in the
-- paper's order. Definitions only.
use Rattle.std.specs.Prelude.{◌≡◌, Bool, true, false, cond, not, ◌&&◌, List, [], ◌∷◌, ◌++◌, map, ℕ, ◌-◌, ◌≤◌, ◌<◌, leb, ltb, eqb, length, get_or}
use Prim.Native.Char.{code}
use Rattle.lists.specs.Bytes.{bytes, all, listed, uppercase, lowercase}
use Rattle.vocabulary.specs.Vocabulary.{ones, teens, tens, ordinal_ones, ordinal_teens, ordinal_tens}
use Rattle.units.specs.Units.{abbreviations, unit_words, index_of}
use Rattle.shapes.specs.Shapes.{is_digits, is_n_digits, is_leading_zero_digits}
use Rattle.numerals.specs.Words.{Word, spelled}
use Rattle.numerals.specs.Cardinal.{cardinal}
use Rattle.numerals.specs.Ordinal.{ordinal}

-- `"Plain" means digits, "0" or with no leading zero.`
abbrev pub plain : List ℕ → Bool
plain s = is_digits s && not (is_leading_zero_digits s)

-- "optional minus"
pub data OptionalMinus : List ℕ → Type 0 where
  no_minus : OptionalMinus []
  a_minus : OptionalMinus (bytes "-")

-- "optional point with one or more digits"
pub data Decimals : List ℕ → Type 0 where
  no_point : Decimals []
  a_point : (f : List ℕ) → is_digits f ≡ true → Decimals (bytes "." ++ f)

-- "optional sign"
pub data ExponentSign : List ℕ → Type 0 where
  no_sign : ExponentSign []
  plus_sign : ExponentSign (bytes "+")
  minus_sign : ExponentSign (bytes "-")

-- `optional "e" with optional sign and plain digits`
pub data Exponent : List ℕ → Type 0 where
  no_exponent : Exponent []
  an_exponent : (g x : List ℕ) → ExponentSign g → plain x ≡ true → Exponent (bytes "e" ++ (g ++ x))

-- the first two kinds: "one or more digits"; "optional minus, plain digits, optional point .., optional "e" .."
pub data Number : List ℕ → Type 0 where
  number_digits : (s : List ℕ) → is_digits s ≡ true → Number s
  number_figure : (m a f x : List ℕ) → OptionalMinus m → plain a ≡ true → Decimals f → Exponent x → Number (m ++ (a ++ (f ++ x)))

-- "plain hour of 1 or 2 digits"
abbrev pub is_hour : List ℕ → Bool
is_hour h = plain h && leb (length h) 2

-- "minute 00 to 59"
abbrev pub is_minute : List ℕ → Bool
is_minute m = is_n_digits 2 m && leb (get_or m 0 0) (code "5")

-- `"am" or "pm"`
pub data AmPm : List ℕ → Type 0 where
  am : AmPm (bytes "am")
  pm : AmPm (bytes "pm")

-- "the right suffix (th after a tens digit 1, else st, nd, rd for 1, 2, 3, else th)"
abbrev pub suffix_for : ℕ → List ℕ
suffix_for b = cond (eqb b (code "1")) (bytes "st") (cond (eqb b (code "2")) (bytes "nd") (cond (eqb b (code "3")) (bytes "rd") (bytes "th")))

unfoldable pub suffix : List ℕ → List ℕ
suffix s =
    cond (ltb 1 (length s) && eqb (get_or s (length s - 2) 0) (code "1")) (bytes "th")
    (suffix_for (get_or s (length s - 1) 0))

-- capitals "with single dots between"
unfoldable pub dotted_initials : ℕ → List ℕ → List ℕ
dotted_initials c [] = c ∷ []
dotted_initials c (d ∷ cs) = c ∷ code "." ∷ dotted_initials d cs

-- "the words of the tables in numbers.rs": ONES, TEENS, TENS, ORDINAL_ONES, ORDINAL_TEENS, ORDINAL_TENS, SCALES
unfoldable pub table_words : List (List ℕ)
table_words =
    map bytes (ones ++ (teens ++ (tens ++ (ordinal_ones ++ (ordinal_teens ++ (ordinal_tens ++ ("billion" ∷ "million" ∷ "thousand" ∷ [])))))))

-- "any word that alone is an answer": some text is read as the one word w
abbrev pub SingleAnswer : (List ℕ → List Word) → List ℕ → Type 0
SingleAnswer f w = (t : List ℕ) × (spelled (f t) ≡ w ∷ [])

-- a clear name
pub data Clear : List ℕ → Type 0 where
  -- the first two kinds
  clear_number : (s : List ℕ) → Number s → Clear s
  -- "either of these with one %"
  clear_percent : (s : List ℕ) → Number s → Clear (s ++ bytes "%")
  -- "plain hour of 1 or 2 digits, colon, minute 01 to 59"; 02, A1: "A plain hour with ":00" becomes a clear entry"
  clear_time : (h m : List ℕ) → is_hour h ≡ true → is_minute m ≡ true → Clear (h ++ (bytes ":" ++ m))
  -- `such an hour, colon, minute 00 to 59, then "am" or "pm"`
  clear_meridiem : (h m x : List ℕ) → is_hour h ≡ true → is_minute m ≡ true → AmPm x → Clear (h ++ (bytes ":" ++ (m ++ x)))
  -- "plain digits with the right suffix"
  clear_ordinal : (s : List ℕ) → plain s ≡ true → Clear (s ++ suffix s)
  -- "plain digits with the first abbreviation of a unit word in table order": row k is the first with its word
  clear_unit : (s : List ℕ) (k : ℕ) → plain s ≡ true → k < length unit_words → index_of (get_or unit_words k []) unit_words ≡ k → Clear (s ++ get_or abbreviations k [])
  -- 02, A2: "Ranges join the clear entries": "digits, hyphen, digits"
  clear_range : (a b : List ℕ) → is_digits a ≡ true → is_digits b ≡ true → Clear (a ++ (bytes "-" ++ b))
  -- "two or more capitals with single dots between"
  clear_initials : (c d : ℕ) (cs : List ℕ) → all uppercase (c ∷ d ∷ cs) ≡ true → Clear (dotted_initials c (d ∷ cs))
  -- "two or more letters a to z, other than the words of the tables in numbers.rs and any word that alone is an answer of
  -- `cardinal` or `ordinal`"
  clear_word : (s : List ℕ) → 2 ≤ length s → all lowercase s ≡ true → listed s table_words ≡ false → (SingleAnswer cardinal s → ⊥)
      → (SingleAnswer ordinal s → ⊥) → Clear s
