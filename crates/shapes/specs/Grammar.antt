-- Shapes as forms of texts: each form says what the names that a shape takes are made of. proofs/Grammar.antt proves that the
-- shape takes exactly these names. Definitions only. Theorems use them, and contracts do not.
use Rattle.std.specs.Prelude.{◌≡◌, Bool, true, false, ◌||◌, ℕ, ◌≤◌, ◌<◌, length, get_or}
use mathlib.Core.List.{List, [], ◌∷◌, ◌++◌, map, flatten}
use Prim.Native.Char.{code}
use Rattle.lists.specs.Bytes.{bytes, all, same_by, listed, to_lower}
use Rattle.lists.specs.Classes.{digit, digit_or_comma, not_colon_or_point}
use Rattle.units.specs.Units.{is_unit}
use Rattle.shapes.specs.Shapes.{is_digits, is_n_digits, is_hour_minute}

-- parts with the byte c between them
abbrev pub join_by : ℕ → List (List ℕ) → List ℕ
join_by c [] = []
join_by c (p ∷ ps) = p ++ flatten (map (λ q. c ∷ q) ps)

-- "1 or 2 digits, a colon, 2 digits of which the first is at most 5"
pub data TimeForm : List ℕ → Type 0 where
  time : (h m : List ℕ) → is_digits h ≡ true → length h ≤ 2 → is_n_digits 2 m ≡ true → get_or m 0 0 ≤ code "5" → TimeForm (h ++ (bytes ":" ++ m))

-- three digits, a hyphen, four digits
pub data PhoneForm : List ℕ → Type 0 where
  phone : (a b : List ℕ) → is_n_digits 3 a ≡ true → is_n_digits 4 b ≡ true → PhoneForm (a ++ (bytes "-" ++ b))

-- digits, the byte c, digits
pub data SeparatedForm (c : ℕ) : List ℕ → Type 0 where
  separated : (a b : List ℕ) → is_digits a ≡ true → is_digits b ≡ true → SeparatedForm c (a ++ (c ∷ b))

-- "a comma, a first group of 1 to 3 digits and further groups of 3"
pub data CommaIntForm : List ℕ → Type 0 where
  comma_int : (first g : List ℕ) (gs : List (List ℕ)) → is_digits first ≡ true → length first ≤ 3 → all (is_n_digits 3) (g ∷ gs) ≡ true
      → CommaIntForm (join_by (code ",") (first ∷ g ∷ gs))

-- a zero and one or more digits
pub data LeadingZeroForm : List ℕ → Type 0 where
  leading_zero : (d : List ℕ) → is_digits d ≡ true → LeadingZeroForm (bytes "0" ++ d)

-- any text, and then "illion"
pub data IllionForm : List ℕ → Type 0 where
  illion : (t : List ℕ) → IllionForm (t ++ bytes "illion")

-- digits and an s
pub data NumberSForm : List ℕ → Type 0 where
  number_s : (d : List ℕ) → is_digits d ≡ true → NumberSForm (d ++ bytes "s")

-- am or pm, in any case
abbrev pub is_meridiem : List ℕ → Bool
is_meridiem x = same_by to_lower x (bytes "am") || same_by to_lower x (bytes "pm")

-- an hour and a minute, with a colon or a point between, and a meridiem
pub data MeridiemForm : List ℕ → Type 0 where
  meridiem_time : (h m x : List ℕ) (c : ℕ) → is_hour_minute h m ≡ true → not_colon_or_point c ≡ false → is_meridiem x ≡ true → MeridiemForm ((h ++ (c ∷ m)) ++ x)

-- the suffixes of ordinals
abbrev pub suffixes : List (List ℕ)
suffixes = map bytes ("th" ∷ "st" ∷ "nd" ∷ "rd" ∷ [])

-- digits and commas, a digit first, and a suffix in any case
pub data OrdinalForm : List ℕ → Type 0 where
  ordinal_number : (num suf : List ℕ) → digit (get_or num 0 0) ≡ true → all digit_or_comma num ≡ true → listed (map to_lower suf) suffixes ≡ true
      → OrdinalForm (num ++ suf)

-- a dollar sign, then digits or commas; if there is a point, digits after it: "passes "$,""
pub data MoneyForm : List ℕ → Type 0 where
  dollars : (w : List ℕ) → 0 < length w → all digit_or_comma w ≡ true → MoneyForm (bytes "$" ++ w)
  cents : (w d : List ℕ) → 0 < length w → all digit_or_comma w ≡ true → is_digits d ≡ true → MoneyForm (bytes "$" ++ (w ++ (bytes "." ++ d)))

-- digits and commas, a digit, and a unit of the table
pub data UnitForm : List ℕ → Type 0 where
  measure : (n u : List ℕ) (d : ℕ) → all digit_or_comma n ≡ true → digit d ≡ true → is_unit u ≡ true → UnitForm ((n ++ (d ∷ [])) ++ u)
