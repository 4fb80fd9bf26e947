-- The first digits of a text, at most twelve. Definitions only; no public promise is made of them.
use Rattle.std.specs.Prelude.{◌≡◌, List, [], ◌∷◌, Result, Ok, Err, ℕ, zero, suc, ◌≤◌, ◌<◌, length}
use Rattle.numerals.specs.Cardinal.{digit_values}
use Rattle.numerals.specs.declared.digit_values.FirstDigits.{FirstDigits}

-- the first k values, and 0 for each that is missing
unfoldable pub padded : ℕ → List ℕ → List ℕ
padded zero ds = []
padded (suc k) [] = 0 ∷ padded k []
padded (suc k) (d ∷ ds) = d ∷ padded k ds

-- the values of the digits of s, and how many there are
pub record HasDigitsOf (s : List ℕ) (d : FirstDigits) : Type 0 where
  pub few : length (digit_values s) ≤ 12
  pub values : d.values ≡ padded 12 (digit_values s)
  pub count : d.count ≡ length (digit_values s)

-- the values of the first twelve digits of s, which has more
pub record HasTwelveOf (s : List ℕ) (d : FirstDigits) : Type 0 where
  pub more : 12 < length (digit_values s)
  pub values : d.values ≡ padded 12 (digit_values s)
  pub count : d.count ≡ 12

-- all digits of s if it has at most twelve, and else the first twelve
abbrev pub AreFirstDigits : List ℕ → Result FirstDigits FirstDigits → Type 0
AreFirstDigits s (Ok d) = HasDigitsOf s d
AreFirstDigits s (Err d) = HasTwelveOf s d
