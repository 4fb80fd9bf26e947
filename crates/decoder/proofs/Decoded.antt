-- What must hold of the words of a name so that its sheet can be decoded. Assumes nothing.
use mathlib.Core.Path.{◌≡◌}
use mathlib.Core.Bool.{Bool, not, ◌&&◌}
use mathlib.Core.List.{List, map}
use Prim.Native.Nat.{ℕ}
use Prim.Native.Char.{code}
use lib.Dec.{eqb}
use Rattle.lists.specs.Bytes.{all, to_lower}
use Rattle.numerals.specs.Words.{spelled}
use Rattle.rows.specs.Rows.{read_with}
use Rattle.decoder.specs.Decode.{decode}

-- a word without space and LF
abbrev pub separator_free : List ℕ → Bool
separator_free w = all (λ b. not (eqb b (code " ")) && not (eqb b (code "\n"))) w

-- the words are decoded as the name; `word` is what row 12 says
pub record DecodedWith (word : List ℕ → List ℕ) (n : List ℕ) : Type 0 where
  pub decoded : decode (spelled (read_with word n).words) ≡ n

-- row 12 says the name in small letters
abbrev pub Decoded : List ℕ → Type 0
Decoded = DecodedWith (map to_lower)
