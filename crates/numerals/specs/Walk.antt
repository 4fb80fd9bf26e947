-- What the functions of this crate pass on to each other. Definitions only; no public promise is made of them.
use Rattle.std.specs.Prelude.{Bool, cond, ◌&&◌, ◌||◌, List, [], ◌∷◌, Option, Some, None, ℕ, ◌+◌, ◌<◌, leb, ltb, eqb, length}
use Rattle.std.proofs.Props.{props}
use mathlib.Core.HLevel.{×_prop}
use Rattle.lists.specs.Bytes.{Every, all}
use Rattle.lists.specs.Classes.{only}
use Rattle.vocabulary.specs.Vocabulary.{ones_at, teens_at, tens_at, scales_at, ordinal_step}
use Rattle.numerals.specs.Words.{Word, one, teen, ten, hundred, scale, other}

-- values of digits: each is below ten
abbrev pub BelowTen : List ℕ → Type 0
BelowTen = Every (λ d. d < 10)

-- a list has one proof of this at most
pub below_ten_prop : (ds : List ℕ) → IsProp (BelowTen ds)
below_ten_prop [] = Prim.hlevel props
below_ten_prop (d ∷ ds) = ×_prop (Prim.hlevel props) (below_ten_prop ds)

-- a word's number in the vocabulary
unfoldable pub number_of : Word → ℕ
number_of (one d) = ones_at + d
number_of (teen d) = teens_at + d
number_of (ten d) = tens_at + d
number_of hundred = scales_at
number_of (scale k) = scales_at + k
number_of (other w) = 0

-- two or three zeros: of one to three digits, only they have no words
unfoldable pub is_zero_group : List ℕ → Bool
is_zero_group s = (eqb (length s) 2 || eqb (length s) 3) && all (only 0) s

-- the number of the ordinal form of word k; that of "zeroth" if there is no word, or it is no cardinal word
unfoldable pub ordinal_number : Option ℕ → ℕ
ordinal_number None = ones_at + ordinal_step
ordinal_number (Some k) = cond (leb ones_at k && ltb k (ones_at + ordinal_step)) (k + ordinal_step) (ones_at + ordinal_step)
