-- What the functions of this crate pass on to each other. Definitions only; no public promise is made of them.
use Rattle.std.specs.Prelude.{Bool, cond, List, [], ◌∷◌, ℕ, get_or}
use Rattle.numerals.specs.Words.{Word, one}
use Rattle.numerals.specs.Cardinal.{pair_words}

-- how many digits one step reads, and their words
abbrev pub lead_count : Bool → ℕ
lead_count lone = cond lone 1 2

abbrev pub lead_words : Bool → List ℕ → List Word
lead_words lone ds = cond lone (one (get_or ds 0 0) ∷ []) (pair_words (get_or ds 0 0) (get_or ds 1 0))
