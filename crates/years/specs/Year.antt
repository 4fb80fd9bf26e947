-- numbers.rs, `year`: document 01 says "as the Rust". Definitions only.
use Rattle.std.specs.Prelude.{Bool, cond, not, ◌&&◌, List, [], ◌∷◌, ◌++◌, map, ℕ, ◌%◌, leb, eqb, length, take, drop, get_or}
use Rattle.lists.specs.Bytes.{bytes}
use Rattle.lists.specs.Recur.{recur}
use Rattle.numerals.specs.Words.{Word, one, hundred, other}
use Rattle.numerals.specs.Cardinal.{digit_values, cardinal_of}

-- digit i of the string is 0
abbrev pub zero_at : List ℕ → ℕ → Bool
zero_at s i = eqb (get_or s i 0) 0

-- the arms of the Rust's match, in its order
unfoldable pub year_step : (List ℕ → List Word) → List ℕ → List Word
year_step again s =
    cond (eqb (length s) 4 && (zero_at s 2 && zero_at s 3)) (cond (zero_at s 1) (cardinal_of s) (cardinal_of (take 2 s) ++ hundred ∷ []))
    (cond (eqb (length s) 3 && (not (zero_at s 0) && (zero_at s 1 && zero_at s 2))) (one (get_or s 0 0) ∷ hundred ∷ [])
    (cond (eqb (length s) 2 && (zero_at s 0 && zero_at s 1)) (one 0 ∷ one 0 ∷ [])
    (cond (eqb (length s) 2 && zero_at s 0) (other (bytes "oh") ∷ map one (drop 1 s))
    (cond (eqb (length s) 4 && (zero_at s 1 && zero_at s 2)) (cardinal_of s)
    (cond (leb (length s) 2) (cardinal_of s)
    (cond (eqb (length s % 2) 1) (one (get_or s 0 0) ∷ again (drop 1 s))
    (cardinal_of (take 2 s) ++ again (drop 2 s))))))))

unfoldable pub year_of : List ℕ → List Word
year_of = recur [] year_step

unfoldable pub year : List ℕ → List Word
year s = year_of (digit_values s)
