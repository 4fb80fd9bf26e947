-- Document 01, "Number words": `real`. Definitions only.
use Rattle.std.specs.Prelude.{cond, List, [], ◌∷◌, ◌++◌, ℕ, ◌+◌, ltb, length, take, drop}
use Prim.Native.Char.{code}
use Rattle.lists.specs.Bytes.{bytes, span, starts_with}
use Rattle.lists.specs.Classes.{except, not_e}
use Rattle.lists.specs.Recur.{recur}
use Rattle.numerals.specs.Words.{Word, other}
use Rattle.numerals.specs.Cardinal.{cardinal, digits}

-- the place of the first point, and of the first "e" or "E"; the text's length if there is none
abbrev pub point_at : List ℕ → ℕ
point_at s = span (except (code ".")) s

abbrev pub e_at : List ℕ → ℕ
e_at s = span not_e s

-- "the first point parts `cardinal`, "point", `digits`; else `cardinal`"
unfoldable pub pointed : List ℕ → List Word
pointed s =
    cond (ltb (point_at s) (length s)) (cardinal (take (point_at s) s) ++ other (bytes "point") ∷ digits (drop (point_at s + 1) s))
    (cardinal s)

-- "a leading + or - is a word and the rest is read again; else the first "e" or "E" parts two texts, each read again, with the
-- word "e" between"
unfoldable pub real_step : (List ℕ → List Word) → List ℕ → List Word
real_step again s =
    cond (starts_with (code "-") s) (other (bytes "minus") ∷ again (drop 1 s))
    (cond (starts_with (code "+") s) (other (bytes "plus") ∷ again (drop 1 s))
    (cond (ltb (e_at s) (length s)) (again (take (e_at s) s) ++ other (bytes "e") ∷ again (drop (e_at s + 1) s))
    (pointed s)))

unfoldable pub real : List ℕ → List Word
real = recur [] real_step
