-- What the readers of rows pass on to each other. Definitions only; no public promise is made of them.
use Rattle.std.specs.Prelude.{◌≡◌, List, [], ◌∷◌, ◌++◌, map, ℕ, take, drop, cond, Option, Some, None}
use Prim.Native.Char.{code}
use Rattle.lists.specs.Bytes.{filter_if, to_lower}
use Rattle.lists.specs.Classes.{except}
use Rattle.units.specs.Units.{unit_word}
use Rattle.shapes.specs.Shapes.{has_unit, unit_part}
use Rattle.word_writer.specs.Writer.{Says}
use Rattle.word_writer.specs.declared.Writer.{Writer}
use Rattle.numerals.specs.Words.{Word, other, spelled}
use Rattle.letters.specs.Letters.{letter_word}
use Rattle.rows.specs.Rows.{Reading, Rule, first_taking, rows, read}
use Rattle.rows.specs.declared.Row.{Row}

-- the writer p said the words of a reading, and is q after that; the reading's row is answered
pub record Reads (g : Reading) (p : Writer) (q : Writer) (r : Row) : Type 0 where
  pub row : r ≡ g.row
  pub words : Says (spelled g.words) p q

-- one word for each byte that is no point
unfoldable pub initials : List ℕ → List Word
initials s = map (λ b. other (letter_word (b ∷ []))) (filter_if (except (code ".")) s)

-- the word of a name's unit, if the name has one
abbrev pub word_of_unit : List ℕ → Option (List ℕ)
word_of_unit s = cond (has_unit s) (Some (unit_word (unit_part s))) None

-- the rows but 5a and 10, which read shorter names again: they are the sixth and the twelfth of the list
abbrev pub rows_once : List ℕ → List Rule
rows_once s = let rules = rows (map to_lower) read s in take 5 rules ++ (drop 6 (take 11 rules) ++ drop 12 rules)

-- how those of them after the n-th read a name, if no row before took it
unfoldable pub rows_after : ℕ → List ℕ → Reading
rows_after n s = first_taking (drop n (rows_once s))
