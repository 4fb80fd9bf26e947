-- Document 01, "Number words": `ordinal`. Definitions only.
use Rattle.std.specs.Prelude.{cond, List, [], ◌∷◌, ◌++◌, ℕ}
use Prim.Native.Char.{code}
use Prim.Native.String.{String}
use Rattle.lists.specs.Bytes.{bytes, same, filter_if}
use Rattle.lists.specs.Classes.{except}
use Rattle.vocabulary.specs.Vocabulary.{cardinals, ordinals}
use Rattle.numerals.specs.Words.{Word, one, other, spell}
use Rattle.numerals.specs.Cardinal.{cardinal}

-- the form of w: it stands in the second table at the place where w stands in the first. If w is not in the first: "a last word
-- that the Rust leaves as it is takes "th" at its end"
unfoldable pub form_in : List String → List String → List ℕ → List ℕ
form_in [] fs w = w ++ bytes "th"
form_in (c ∷ cs) [] w = w ++ bytes "th"
form_in (c ∷ cs) (f ∷ fs) w = cond (same (bytes c) w) (bytes f) (form_in cs fs w)

-- "its ordinal form, hundred, thousand, million and billion included"
unfoldable pub ordinal_form : List ℕ → List ℕ
ordinal_form w = form_in cardinals ordinals w

-- `no words becomes "zero"`
unfoldable pub or_zero : List Word → List Word
or_zero [] = one 0 ∷ []
or_zero (w ∷ ws) = w ∷ ws

-- "the last word takes its ordinal form"
unfoldable pub on_last : List Word → List Word
on_last [] = []
on_last (w ∷ []) = other (ordinal_form (spell w)) ∷ []
on_last (w ∷ v ∷ ws) = w ∷ on_last (v ∷ ws)

-- "only commas are dropped before `cardinal`"
unfoldable pub ordinal : List ℕ → List Word
ordinal s = on_last (or_zero (cardinal (filter_if (except (code ",")) s)))
