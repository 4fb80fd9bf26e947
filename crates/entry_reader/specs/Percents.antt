-- The percent signs at a name's end. Definitions only; no public promise is made of them.
use Rattle.std.specs.Prelude.{List, [], ◌++◌, ℕ, zero, suc}
use Rattle.numerals.specs.Words.{Word}
use Rattle.rows.specs.Rows.{Reading, by, per_cent}

-- the words "per" and "cent" n times
unfoldable pub per_cents : ℕ → List Word
per_cents zero = []
per_cents (suc n) = per_cent ++ per_cents n

-- a reading with n percent signs after it, which do not change its row
abbrev pub with_percents : Reading → ℕ → Reading
with_percents g n = by g.row (g.words ++ per_cents n)
