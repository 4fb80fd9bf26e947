-- What the functions of this crate pass on to each other. Definitions only; no public promise is made of them.
use Rattle.std.specs.Prelude.{List, ℕ, suc, drop}
use Rattle.lists.specs.Bytes.{span}
use Rattle.lists.specs.Classes.{continuation}

-- how many bytes the first character has; 1 if the text is empty
abbrev pub char_span : List ℕ → ℕ
char_span s = suc (span continuation (drop 1 s))
