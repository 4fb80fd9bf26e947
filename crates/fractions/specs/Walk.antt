-- What the functions of this crate pass on to each other. Definitions only; no public promise is made of them.
use Rattle.std.specs.Prelude.{List, ℕ}
use Prim.Native.Char.{code}
use Rattle.lists.specs.Bytes.{drop_while}
use Rattle.lists.specs.Classes.{only}

-- a text without the zeros at its front: of a number, its significant digits
abbrev pub significant : List ℕ → List ℕ
significant = drop_while (only (code "0"))
