-- What the functions of this crate pass on to each other. Definitions only; no public promise is made of them.
use Rattle.std.specs.Prelude.{◌≡◌, drop, Bool, cond, ◌||◌, List, [], ◌∷◌, ◌++◌, ℕ, ◌+◌, ltb, length, take}
use Prim.Native.Char.{code}
use Rattle.lists.specs.Bytes.{bytes, starts_with}
use Rattle.word_writer.specs.Writer.{Says}
use Rattle.word_writer.specs.declared.Writer.{Writer}
use Rattle.numerals.specs.Words.{Word, other, spelled}
use Rattle.reals.specs.Real.{e_at, pointed}

-- the text starts with a sign
abbrev pub starts_with_sign : List ℕ → Bool
starts_with_sign s = starts_with (code "-") s || starts_with (code "+") s

-- one step says a sign, or else the part up to the next "e", and then "e" if there is one: its words, and how many bytes it reads
unfoldable pub part_words : List ℕ → List Word
part_words s =
    cond (starts_with (code "-") s) (other (bytes "minus") ∷ [])
    (cond (starts_with (code "+") s) (other (bytes "plus") ∷ [])
    (pointed (take (e_at s) s) ++ cond (ltb (e_at s) (length s)) (other (bytes "e") ∷ []) []))

unfoldable pub part_size : List ℕ → ℕ
part_size s = cond (starts_with_sign s) 1 (cond (ltb (e_at s) (length s)) (e_at s + 1) (e_at s))

-- a step says its words, and leaves the text t
pub record PartSaid (s : List ℕ) (p q : Writer) (t : List ℕ) : Type 0 where
  pub said : Says (spelled (part_words s)) p q
  pub rest : t ≡ drop (part_size s) s
