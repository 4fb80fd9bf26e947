-- UTF-8 as the encoding of Unicode scalar values in RFC 3629, section 3. Definitions only.
-- proofs/Scalars.antt proves that the texts encoded so are those that `utf8` takes.
use Rattle.std.specs.Prelude.{cond, ◌⊎◌, ℕ, ◌+◌, ◌/◌, ◌%◌, ◌≤◌, leb}
use mathlib.Core.List.{List, [], ◌∷◌, map, flatten}

-- "characters from the U+0000..U+10FFFF range", without "character numbers between U+D800 and U+DFFF"
abbrev pub Scalar : ℕ → Type 0
Scalar c = (c ≤ 0xD7FF) ⊎ ((0xE000 ≤ c) × (c ≤ 0x10FFFF))

-- a byte 10xxxxxx, with the lowest six bits of n
abbrev pub low6 : ℕ → ℕ
low6 n = 0x80 + n % 64

-- the bits of c, the lowest last, in the places marked x
unfoldable pub encode : ℕ → List ℕ
encode c =
    -- 0000 0000-0000 007F: 0xxxxxxx
    cond (leb c 0x7F) (c ∷ [])
    -- 0000 0080-0000 07FF: 110xxxxx 10xxxxxx
    (cond (leb c 0x7FF) ((0xC0 + c / 64) ∷ low6 c ∷ [])
    -- 0000 0800-0000 FFFF: 1110xxxx 10xxxxxx 10xxxxxx
    (cond (leb c 0xFFFF) ((0xE0 + c / 4096) ∷ low6 (c / 64) ∷ low6 c ∷ [])
    -- 0001 0000-0010 FFFF: 11110xxx 10xxxxxx 10xxxxxx 10xxxxxx
    ((0xF0 + c / 262144) ∷ low6 (c / 4096) ∷ low6 (c / 64) ∷ low6 c ∷ [])))

-- the text that encodes some scalar values
abbrev pub text_of : List ℕ → List ℕ
text_of cs = flatten (map encode cs)
