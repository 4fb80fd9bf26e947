-- Document 01, "Number words": `cardinal` and `digits`. A number is the list of its digits' values. Definitions only.
use Rattle.std.specs.Prelude.{cond, List, [], ◌∷◌, ◌++◌, map, ℕ, zero, suc, ◌-◌, ◌*◌, leb, ltb, eqb, length, take, drop}
use Prim.Native.Char.{code}
use Rattle.lists.specs.Bytes.{filter_if}
use Rattle.lists.specs.Classes.{digit}
use Rattle.lists.specs.Recur.{recur}
use Rattle.numerals.specs.Words.{Word, one, teen, ten, hundred, scale}

abbrev pub digit_value : ℕ → ℕ
digit_value b = b - code "0"

-- "non-digits are dropped first"
unfoldable pub digit_values : List ℕ → List ℕ
digit_values s = map digit_value (filter_if digit s)

-- `"00": none; else a pair reads as tens and ones`
unfoldable pub pair_words : ℕ → ℕ → List Word
pair_words zero zero = []
pair_words zero (suc n) = one (suc n) ∷ []
pair_words (suc t) zero = ten (suc t) ∷ []
pair_words (suc zero) (suc n) = teen (suc n) ∷ []
pair_words (suc (suc t)) (suc n) = ten (suc (suc t)) ∷ one (suc n) ∷ []

-- "the largest of billion (9 digits), million (6), thousand (3) with fewer digits than the string": 3, 2 or 1
abbrev pub scale_for : ℕ → ℕ
scale_for n = cond (ltb 9 n) 3 (cond (ltb 6 n) 2 1)

-- "where the left part has no words, only the right is read"
unfoldable pub join_at_scale : List Word → Word → List Word → List Word
join_at_scale [] w right = right
join_at_scale (v ∷ left) w right = (v ∷ left) ++ w ∷ right

-- "splits it": how many digits the left part has; the scale governs the others
abbrev pub split_at : ℕ → ℕ
split_at n = n - 3 * scale_for n

unfoldable pub by_scale : (List ℕ → List Word) → List ℕ → List Word
by_scale again s = join_at_scale (again (take (split_at (length s)) s)) (scale (scale_for (length s))) (again (drop (split_at (length s)) s))

-- "No digits: no words. One digit: its word." "Three digits: a leading 0 is dropped and the rest read again; else ones word,
-- "hundred", the pair."
unfoldable pub cardinal_step : (List ℕ → List Word) → List ℕ → List Word
cardinal_step again [] = []
cardinal_step again (a ∷ []) = one a ∷ []
cardinal_step again (a ∷ b ∷ []) = pair_words a b
cardinal_step again (a ∷ b ∷ c ∷ []) = cond (eqb a 0) (again (b ∷ c ∷ [])) (one a ∷ hundred ∷ pair_words b c)
cardinal_step again (a ∷ b ∷ c ∷ d ∷ s) = by_scale again (a ∷ b ∷ c ∷ d ∷ s)

-- the words of up to twelve digits
unfoldable pub short_cardinal : List ℕ → List Word
short_cardinal = recur [] cardinal_step

-- "Above 12: one word per digit."
unfoldable pub cardinal_of : List ℕ → List Word
cardinal_of s = cond (leb (length s) 12) (short_cardinal s) (map one s)

unfoldable pub cardinal : List ℕ → List Word
cardinal s = cardinal_of (digit_values s)

-- numbers.rs, digits
unfoldable pub digits : List ℕ → List Word
digits s = map one (digit_values s)
