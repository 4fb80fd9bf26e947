-- Document 01, "Token table and sentences": what it says about the parts of every token. Definitions only; theorems use them, and
-- no contract does.
use Rattle.std.specs.Prelude.{◌≡◌, Bool, true, false, cond, List, [], ◌∷◌, ◌++◌, ℕ, ◌-◌, ◌<◌, eqb, length, get_or}
use Rattle.lists.specs.Bytes.{all, after_last}
use Rattle.lists.specs.Classes.{whitespace, non_whitespace, prepunctuation_mark, postpunctuation_mark}
use Rattle.tokens.specs.Tokens.{Token}

-- what follows a token's whitespace
abbrev pub run_of : Token → List ℕ
run_of t = t.prepunctuation ++ (t.name ++ t.punctuation)

-- a token; `ends` says that the text ends with it
pub record Peeled (ends : Bool) (t : Token) : Type 0 where
  -- "Whitespace is space, tab, LF, CR. Each maximal run of other bytes is one token."
  pub white : all whitespace t.whitespace ≡ true
  pub run : (0 < length (run_of t)) × (all non_whitespace (run_of t) ≡ true)
  -- "Leading marks from `PREPUNCTUATION` are its prepunctuation; trailing marks from `POSTPUNCTUATION` are peeled"
  pub leading : all prepunctuation_mark t.prepunctuation ≡ true
  pub trailing : all postpunctuation_mark t.punctuation ≡ true
  -- "A run wholly of leading marks has an empty name if whitespace follows and is itself the name if the text ends there."
  pub marks : all prepunctuation_mark (run_of t) ≡ true → (t.name ≡ cond ends (run_of t) []) × (t.punctuation ≡ [])
  -- in any other run, the name starts with a byte that is no leading mark: "the first byte of what follows the prepunctuation
  -- always stays in the name"
  pub first : all prepunctuation_mark (run_of t) ≡ false → (0 < length t.name) × (prepunctuation_mark (get_or t.name 0 0) ≡ false)
  -- after that first byte, the name does not end in a trailing mark
  pub last : all prepunctuation_mark (run_of t) ≡ false → 1 < length t.name → postpunctuation_mark (get_or t.name (length t.name - 1) 0) ≡ false

-- tokens one after the other, each but the first with whitespace before it; `ends` says that the text ends with the last one
abbrev pub AllPeeled : Bool → List Token → Type 0
AllPeeled ends [] = Unit
AllPeeled ends (t ∷ []) = Peeled ends t
AllPeeled ends (t ∷ u ∷ ts) = Peeled false t × (0 < length u.whitespace) × AllPeeled ends (u ∷ ts)

-- the text has no trailing whitespace
abbrev pub ends_in_run : List ℕ → Bool
ends_in_run s = eqb (length s) (after_last non_whitespace s)
