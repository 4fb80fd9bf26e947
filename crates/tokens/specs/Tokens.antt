-- Document 01, "Token table and sentences": the tokens of a text. Definitions only.
use Rattle.std.specs.Prelude.{Bool, cond, ◌&&◌, List, [], ◌∷◌, ℕ, suc, eqb, length, take, drop}
use Rattle.lists.specs.Bytes.{all, take_while, drop_while, after_last}
use Rattle.lists.specs.Classes.{whitespace, non_whitespace, prepunctuation_mark, non_postpunctuation}
use Rattle.lists.specs.Recur.{recur}

-- a token: "whitespace, prepunctuation, name, punctuation"
pub record Token : Type 0 where
  pub whitespace : List ℕ
  pub prepunctuation : List ℕ
  pub name : List ℕ
  pub punctuation : List ℕ

-- how much of what follows the prepunctuation is the name: "trailing marks from `POSTPUNCTUATION` are peeled, but the first
-- byte of what follows the prepunctuation always stays in the name"
abbrev pub name_size : List ℕ → ℕ
name_size [] = 0
name_size (b ∷ s) = suc (after_last non_postpunctuation s)

-- "Leading marks from `PREPUNCTUATION` are its prepunctuation". In a run wholly of them nothing follows, so name and punctuation
-- are empty
abbrev pub peel : List ℕ → List ℕ → Token
peel white run =
    let rest : List ℕ = drop_while prepunctuation_mark run in
    record { whitespace = white; prepunctuation = take_while prepunctuation_mark run; name = take (name_size rest) rest; punctuation = drop (name_size rest) rest }

-- a run of other bytes, after its whitespace: "A run wholly of leading marks has an empty name if whitespace follows and is
-- itself the name if the text ends there."
unfoldable pub cut : List ℕ → List ℕ → Bool → Token
cut white run ends =
    cond (ends && all prepunctuation_mark run)
    (record { whitespace = white; prepunctuation = []; name = run; punctuation = [] })
    (peel white run)

-- the text after the whitespace at its front, and after the run that follows
abbrev pub after_whitespace : List ℕ → List ℕ
after_whitespace s = drop_while whitespace s

abbrev pub after_run : List ℕ → List ℕ
after_run s = drop_while non_whitespace (after_whitespace s)

-- the first token of a text; if it has none, all of the text is whitespace and the other three parts are empty
abbrev pub first_token : List ℕ → Token
first_token s = cut (take_while whitespace s) (take_while non_whitespace (after_whitespace s)) (eqb (length (after_run s)) 0)

-- "Each maximal run of other bytes is one token."
unfoldable pub tokens_step : (List ℕ → List Token) → List ℕ → List Token
tokens_step again s = cond (all whitespace s) [] (first_token s ∷ again (after_run s))

unfoldable pub tokens : List ℕ → List Token
tokens = recur [] tokens_step

-- a token's four parts in their order
abbrev pub token_parts : Token → List (List ℕ)
token_parts t = t.whitespace ∷ t.prepunctuation ∷ t.name ∷ t.punctuation ∷ []
