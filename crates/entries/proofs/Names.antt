-- A long name among those of the tokens. Assumes nothing.
use mathlib.Core.Path.{◌≡◌, refl, ap, ◌∙◌}
use mathlib.Core.Bool.{Bool, ◌||◌}
use mathlib.Core.List.{List, [], ◌∷◌}
use Prim.Native.Nat.{ℕ}
use lib.Dec.{ltb}
use lib.ListN.{length}
use Rattle.std.specs.List.{list_any}
use Rattle.lists.specs.Bytes.{any}
use Rattle.tokens.specs.Tokens.{Token, tokens}
use Rattle.sentences.specs.Sentences.{fresh, kept}
use Rattle.sentences.specs.declared.State.{State}
use Rattle.sentences.proofs.Kept.{sentence_starts_from, starts_from_fresh}
use Rattle.call_spec.specs.Sheet.{entries_of, entries}
use Rattle.call_spec.specs.Calls.{name_limit, any_long}

-- whether a token has a long name
abbrev pub long_names : List Token → Bool
long_names = any (λ (t : Token). ltb name_limit (length t.name))

-- an entry is long if and only if its token has a long name
long_from : (st : State) (ts : List Token) → long_names ts ≡ any_long (entries_of (sentence_starts_from st ts) ts)
unfolding any entries_of sentence_starts_from
long_from st [] = refl
long_from st (t ∷ ts) = ap (λ (r : Bool). ltb name_limit (length t.name) || r) (long_from (kept t.name t.punctuation) ts)

-- the same for a whole sheet
pub long_names_lem : (s : List ℕ) → long_names (tokens s) ≡ any_long (entries s)
long_names_lem s = long_from fresh (tokens s) ∙ ap (λ (bs : List Bool). any_long (entries_of bs (tokens s))) (starts_from_fresh (tokens s))

-- the library's word for it
pub any_is : (p : Token → Bool) (ts : List Token) → list_any p ts ≡ any p ts
unfolding any
any_is p [] = refl
any_is p (t ∷ ts) = ap (λ (r : Bool). p t || r) (any_is p ts)
