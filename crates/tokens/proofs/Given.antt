-- What an iterator of tokens has given, and what it still gives. Assumes nothing.
use mathlib.Core.Path.{◌≡◌, sym, ap, ◌∙◌}
use mathlib.Core.Bool.{true, false}
use mathlib.Core.List.{List, [], ◌∷◌, ◌++◌, map}
use Prim.Native.Nat.{◌+◌, ◌≤◌}
use native.Mathlib.Omega.{arith}
use lib.ListN.{length, length-append, length-map}
use Rattle.std.specs.Prelude.{Option, Some, None}
use Rattle.std.specs.Iterator.{Yields, YieldsFirstBy}
use Rattle.std.specs.Option.{option_map}
use Rattle.lists.specs.Bytes.{all}
use Rattle.lists.specs.Classes.{whitespace}
use Rattle.tokens.specs.Tokens.{Token, after_run, first_token, tokens}
use Rattle.tokens.specs.Left.{parts_of, tokens_left}
use Rattle.tokens.specs.declared.Token.{Token as Parts}
use Rattle.tokens.specs.declared.Tokens.{Tokens}
use Rattle.tokens.proofs.Forward.{tokens_none, tokens_more}
use Rattle.tokens.proofs.Walks.{tokens_past}

-- the tokens that were left are those that calls gave, and those that are left now
pub given_first : (s t : Tokens) (xs : List Parts) → Yields (YieldsFirstBy parts_of tokens_left) s xs t → tokens_left s ≡ map parts_of xs ++ tokens_left t
given_first s t [] y = ap tokens_left y
given_first s t (x ∷ xs) y = y.1 ∙ ap (λ (ts : List Token). parts_of x ∷ ts) (given_first y.0 t xs y.2)

-- an iterator, and what it is after it gave the tokens xs
module _ (s t : Tokens) (xs : List Parts) (y : Yields (YieldsFirstBy parts_of tokens_left) s xs t) where
  -- those that it gave and those that are left are as many as there were
  pub left_count : length xs + length (tokens_left t) ≡ length (tokens_left s)
  left_count = omega (arith, ap length (given_first s t xs y), length-append (map parts_of xs) (tokens_left t), length-map xs parts_of)

  -- if only whitespace is left of the text, no token is left, and all were given
  pub left_none : all whitespace t.rest.now ≡ true → (tokens_left t ≡ []) × (length xs ≡ length (tokens_left s))
  left_none e = let n = tokens_none t.rest.now e in (n, omega (arith, left_count, ap length n))

  -- so it is at the end of the text
  pub left_past : length t.rest.now ≤ 0 → (tokens_left t ≡ []) × (length xs ≡ length (tokens_left s))
  left_past h = let n = tokens_past t.rest.now 0 h in (n, omega (arith, left_count, ap length n))

  -- if another byte is left, the next call gives the first token of what is left, and the tokens of what follows it are left then
  pub left_next : all whitespace t.rest.now ≡ false → (r : Option Parts) (u : Tokens) → YieldsFirstBy parts_of tokens_left t r u
      → (option_map parts_of r ≡ Some (first_token t.rest.now)) × (tokens_left u ≡ tokens (after_run t.rest.now))
  left_next e None u n = let m = sym n.0 ∙ tokens_more t.rest.now e in cc
  left_next e (Some x) u n = let m = sym n ∙ tokens_more t.rest.now e in (cc, cc)

  -- after that call one more is given, and the others are left
  pub left_on : (x : Parts) (u : Tokens) → YieldsFirstBy parts_of tokens_left t (Some x) u → (length xs + 1) + length (tokens_left u) ≡ length (tokens_left s)
  left_on x u n = omega (arith, left_count, ap length n)
