-- The entries after the first n, from the token before them. Assumes nothing.
use mathlib.Core.Path.{◌≡◌, refl, sym, ap, ◌∙◌}
use mathlib.Core.List.{List, [], ◌∷◌, ◌++◌, map}
use Prim.Native.Nat.{ℕ, suc, ◌≤◌}
use native.Mathlib.Omega.{arith}
use lib.ListN.{length, drop, length-append, length-map, drop_of_length-le}
use Rattle.std.specs.Iterator.{Yields, YieldsFirstBy}
use Rattle.tokens.specs.Tokens.{Token}
use Rattle.tokens.specs.Left.{parts_of, tokens_left}
use Rattle.tokens.specs.declared.Token.{Token as Parts}
use Rattle.tokens.specs.declared.Tokens.{Tokens}
use Rattle.tokens.proofs.Given.{given_first}
use Rattle.sentences.specs.Sentences.{kept}
use Rattle.sentences.specs.Left.{entries_after}
use Rattle.sentences.specs.declared.State.{State}
use Rattle.sentences.proofs.Marking.{entries_length, entries_none}

-- the entries of tokens, without those up to a token t
entries_behind : (s : State) (us : List Token) (t : Token) (ts : List Token) {n : ℕ} → n ≡ length us
    → drop (suc n) (entries_after s (us ++ t ∷ ts)) ≡ entries_after (kept t.name t.punctuation) ts
unfolding entries_after
entries_behind s [] t ts e = rw e
entries_behind s (u ∷ us) t ts e = rw e (entries_behind (kept u.name u.punctuation) us t ts refl)

module _ (st : State) (s t : Tokens) (xs : List Parts) (n : ℕ) (y : Yields (YieldsFirstBy parts_of tokens_left) s xs t) where
  -- n + 1 tokens were given, and x is the last of them
  pub after_last_given : (x : Parts) {ts : List Token} → tokens_left t ≡ parts_of x ∷ ts → length xs ≡ n → {k : ℕ} → suc n ≡ k
      → entries_after (kept x.name.now x.punctuation.now) ts ≡ drop k (entries_after st (tokens_left s))
  after_last_given x {ts} e l f =
      rw (← f, given_first s t xs y, e) (sym (entries_behind st (map parts_of xs) (parts_of x) ts (omega (arith, length-map xs parts_of))))

  -- no more than n were given, and no token is left
  pub after_none_given : {ts : List Token} → tokens_left t ≡ [] → ts ≡ [] → length xs ≤ n → {k : ℕ} → n ≤ k → (r : State)
      → entries_after r ts ≡ drop k (entries_after st (tokens_left s))
  after_none_given e f l {k} h r =
      let a = ap length (given_first s t xs y) ∙ length-append (map parts_of xs) (tokens_left t) in
      entries_none r f
      ∙ sym (drop_of_length-le (entries_after st (tokens_left s)) {i = k}
      (omega (arith, a, ap length e, length-map xs parts_of, entries_length st (tokens_left s))))
