-- The marks of the whole-text form, token by token. Assumes nothing.
use mathlib.Core.Path.{◌≡◌, refl, ap}
use mathlib.Core.Bool.{true, false}
use mathlib.Core.List.{List, [], ◌∷◌}
use Prim.Native.Nat.{ℕ, zero, suc, ◌<◌}
use native.Mathlib.Omega.{arith}
use lib.ListN.{length, get_or}
use Rattle.tokens.specs.Tokens.{Token}
use Rattle.sentences.specs.Sentences.{is_sentence_break, sentence_starts_after, sentence_starts}

after_each : (t : Token) (us : List Token) → length (sentence_starts_after t us) ≡ length us
unfolding sentence_starts_after
after_each t [] = refl
after_each t (u ∷ us) = ap suc (after_each u us)

-- "The whole-text form answers for each token whether it starts a sentence"
pub starts_each : (ts : List Token) → length (sentence_starts ts) ≡ length ts
unfolding sentence_starts
starts_each [] = refl
starts_each (t ∷ ts) = ap suc (after_each t ts)

-- "the first token does"
pub first_starts : (ts : List Token) → 0 < length ts → get_or (sentence_starts ts) 0 false ≡ true
unfolding sentence_starts
first_starts [] h = absurd (omega arith)
first_starts (t ∷ ts) h = refl

after_at : (t : Token) (us : List Token) (none : Token) (k : ℕ) → k < length us
    → get_or (sentence_starts_after t us) k false ≡ is_sentence_break (get_or (t ∷ us) k none) (get_or us k none)
unfolding sentence_starts_after
after_at t [] none k h = absurd (omega arith)
after_at t (u ∷ us) none zero h = refl
after_at t (u ∷ us) none (suc k) h = after_at u us none k (omega arith)

-- "`is_sentence_break` decides between neighbours"
pub start_at : (ts : List Token) (none : Token) (k : ℕ) → suc k < length ts
    → get_or (sentence_starts ts) (suc k) false ≡ is_sentence_break (get_or ts k none) (get_or ts (suc k) none)
unfolding sentence_starts
start_at [] none k h = absurd (omega arith)
start_at (t ∷ ts) none k h = after_at t ts none k (omega arith)
