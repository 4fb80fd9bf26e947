-- The state after a token has all that the tests ask about the token, so the two forms mark the same tokens. Assumes nothing.
use mathlib.Core.Path.{◌≡◌, refl, sym, ap, ap₂, ◌∙◌}
use mathlib.Core.Bool.{Bool, true, false, ◌&&◌, ◌||◌}
use mathlib.Core.List.{List, [], ◌∷◌}
use Prim.Native.Nat.{ℕ}
use native.Mathlib.Omega.{arith}
use lib.Dec.{eqb}
use lib.ListN.{length}
use borrow.Author.Tests.{eqb-true, eqb-false}
use Rattle.lists.specs.Bytes.{bytes, same_by, to_lower}
use Rattle.lists.proofs.Scan.{same_long}
use Rattle.tokens.specs.Tokens.{Token}
use Rattle.sentences.specs.Sentences.{break_after, left_context, is_sentence_break, sentence_starts_after, sentence_starts, is_set, flag, fresh, head_of, kept, state_context, breaks}
use Rattle.sentences.specs.declared.State.{State}

-- a flag is read as the answer that it was made from
pub set_flag : (b : Bool) → is_set (flag b) ≡ b
set_flag true = refl
set_flag false = refl

-- five bytes are their own first five
head_five : (s : List ℕ) → length s ≡ 5 → head_of s ≡ s
head_five [] h = absurd (omega arith)
head_five (a ∷ []) h = absurd (omega arith)
head_five (a ∷ b ∷ []) h = absurd (omega arith)
head_five (a ∷ b ∷ c ∷ []) h = absurd (omega arith)
head_five (a ∷ b ∷ c ∷ d ∷ []) h = absurd (omega arith)
head_five (a ∷ b ∷ c ∷ d ∷ f ∷ []) h = refl
head_five (a ∷ b ∷ c ∷ d ∷ f ∷ g ∷ s) h = absurd (omega arith)

-- the length and the first five bytes are enough to compare a name with a word of five bytes
head_same : (s w : List ℕ) → length w ≡ 5 → (eqb (length s) 5 && same_by to_lower (head_of s) w) ≡ same_by to_lower s w
head_same s w l = go (eqb (length s) 5) refl
  where
    go : (t : Bool) → eqb (length s) 5 ≡ t → (t && same_by to_lower (head_of s) w) ≡ same_by to_lower s w
    go true e = ap (λ (h : List ℕ). same_by to_lower h w) (head_five s (eqb-true (length s) 5 e))
    go false e = sym (same_long to_lower s w (λ k. eqb-false (length s) 5 e (k ∙ l)))

-- the state after a token has all that the tests ask about the token
pub context_kept : (t : Token) → state_context (kept t.name t.punctuation) ≡ left_context t
context_kept t = rw (head_same t.name (bytes "yahoo") refl) (simp set_flag)

-- so a step from that state breaks exactly if a sentence ends between the two tokens
pub breaks_kept : (t u : Token) → breaks (kept t.name t.punctuation) u.whitespace u.name ≡ is_sentence_break t u
breaks_kept t u = rw context_kept

-- which tokens start a sentence after those that the state was fed
unfoldable pub sentence_starts_from : State → List Token → List Bool
sentence_starts_from s [] = []
sentence_starts_from s (t ∷ ts) = (is_set s.fresh || break_after (state_context s) t.whitespace t.name) ∷ sentence_starts_from (kept t.name t.punctuation) ts

-- from the state after the token t, these are the starts that the whole-text form gives after t
pub starts_from_after : (t : Token) (us : List Token) → sentence_starts_from (kept t.name t.punctuation) us ≡ sentence_starts_after t us
unfolding sentence_starts_from sentence_starts_after
starts_from_after t [] = refl
starts_from_after t (u ∷ us) = ap₂ ◌∷◌ (breaks_kept t u) (starts_from_after u us)

-- from a fresh state, these are all the starts that the whole-text form gives
pub starts_from_fresh : (ts : List Token) → sentence_starts_from fresh ts ≡ sentence_starts ts
unfolding sentence_starts_from sentence_starts
starts_from_fresh [] = refl
starts_from_fresh (t ∷ ts) = ap (λ (bs : List Bool). true ∷ bs) (starts_from_after t ts)
