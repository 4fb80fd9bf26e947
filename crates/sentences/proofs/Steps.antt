-- The step form, fed the tokens of a text, breaks before the tokens that the whole-text form marks, except the first.
-- Assumes nothing.
use mathlib.Core.Path.{◌≡◌, refl, ap, ap₂}
use mathlib.Core.Bool.{Bool, true, false}
use mathlib.Core.List.{List, [], ◌∷◌, map}
use Prim.Native.Nat.{ℕ, zero, suc}
use Rattle.lists.specs.Bytes.{Every}
use Rattle.admit.specs.Refusals.{first_refusal, text_limit, text_refusal, Call, call}
use Rattle.tokens.specs.Tokens.{Token, tokens}
use Rattle.tokens.proofs.Texts.{AcceptedText, Each, tokens_accepted}
use Rattle.sentences.specs.Sentences.{sentence_starts_after, sentence_starts, is_set, fresh, kept, breaks}
use Rattle.sentences.specs.Calls.{step_tests, StepResult, step_call}
use Rattle.sentences.specs.Steps.{step_of, fed, break_verdict, accepted_step, but_first}
use Rattle.sentences.specs.declared.State.{State}
use Rattle.sentences.proofs.Kept.{breaks_kept}
use Rattle.sentences.proofs.StepTexts.{step_texts}

-- "its first step from a fresh state answers no break": whatever else the state holds, and if the step is refused too
pub fresh_step : (s : State) (w n p : List ℕ) → is_set s.fresh ≡ true → (step_call s w n p).value.breaks ≡ false
unfolding step_call
fresh_step s w n p f = go (first_refusal (step_tests w n p))
  where
    go : (k : ℕ) → (call {A = StepResult} (record { breaks = false; state = s }) k (record { breaks = breaks s w n; state = kept n p })).value.breaks ≡ false
    go zero = rw f
    go (suc k) = refl

-- "a refused step hands back the state it was given"
pub refused_step : (s : State) (w n p : List ℕ) → ((step_call s w n p).refusal ≡ 0 → ⊥) → (step_call s w n p).value ≡ record { breaks = false; state = s }
unfolding step_call
refused_step s w n p = go (first_refusal (step_tests w n p)) (record { breaks = breaks s w n; state = kept n p })
  where
    go : (k : ℕ) (given : StepResult) → ((call (record { breaks = false; state = s }) k given).refusal ≡ 0 → ⊥)
        → (call (record { breaks = false; state = s }) k given).value ≡ record { breaks = false; state = s }
    go zero given h = absurd (h refl)
    go (suc k) given h = refl

step_accepted : (s : State) (t : Token) → Each (AcceptedText text_limit) t
    → step_of s t ≡ record { refusal = 0; value = record { breaks = breaks s t.whitespace t.name; state = kept t.name t.punctuation } }
unfolding step_call
step_accepted s t h =
    rw (step_texts t.whitespace t.name t.punctuation, h.whitespace, h.name, h.punctuation)

fed_after : (t : Token) (us : List Token) → Every (Each (AcceptedText text_limit)) us
    → map break_verdict (fed (kept t.name t.punctuation) us) ≡ map accepted_step (sentence_starts_after t us)
unfolding fed sentence_starts_after
fed_after t [] h = refl
fed_after t (u ∷ us) h = rw (step_accepted (kept t.name t.punctuation) u h.0) (ap₂ ◌∷◌ (ap accepted_step (breaks_kept t u)) (fed_after u us h.1))

fed_fresh : (ts : List Token) → Every (Each (AcceptedText text_limit)) ts → map break_verdict (fed fresh ts) ≡ map accepted_step (but_first (sentence_starts ts))
unfolding fed sentence_starts but_first
fed_fresh [] h = refl
fed_fresh (t ∷ ts) h = rw (step_accepted fresh t h.0) (ap (λ (r : List (Call Bool)). accepted_step false ∷ r) (fed_after t ts h.1))

-- fed the tokens of an accepted text, every step is accepted and breaks before exactly the tokens, other than the first, that
-- the whole-text form marks
pub steps_tie : (s : List ℕ) → text_refusal text_limit s ≡ 0 → map break_verdict (fed fresh (tokens s)) ≡ map accepted_step (but_first (sentence_starts (tokens s)))
steps_tie s h = fed_fresh (tokens s) (tokens_accepted text_limit s h)
