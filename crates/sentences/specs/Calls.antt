-- What the calls of the whole-text form and the step form answer. Definitions only.
use Rattle.std.specs.Prelude.{Bool, false, List, [], ◌∷◌, ℕ, zero, suc, min, Result, Ok, Err}
use Rattle.admit.specs.Refusals.{refusal_number, Test, first_refusal, text_limit, text_tests, Call, call}
use Rattle.tokens.specs.Tokens.{tokens}
use Rattle.sentences.specs.Sentences.{sentence_starts, flag, kept, breaks}
use Rattle.sentences.specs.declared.State.{State}
use Rattle.sentences.specs.declared.Step.{Step}
use Rattle.sentences.specs.declared.RefusedStep.{RefusedStep}

-- a byte for each token: 1 if it starts a sentence, else 0
unfoldable pub flags : List Bool → List ℕ
flags [] = []
flags (b ∷ bs) = flag b ∷ flags bs

abbrev pub start_bytes : List ℕ → List ℕ
start_bytes s = flags (sentence_starts (tokens s))

-- "the whitespace, name and punctuation fed to it are texts under numbers 1 and 2"; and under number 6, as every text
abbrev pub step_tests : List ℕ → List ℕ → List ℕ → List Test
step_tests whitespace name punctuation = text_tests text_limit (whitespace ∷ name ∷ punctuation ∷ [])

-- whether a sentence ends before the token, and the state after it
pub record StepResult : Type 0 where
  pub breaks : Bool
  pub state : State

-- "a refused step hands back the state it was given"
unfoldable pub step_call : State → List ℕ → List ℕ → List ℕ → Call StepResult
step_call s whitespace name punctuation =
    call (record { breaks = false; state = s })
    (first_refusal (step_tests whitespace name punctuation))
    (record { breaks = breaks s whitespace name; state = kept name punctuation })

-- the answer of a step
abbrev pub as_step : Result Step RefusedStep → Call StepResult
as_step (Ok t) = record { refusal = 0; value = record { breaks = t.breaks; state = t.state } }
as_step (Err r) = record { refusal = refusal_number r.refusal; value = record { breaks = false; state = r.state } }

-- ---- no public promise is made of this

-- the smaller number of two texts, of which one may be accepted or both
abbrev pub smaller_refusal : ℕ → ℕ → ℕ
smaller_refusal zero m = m
smaller_refusal (suc n) zero = suc n
smaller_refusal (suc n) (suc m) = min (suc n) (suc m)
