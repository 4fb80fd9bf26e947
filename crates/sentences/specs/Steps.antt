-- Document 01, "Token table and sentences": the step form, fed one token after the other. `steps_tie` uses these definitions to
-- say: "The step form breaks before every other token that does". Definitions only.
use Rattle.std.specs.Prelude.{Bool, false, List, [], ◌∷◌}
use Rattle.admit.specs.Refusals.{Call}
use Rattle.tokens.specs.Tokens.{Token}
use Rattle.sentences.specs.Calls.{StepResult, step_call}
use Rattle.sentences.specs.declared.State.{State}

-- a step that is fed a token
abbrev pub step_of : State → Token → Call StepResult
step_of s t = step_call s t.whitespace t.name t.punctuation

-- what the steps answer, each from the state that the one before it handed back
unfoldable pub fed : State → List Token → List (Call StepResult)
fed s [] = []
fed s (t ∷ ts) = step_of s t ∷ fed (step_of s t).value.state ts

-- a step's refusal number, and whether it breaks
abbrev pub break_verdict : Call StepResult → Call Bool
break_verdict r = record { refusal = r.refusal; value = r.value.breaks }

-- an accepted step that answers b
abbrev pub accepted_step : Bool → Call Bool
accepted_step b = record { refusal = 0; value = b }

-- the same answers, with no for the first token
unfoldable pub but_first : List Bool → List Bool
but_first [] = []
but_first (b ∷ bs) = false ∷ bs
