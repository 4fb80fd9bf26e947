use native.Mathlib.Omega.{arith}
use mathlib.Core.Path.{sym, ◌∙◌}
use Rattle.admit.proofs.Calls.{ascii_text_accepted}
use Rattle.admit.proofs.admit_text.Goals as goal

pub returns-then-all : goal.returns-then-all
returns-then-all c = sym (ascii_text_accepted _ _ (omega arith) (sym c.all.ensures ∙ c.if-all.true))
