use mathlib.Core.Path.{◌∙◌}
use mathlib.Core.List.{[], ◌∷◌}
use Rattle.admit.specs.Refusals.{text_tests, text_limit}
use Rattle.admit.proofs.Calls.{leaves_first, leaves_same}
use Rattle.units.specs.Units.{unit_word}
use Rattle.patterns.specs.Calls.{store_tests}
use Rattle.patterns.proofs.Laws.{word_found, word_none}
use Rattle.patterns.proofs.unit_word.Goals as goal

pub returns-in_err-admit_text : goal.returns-in_err-admit_text
returns-in_err-admit_text c =
    let u = c.args.unit.now in
    leaves_first (text_tests text_limit (u ∷ [])) (store_tests (unit_word u) c.args.store.now) c.admit_text.ensures _ _ _
    c.from_residual.result c.in_err-admit_text.was c.from_residual.ensures.1

pub returns-in_default : goal.returns-in_default
returns-in_default c =
    word_none c.args.unit.now c.args.store.now (rw c.in_ok-admit_text.was at c.admit_text.ensures)
    (rw c.in_default.is at c.unit_index.ensures)

pub returns-in_err-len : goal.returns-in_err-len
returns-in_err-len c =
    leaves_same _ _ _ c.from_residual-in_err-len.result c.in_err-len.was c.from_residual-in_err-len.ensures.1
    ∙ (rw (c.word-word.ensures, c.word_number.ensures) at c.store_word.ensures
    ∙ word_found c.args.unit.now c.args.store.now (rw c.in_ok-admit_text.was at c.admit_text.ensures) (rw c.in-Some.is at c.unit_index.ensures))

pub returns : goal.returns
returns c =
    rw (c.word-word.ensures, c.word_number.ensures, c.in_ok-len.was) at c.store_word.ensures
    ∙ word_found c.args.unit.now c.args.store.now (rw c.in_ok-admit_text.was at c.admit_text.ensures) (rw c.in-Some.is at c.unit_index.ensures)
