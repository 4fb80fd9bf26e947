use Rattle.admit.proofs.Calls.{call_accepted}
use Rattle.shapes.proofs.Laws.{split_unit_some}
use Rattle.patterns.proofs.Laws.{unit_none, unit_found_lem, unit_le}
use Rattle.patterns.proofs.split_unit.Goals as goal

pub returns-in_default : goal.returns-in_default
returns-in_default c =
    call_accepted _ _ _ _ (rw c.in_ok-admit_text.was at c.admit_text.ensures) (unit_none _ (rw c.in_default.is at c.split_unit.ensures))

pub overflow_sub-offset : goal.overflow_sub-offset
overflow_sub-offset c = rw (split_unit_some _ (rw c.in-Some.is at c.split_unit.ensures)).1 (unit_le _)

pub returns : goal.returns
returns c =
    call_accepted _ _ _ _ (rw c.in_ok-admit_text.was at c.admit_text.ensures) (unit_found_lem _ (rw c.in-Some.is at c.split_unit.ensures))
