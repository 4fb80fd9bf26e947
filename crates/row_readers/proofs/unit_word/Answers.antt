use Rattle.row_readers.proofs.Laws.{unit_said, unit_in_row}
use Rattle.row_readers.proofs.unit_word.Goals as goal

pub returns-in_err-k : goal.returns-in_err-k
returns-in_err-k c =
    absurd (unit_in_row c.args.name.now (rw c.in_ok-split_unit.was at c.split_unit.ensures) (rw c.in_err-k.was at c.unit_index.ensures))

pub returns : goal.returns
returns c =
    rw (c.word.ensures, c.word_number.ensures)
    (unit_said c.args.name.now (rw c.in_ok-split_unit.was at c.split_unit.ensures) _ (rw c.in_ok-k.was at c.unit_index.ensures))
