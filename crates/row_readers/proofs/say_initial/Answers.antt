use Rattle.numerals.proofs.Said.{said_other}
use Rattle.row_readers.proofs.Laws.{letter_initial}
use Rattle.row_readers.proofs.say_initial.Goals as goal

pub returns-then-b-ne46 : goal.returns-then-b-ne46
returns-then-b-ne46 c = rw (letter_initial c.args.b c.if-b-ne46.true) (said_other _ c.say_letter.ensures)
