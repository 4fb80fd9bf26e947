use mathlib.Core.List.{map}
use Rattle.lists.specs.Bytes.{to_lower}
use mathlib.Core.Path.{refl}
use Rattle.numerals.proofs.Said.{said_other, says_more}
use Rattle.row_readers.proofs.Laws.{reads_by, no_unit, unit_read}
use Rattle.row_readers.proofs.from_unit.Goals as goal

pub returns-in_default : goal.returns-in_default
returns-in_default c =
    reads_by (no_unit c.args.name.now (rw c.in_default.is at c.unit_word.ensures))
    (said_other (map to_lower c.args.name.now) c.put_word_lowered.ensures)

pub returns : goal.returns
returns c =
    reads_by (unit_read c.args.name.now (rw c.in-Some.is at c.unit_word.ensures))
    (says_more _ _ refl (rw (c.front.ensures, c.last_end.ensures) at c.say_cardinal.ensures) (said_other _ c.put_word.ensures))
