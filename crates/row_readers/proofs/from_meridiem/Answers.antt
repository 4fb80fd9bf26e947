use mathlib.Core.Path.{refl}
use Rattle.numerals.proofs.Said.{says_more}
use Rattle.row_readers.proofs.Laws.{reads_same, reads_by, no_time, time_at}
use Rattle.row_readers.proofs.from_meridiem.Goals as goal

pub returns-in_default : goal.returns-in_default
returns-in_default c = reads_same (no_time c.args.name.now c.split_time_meridiem.ensures c.in_default.is) c.from_fraction.ensures

pub returns : goal.returns
returns c =
    reads_by (time_at c.args.name.now c.split_time_meridiem.ensures c.in-Some.is)
    (says_more _ _ refl (rw (c.front.ensures, c.part.ensures) at c.say_clock.ensures) (rw c.tail.ensures at c.say_letters.ensures))
