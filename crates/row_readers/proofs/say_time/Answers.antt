use mathlib.Core.Path.{sym, ◌∙◌}
use Rattle.row_readers.proofs.Laws.{full_hour_said, other_minute_said}
use Rattle.row_readers.proofs.say_time.Goals as goal

pub returns-then-equal : goal.returns-then-equal
returns-then-equal c =
    full_hour_said c.args.hour.now c.args.minute.now (sym c.equal.ensures ∙ c.if-equal.true) c.say_clock.ensures
    (rw c.word.ensures at c.put_word.ensures)

pub returns-else-equal : goal.returns-else-equal
returns-else-equal c = other_minute_said c.args.hour.now c.args.minute.now (sym c.equal.ensures ∙ c.if-equal.false) c.say_clock.ensures
