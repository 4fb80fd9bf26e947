use mathlib.Core.Path.{sym, ◌∙◌}
use Rattle.row_readers.proofs.Laws.{clock_said}
use Rattle.row_readers.proofs.say_clock.Goals as goal

pub returns-then-not-equal : goal.returns-then-not-equal
returns-then-not-equal c =
    clock_said c.args.hour.now c.args.minute.now (sym c.equal.ensures ∙ c.if-not-equal.true) c.say_cardinal.ensures c.say_year.ensures
