use Rattle.numerals.proofs.Flushing.{short_said}
use Rattle.numerals.proofs.number.say_short_cardinal.Goals as goal

pub returns : goal.returns
returns c =
    short_said c.args.ds.values.now c.args.ds.below_ten c.none-held.ensures c.hold_cardinal.ensures c.flush.ensures
