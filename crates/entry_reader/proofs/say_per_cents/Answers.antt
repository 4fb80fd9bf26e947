use Rattle.entry_reader.proofs.Laws.{one_percent_more}
use Rattle.entry_reader.proofs.say_per_cents.Goals as goal

pub loop-preserved : goal.loop-preserved
loop-preserved c = one_percent_more c.loop.counter c.loop.invariant c.say_per_cent.ensures
