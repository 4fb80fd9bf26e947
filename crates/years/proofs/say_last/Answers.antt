use Rattle.std.proofs.Common.{arith}
use Rattle.years.proofs.YearLaws.{year_short}
use Rattle.years.proofs.say_last.Goals as goal

pub returns-in-0 : goal.returns-in-0
returns-in-0 c = rw (year_short c.args.ds.values.now (omega arith)) c.say_short_cardinal.ensures
