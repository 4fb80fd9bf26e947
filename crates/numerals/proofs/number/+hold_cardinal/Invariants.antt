use Rattle.std.proofs.Common.{length}
use Rattle.numerals.proofs.number.+hold_cardinal.Given as goal

-- Each call of itself is on fewer digits.
abbrev pub decreases-hold_cardinal : goal.decreases-hold_cardinal
decreases-hold_cardinal l = length l.ds.values.now
