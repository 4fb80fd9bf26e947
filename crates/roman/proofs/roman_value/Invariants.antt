use Rattle.std.proofs.Common.{length, ◌-◌}
use Rattle.roman.proofs.RomanLaws.{Summed}
use Rattle.roman.proofs.roman_value.Given as goal

abbrev pub invariant-loop-letter : goal.invariant-loop-letter
invariant-loop-letter l = Summed l.s (length l.s - length l.yielded) l.added l.subtracted l.largest
