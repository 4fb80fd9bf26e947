use Rattle.numerals.proofs.Picking.{PickedDigits}
use Rattle.numerals.proofs.digit_values.FirstDigits.of.Given as goal

abbrev pub invariant-loop-b : goal.invariant-loop-b
invariant-loop-b l = PickedDigits l.s l.values l.count l.b-index
