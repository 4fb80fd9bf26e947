use mathlib.Core.Path.{◌≡◌}
use lib.ListN.{length}
use Rattle.word_writer.proofs.Saying.{Leaves}
use Rattle.numerals.specs.Words.{spelled}
use Rattle.numerals.specs.Cardinal.{digit_values}
use Rattle.years.specs.Year.{year}
use Rattle.years.proofs.say_year.Given as goal

abbrev pub invariant-loop-left : goal.invariant-loop-left
invariant-loop-left l = record {
  count : l.left ≡ length (digit_values l.rest);
  words : Leaves (spelled (year l.s)) (spelled (year l.rest)) l.initial.out l.out;
}

abbrev pub decreases-loop-left : goal.decreases-loop-left
decreases-loop-left l = l.left
