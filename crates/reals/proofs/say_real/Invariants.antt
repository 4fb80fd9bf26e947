use Rattle.std.proofs.Common.{length}
use Rattle.word_writer.proofs.Saying.{Leaves}
use Rattle.numerals.specs.Words.{spelled}
use Rattle.reals.specs.Real.{real}
use Rattle.reals.proofs.say_real.Given as goal

abbrev pub invariant-loop-rest : goal.invariant-loop-rest
invariant-loop-rest l = Leaves (spelled (real l.s)) (spelled (real l.rest)) l.initial.out l.out

abbrev pub decreases-loop-rest : goal.decreases-loop-rest
decreases-loop-rest l = length l.rest
