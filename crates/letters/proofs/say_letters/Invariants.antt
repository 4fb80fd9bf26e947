use Rattle.std.proofs.Common.{length}
use Rattle.word_writer.proofs.Saying.{Leaves}
use Rattle.numerals.specs.Words.{spelled}
use Rattle.letters.specs.Letters.{letters}
use Rattle.letters.proofs.say_letters.Given as goal

abbrev pub invariant-loop-rest : goal.invariant-loop-rest
invariant-loop-rest l = Leaves (spelled (letters l.s)) (spelled (letters l.rest)) l.initial.out l.out

abbrev pub decreases-loop-rest : goal.decreases-loop-rest
decreases-loop-rest l = length l.rest
