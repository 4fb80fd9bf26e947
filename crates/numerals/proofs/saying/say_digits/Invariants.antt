use Rattle.std.proofs.Common.{take}
use Rattle.word_writer.specs.Writer.{Says}
use Rattle.numerals.specs.Words.{spelled}
use Rattle.numerals.specs.Cardinal.{digits}
use Rattle.numerals.proofs.saying.say_digits.Given as goal

abbrev pub invariant-loop-b : goal.invariant-loop-b
invariant-loop-b l = Says (spelled (digits (take l.b-index l.s))) l.initial.out l.out
