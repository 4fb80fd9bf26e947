use lib.ListN.{take}
use Rattle.word_writer.specs.Writer.{Says}
use Rattle.numerals.specs.Words.{spelled}
use Rattle.row_readers.specs.Walk.{initials}
use Rattle.row_readers.proofs.say_initials.Given as goal

abbrev pub invariant-loop-b : goal.invariant-loop-b
invariant-loop-b l = Says (spelled (initials (take l.b-index l.name))) l.initial.out l.out
