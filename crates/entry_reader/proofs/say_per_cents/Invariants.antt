use Rattle.word_writer.specs.Writer.{Says}
use Rattle.numerals.specs.Words.{spelled}
use Rattle.entry_reader.specs.Percents.{per_cents}
use Rattle.entry_reader.proofs.say_per_cents.Given as goal

abbrev pub invariant-loop : goal.invariant-loop
invariant-loop l = Says (spelled (per_cents l.counter)) l.initial.out l.out
