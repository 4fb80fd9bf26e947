use native.Mathlib.Omega.{arith}
use Rattle.word_writer.proofs.Saying.{says_byte}
use Rattle.numerals.specs.Words.{spelled}
use Rattle.row_readers.specs.Walk.{initials}
use Rattle.row_readers.proofs.Laws.{initials_append}
use Rattle.row_readers.proofs.say_initials.Goals as goal

pub loop-b-preserved : goal.loop-b-preserved
loop-b-preserved c =
    says_byte (λ t. spelled (initials t)) c.args.name.now c.loop-b.b-index initials_append (omega arith) c.loop-b.invariant c.say_initial.ensures
