use Rattle.std.proofs.Common.{arith, sym}
use Rattle.word_writer.proofs.Saying.{says_nothing, says_same, says_byte}
use Rattle.numerals.specs.Words.{spelled}
use Rattle.numerals.specs.Cardinal.{digits}
use Rattle.numerals.proofs.Digits.{digits_append, no_digits}
use Rattle.numerals.proofs.saying.say_digits.Goals as goal

pub loop-b-init : goal.loop-b-init
loop-b-init c = says_same (sym no_digits) says_nothing

pub loop-b-preserved : goal.loop-b-preserved
loop-b-preserved c = says_byte (λ t. spelled (digits t)) c.args.s.now c.loop-b.b-index digits_append (omega arith) c.loop-b.invariant c.say_digit.ensures
