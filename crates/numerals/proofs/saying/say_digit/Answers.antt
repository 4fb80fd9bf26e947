use Rattle.std.proofs.Common.{arith, sym}
use Rattle.numerals.specs.Words.{spelled}
use Rattle.numerals.specs.Cardinal.{digit_value, digits}
use Rattle.word_writer.proofs.Saying.{says_nothing}
use Rattle.numerals.proofs.Digits.{digit_values_not, digit_values_digit}
use Rattle.numerals.proofs.Said.{said_digit}
use Rattle.numerals.proofs.saying.say_digit.Goals as goal

pub returns-then-is_ascii_digit : goal.returns-then-is_ascii_digit
unfolding digits
returns-then-is_ascii_digit c =
    let digit = c.if-is_ascii_digit.ensures in
    rw (digit_values_digit c.args.b digit.cases.0 digit.cases.1) (said_digit (digit_value c.args.b) (omega arith) (rw c.from.ensures at c.say.ensures))

pub returns-else-is_ascii_digit : goal.returns-else-is_ascii_digit
unfolding digits spelled
returns-else-is_ascii_digit c =
    let digit = c.if-is_ascii_digit.ensures in
    rw (digit_values_not c.args.b (sym digit.value)) says_nothing
