use Rattle.std.proofs.Common.{length}
use borrow.Author.Tests.{le-leb, lt-leb}
use Rattle.numerals.specs.Cardinal.{digit_values, cardinal, cardinal_of, digits}
use Rattle.numerals.proofs.Picking.{picked_digits}
use Rattle.numerals.proofs.number.say_cardinal.Goals as goal

pub returns-in-Ok : goal.returns-in-Ok
unfolding cardinal cardinal_of
returns-in-Ok c =
    let s = c.args.s.now in
    let d = c.in-Ok.ensures in
    rw (le-leb (length (digit_values s)) 12 d.few, ← picked_digits s d, ← c.digits.ensures) c.say_short_cardinal.ensures

pub returns-in-Err : goal.returns-in-Err
unfolding cardinal cardinal_of digits
returns-in-Err c = rw (lt-leb (length (digit_values c.args.s.now)) 12 c.in-Err.ensures.more) c.say_digits.ensures
