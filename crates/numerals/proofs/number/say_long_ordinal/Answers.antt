use Rattle.std.proofs.Common.{◌≡◌, ◌-◌, arith, take}
use Rattle.numerals.proofs.Digits.{digit_values_last, last_some}
use Rattle.numerals.proofs.Flushing.{long_said}
use Rattle.numerals.proofs.number.say_long_ordinal.Goals as goal

pub overflow_sub-at : goal.overflow_sub-at
overflow_sub-at c =
    let some = last_some c.args.s.now (omega arith) in
    let q : (c.last_end-at.result ≡ 0 → ⊥) = rw c.last_end-at.ensures some in
    omega arith

pub returns : goal.returns
returns c =
    let s = c.args.s.now in
    long_said s (take (c.last_end-at.result - 1) s) c.digit_value-d.result c.requires
    (rw (c.digit_value-d.ensures, c.byte_at.ensures, c.last_end-at.ensures) (digit_values_last s (last_some s (omega arith))))
    (rw c.front.ensures at c.say_digits.ensures) (rw c.from.ensures at c.say.ensures)
