use Rattle.std.proofs.Common.{arith, ap, ◌∙◌}
use Rattle.lists.specs.Classes.{non_digit}
use Rattle.lists.proofs.Scan.{span_le}
use Rattle.numerals.specs.Cardinal.{digit_value, digit_values}
use Rattle.numerals.proofs.NumberWords.{digit_at, digit_values_below_ten}
use Rattle.years.proofs.YearLaws.{picked}
use Rattle.years.proofs.pick.Goals as goal

pub overflow_add-i : goal.overflow_add-i
overflow_add-i c = omega (arith, span_le non_digit c.args.s.now)

pub returns-clause-digit : goal.returns-clause-digit
returns-clause-digit c =
    c.digit_value.ensures ∙ ap digit_value c.byte_at.ensures ∙ (picked c.args.s.now c.span-i.ensures).0

pub returns-clause-below_ten : goal.returns-clause-below_ten
returns-clause-below_ten c =
    let s = c.args.s.now in
    digit_at (digit_values s) 0 (digit_values_below_ten s)
    (c.digit_value.ensures ∙ ap digit_value c.byte_at.ensures ∙ (picked s c.span-i.ensures).0)

pub returns-clause-others : goal.returns-clause-others
returns-clause-others c = rw c.tail.ensures (picked c.args.s.now c.span-i.ensures).1
