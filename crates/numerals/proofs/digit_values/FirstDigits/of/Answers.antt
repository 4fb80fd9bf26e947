use Rattle.std.proofs.Common.{arith, refl, sym}
use Rattle.numerals.proofs.Digits.{digit_values_not}
use Rattle.numerals.proofs.Picking.{pick_start, pick_none, pick_digit, pick_twelve, picked_below_ten}
use Rattle.numerals.proofs.digit_values.FirstDigits.of.Goals as goal
use Rattle.numerals.proofs.digit_values.FirstDigits.of.Goals.{then-is_ascii_digit+else-count-eq-MAX_CARDINAL_DIGITS, else-is_ascii_digit}

pub loop-b-init : goal.loop-b-init
loop-b-init c = pick_start c.args.s.now

pub returns-then-count-eq-MAX_CARDINAL_DIGITS : goal.returns-then-count-eq-MAX_CARDINAL_DIGITS
returns-then-count-eq-MAX_CARDINAL_DIGITS c =
    let l = c.loop-b in
    let digit = c.if-is_ascii_digit.ensures in
    let s = c.args.s.now in
    pick_twelve s l.values l.count l.b-index (omega arith) l.invariant (omega arith) (omega arith) (omega arith) refl refl

pub loop-b-preserved : goal.loop-b-preserved
loop-b-preserved c =
    let l = c.loop-b in
    let s = c.args.s.now in
    elim c.if-is_ascii_digit.branch [
      | then-is_ascii_digit+else-count-eq-MAX_CARDINAL_DIGITS w ↦
          let digit = w.if-is_ascii_digit.ensures in
          rw (w.values-is, w.count-is)
          (pick_digit s l.values l.count l.b-index (omega arith) l.invariant (omega arith) (omega arith) (omega arith))
      | else-is_ascii_digit w ↦
          let digit = w.if-is_ascii_digit.ensures in
          rw (w.values-is, w.count-is) (pick_none s l.values l.count l.b-index (omega arith) l.invariant (digit_values_not _ (sym digit.value)))
    ]

pub invariant_of-result : goal.invariant_of-result
invariant_of-result c =
    let l = c.loop-b in
    record { few = l.invariant.few; below_ten = picked_below_ten c.args.s.now l.values l.count l.b-index l.invariant }

pub invariant_of-result-2 : goal.invariant_of-result-2
invariant_of-result-2 c =
    let l = c.loop-b in
    record { few = l.invariant.few; below_ten = picked_below_ten c.args.s.now l.values l.count l.b-index l.invariant }
