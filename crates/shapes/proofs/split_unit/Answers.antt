use Rattle.shapes.proofs.Laws.{unit_unnumbered, unit_numbered}
use Rattle.shapes.proofs.split_unit.Goals as goal

pub returns-then-not-has_number : goal.returns-then-not-has_number
returns-then-not-has_number c =
    unit_unnumbered c.args.s.now (rw (c.all.ensures, c.front.ensures, c.last_end-at.ensures) at c.if-not-has_number.true)

pub returns-in_err-unit_index : goal.returns-in_err-unit_index
returns-in_err-unit_index c =
    let number = rw (c.all.ensures, c.front.ensures, c.last_end-at.ensures) at c.if-not-has_number.false in
    let row = rw (c.tail-unit.ensures, c.last_end-at.ensures) at c.unit_index.ensures in
    rw c.from_residual.ensures (rw c.in_err-unit_index.was at (unit_numbered c.args.s.now number row))

pub returns : goal.returns
returns c =
    let number = rw (c.all.ensures, c.front.ensures, c.last_end-at.ensures) at c.if-not-has_number.false in
    let row = rw (c.tail-unit.ensures, c.last_end-at.ensures) at c.unit_index.ensures in
    rw (c.tail-unit.ensures, c.last_end-at.ensures) (rw c.in_ok-unit_index.was at (unit_numbered c.args.s.now number row))
