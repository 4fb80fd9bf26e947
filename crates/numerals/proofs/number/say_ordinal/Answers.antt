use Rattle.std.proofs.Common.{◌∙◌}
use Rattle.numerals.proofs.Flushing.{ordinal_said}
use Rattle.numerals.proofs.Picking.{picked_digits}
use Rattle.numerals.proofs.number.say_ordinal.Goals as goal

pub returns : goal.returns
returns c =
    let s = c.args.s.now in
    let d = c.in-Ok.ensures in
    ordinal_said s d.few (c.digits.ensures ∙ picked_digits s d) c.none-held.ensures c.hold_cardinal.ensures
    c.flush_ordinal.ensures
