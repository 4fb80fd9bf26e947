use mathlib.Core.List.{[], ◌∷◌}
use Rattle.std.proofs.Common.{refl}
use Rattle.numerals.proofs.Cardinal.{cardinal_2}
use Rattle.numerals.proofs.Said.{said_digit}
use lib.Seq.{get_or-drop}
use Rattle.years.proofs.say_lead.Goals as goal

pub returns-then-lone-clause-words : goal.returns-then-lone-clause-words
returns-then-lone-clause-words c =
    let a = c.pick-a in
    rw (c.if-lone.true, ← a.ensures.digit) (said_digit a.result.0 a.ensures.below_ten (rw c.from.ensures at c.say.ensures))

pub returns-clause-words : goal.returns-clause-words
returns-clause-words c =
    let a = c.pick-a in
    let b = c.pick-b in
    let second = rw (a.ensures.others, get_or-drop) at b.ensures.digit in
    rw (c.if-lone.false, ← a.ensures.digit, ← second, ← cardinal_2 (a.result.0 ∷ b.result.0 ∷ []) refl) c.say_short_cardinal.ensures
