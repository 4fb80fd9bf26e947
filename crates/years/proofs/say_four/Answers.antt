use mathlib.Core.List.{[], ◌∷◌}
use Rattle.std.proofs.Common.{◌∙◌, take, drop}
use Rattle.numerals.specs.Words.{hundred}
use Rattle.numerals.specs.Cardinal.{short_cardinal}
use Rattle.numerals.proofs.Said.{said_hundred, says_more}
use Rattle.years.specs.Year.{year_of}
use Rattle.years.proofs.YearLaws.{year_four}
use Rattle.years.proofs.say_four.Goals as goal

pub returns-then-b-c : goal.returns-then-b-c
returns-then-b-c c =
    rw (year_four c.args.ds.values.now c.requires c.at-b.ensures c.at-c.ensures c.at-d.ensures, c.if-b-c.true) c.say_short_cardinal.ensures

pub returns-then-c-d : goal.returns-then-c-d
returns-then-c-d c =
    let s = c.args.ds.values.now in
    says_more (short_cardinal (take 2 s)) (hundred ∷ [])
    (year_four s c.requires c.at-b.ensures c.at-c.ensures c.at-d.ensures ∙ rw (c.if-b-c.false, c.if-c-d.true))
    (rw c.front.ensures at c.say_short_cardinal-2.ensures) (said_hundred c.say.ensures)

pub returns-else-c-d : goal.returns-else-c-d
returns-else-c-d c =
    let s = c.args.ds.values.now in
    says_more (short_cardinal (take 2 s)) (year_of (drop 2 s))
    (year_four s c.requires c.at-b.ensures c.at-c.ensures c.at-d.ensures ∙ rw (c.if-b-c.false, c.if-c-d.false))
    (rw c.front.ensures at c.say_short_cardinal-2.ensures) (rw c.tail.ensures at c.say_two.ensures)
