use mathlib.Core.List.{[], ◌∷◌}
use Rattle.std.proofs.Common.{◌∙◌, drop}
use Rattle.numerals.specs.Words.{one, hundred}
use Rattle.numerals.proofs.NumberWords.{digit_at}
use Rattle.numerals.proofs.Said.{said_digit, said_hundred, says_more}
use Rattle.years.specs.Year.{year_of}
use Rattle.years.proofs.YearLaws.{three_words}
use Rattle.years.proofs.say_three.Goals as goal

pub returns-then-a-b : goal.returns-then-a-b
returns-then-a-b c =
    let s = c.args.ds.values.now in
    let a = c.at-a.result in
    says_more (one a ∷ []) (hundred ∷ []) (three_words s c.requires ∙ rw (← c.at-a.ensures, ← c.at-b.ensures, ← c.at-c.ensures, c.if-a-b.true))
    (said_digit a (digit_at s 0 c.args.ds.below_ten c.at-a.ensures) (rw c.from.ensures at c.say.ensures)) (said_hundred c.say-then-a-b.ensures)

pub returns-else-a-b : goal.returns-else-a-b
returns-else-a-b c =
    let s = c.args.ds.values.now in
    let a = c.at-a.result in
    says_more (one a ∷ []) (year_of (drop 1 s)) (three_words s c.requires ∙ rw (← c.at-a.ensures, ← c.at-b.ensures, ← c.at-c.ensures, c.if-a-b.false))
    (said_digit a (digit_at s 0 c.args.ds.below_ten c.at-a.ensures) (rw c.from.ensures at c.say.ensures)) (rw c.tail.ensures at c.say_two.ensures)
