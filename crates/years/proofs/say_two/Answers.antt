use mathlib.Core.List.{[], ◌∷◌}
use Rattle.std.proofs.Common.{◌∙◌, arith}
use borrow.Author.Tests.{ne_eqb}
use Rattle.lists.specs.Bytes.{bytes}
use Rattle.numerals.specs.Words.{one, other, spell}
use Rattle.numerals.proofs.NumberWords.{digit_at}
use Rattle.numerals.proofs.Said.{said_word, said_digit, says_more}
use Rattle.years.proofs.YearLaws.{two_words, oh_word}
use Rattle.years.proofs.say_two.Goals as goal

pub returns-in-0-eq0 : goal.returns-in-0-eq0
returns-in-0-eq0 c =
    let s = c.args.ds.values.now in
    says_more (one 0 ∷ []) (one 0 ∷ []) (two_words s c.requires ∙ rw (← c.at.ensures, ← c.at-2.ensures, c.in-0-eq0.is-0, c.in-0-eq0.is-1))
    (said_digit 0 (omega arith) c.say.ensures) (said_digit 0 (omega arith) c.say-in-0-eq0.ensures)

pub returns-in-0-default : goal.returns-in-0-default
unfolding spell
returns-in-0-default c =
    let s = c.args.ds.values.now in
    let b = c.at-2.result in
    says_more (other (bytes "oh") ∷ []) (one b ∷ [])
    (two_words s c.requires ∙ rw (← c.at.ensures, ← c.at-2.ensures, c.in-0-default.is-0, ne_eqb b 0 c.in-0-default.is-1.1))
    (said_word (other (bytes "oh")) (rw oh_word at c.say-in-0-default.ensures))
    (said_digit b (digit_at s 1 c.args.ds.below_ten c.at-2.ensures) (rw c.from.ensures at c.say-in-0-default-2.ensures))

pub returns-in_default : goal.returns-in_default
returns-in_default c =
    let s = c.args.ds.values.now in
    rw (two_words s c.requires, ← c.at.ensures, ne_eqb c.at.result 0 c.in_default.is-0.1) c.say_short_cardinal.ensures
