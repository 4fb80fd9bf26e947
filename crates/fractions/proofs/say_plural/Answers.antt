use mathlib.Core.Path.{◌≡◌, refl, sym, ◌∙◌}
use mathlib.Core.Bool.{true, false}
use lib.Dec.{ltb}
use borrow.Author.Tests.{ltb-true, ltb-false}
use Rattle.lists.specs.Bytes.{bytes, all, filter_if}
use Rattle.vocabulary.proofs.Laws.{unfold_vocabulary}
use Rattle.numerals.specs.Cardinal.{digit_values}
use Rattle.numerals.specs.Value.{decimal, decimal_from}
use Rattle.numerals.proofs.Said.{said_other, said_nothing}
use Rattle.fractions.specs.Fraction.{value}
use Rattle.fractions.proofs.Read.{plural_said, plural_unsaid}
use Rattle.fractions.proofs.say_plural.Goals as goal

pub is_below-requires : goal.is_below-requires
unfolding all
is_below-requires c = (refl, c.requires)

pub returns-then-is_below : goal.returns-then-is_below
unfolding unfold_vocabulary digit_values filter_if decimal decimal_from
returns-then-is_below c =
    let a = c.args.numerator.now in
    let exceeds : ltb 1 (value a) ≡ true = sym c.is_below.ensures ∙ c.if-is_below.true in
    rw (plural_said a (ltb-true 1 (value a) exceeds)) (said_other (bytes "'s") (rw c.word.ensures at c.put_word.ensures))

pub returns-else-is_below : goal.returns-else-is_below
unfolding digit_values filter_if decimal decimal_from
returns-else-is_below c =
    let a = c.args.numerator.now in
    let exceeds : ltb 1 (value a) ≡ false = sym c.is_below.ensures ∙ c.if-is_below.false in
    rw (plural_unsaid a (ltb-false 1 (value a) exceeds)) said_nothing
