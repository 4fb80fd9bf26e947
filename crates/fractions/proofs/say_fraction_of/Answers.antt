use mathlib.Core.Path.{refl, sym, ◌∙◌}
use mathlib.Core.List.{[], ◌∷◌, ◌++◌}
use borrow.Author.Tests.{ltb-true, ltb-false}
use Rattle.lists.specs.Bytes.{bytes}
use Rattle.vocabulary.proofs.Laws.{unfold_vocabulary}
use Rattle.numerals.specs.Words.{other}
use Rattle.numerals.specs.Cardinal.{cardinal}
use Rattle.numerals.specs.Ordinal.{ordinal}
use Rattle.numerals.proofs.Said.{said_other, says_more}
use Rattle.fractions.specs.Fraction.{plural}
use Rattle.fractions.proofs.Read.{proper_of, improper_of}
use Rattle.fractions.proofs.say_fraction_of.Goals as goal

pub returns-then-is_proper : goal.returns-then-is_proper
returns-then-is_proper c =
    let a = c.args.numerator.now in
    let b = c.args.denominator.now in
    let below = ltb-true _ _ (sym c.is_below-is_proper.ensures ∙ c.if-is_proper.true) in
    says_more (cardinal a) (ordinal b ++ plural a) (proper_of a b below) c.say_cardinal.ensures
    (says_more (ordinal b) (plural a) refl c.say_ordinal.ensures c.say_plural.ensures)

pub returns-else-is_proper : goal.returns-else-is_proper
unfolding unfold_vocabulary
returns-else-is_proper c =
    let a = c.args.numerator.now in
    let b = c.args.denominator.now in
    let upto = ltb-false _ _ (sym c.is_below-is_proper.ensures ∙ c.if-is_proper.false) in
    let slash = said_other (bytes "slash") (rw c.word.ensures at c.put_word.ensures) in
    says_more (cardinal a) (other (bytes "slash") ∷ cardinal b) (improper_of a b upto) c.say_cardinal.ensures
    (says_more (other (bytes "slash") ∷ []) (cardinal b) refl slash c.say_cardinal-else-is_proper.ensures)
