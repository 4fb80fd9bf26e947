use mathlib.Core.Path.{◌≡◌, sym, ap, ◌∙◌}
use mathlib.Core.List.{[], ◌∷◌}
use Rattle.lists.specs.Bytes.{bytes}
use Rattle.lists.proofs.Table.{same_true}
use Rattle.vocabulary.proofs.Laws.{unfold_vocabulary}
use Rattle.word_writer.proofs.Saying.{says_same}
use Rattle.numerals.specs.Words.{other, spelled}
use Rattle.numerals.proofs.Said.{said_other, says_more}
use Rattle.fractions.specs.Fraction.{fraction}
use Rattle.fractions.proofs.Read.{numerator_digits, denominator_digits, half_read, parts_read}
use Rattle.fractions.proofs.say_fraction.Goals as goal

pub returns-then-equal : goal.returns-then-equal
unfolding unfold_vocabulary
returns-then-equal c =
    let half : c.args.name.now ≡ bytes "1/2" = same_true _ _ (sym c.equal.ensures ∙ c.if-equal.true) in
    says_more (other (bytes "a") ∷ []) (other (bytes "half") ∷ []) (ap fraction half ∙ half_read)
    (said_other (bytes "a") (rw c.word.ensures at c.put_word.ensures))
    (said_other (bytes "half") (rw c.word-then-equal.ensures at c.put_word-then-equal.ensures))

pub say_fraction_of-requires : goal.say_fraction_of-requires
say_fraction_of-requires c =
    let name = c.args.name.now in
    rw (c.front-numerator.ensures, c.span.ensures, c.tail-denominator.ensures, c.last_end.ensures)
    (numerator_digits name, denominator_digits name)

pub returns-else-equal : goal.returns-else-equal
returns-else-equal c =
    let parts = parts_read c.args.name.now (sym c.equal.ensures ∙ c.if-equal.false) in
    says_same (sym (ap spelled parts))
    (rw (c.front-numerator.ensures, c.span.ensures, c.tail-denominator.ensures, c.last_end.ensures) at c.say_fraction_of.ensures)
