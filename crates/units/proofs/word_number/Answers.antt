-- An answer and no attribute, because the attribute with these definitions would have more than 200 columns.
use Rattle.std.proofs.Common.{rules}
use Rattle.units.specs.Units.{unit_abbreviations, unit_words, index_of, word_numbers}
use Rattle.vocabulary.proofs.Laws.{unfold_vocabulary}
use Rattle.units.proofs.word_number.Goals as goal

pub returns : goal.returns
unfolding word_numbers index_of unfold_vocabulary unit_words unit_abbreviations
returns c = search rules
