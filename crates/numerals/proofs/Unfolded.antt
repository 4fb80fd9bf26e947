-- What is unfolded to compute the words of numbers. Assumes nothing.
use Rattle.lists.specs.Bytes.{filter_if}
use Rattle.vocabulary.proofs.Laws.{unfold_vocabulary}
use Rattle.numerals.specs.Words.{spell, spelled}
use Rattle.numerals.specs.Cardinal.{digit_values, pair_words, join_at_scale, by_scale, cardinal_step, short_cardinal, cardinal_of, cardinal, digits}
use Rattle.numerals.specs.Ordinal.{form_in, ordinal_form, or_zero, on_last, ordinal}

-- for cardinal and ordinal numbers, and for digits that are read one by one
unfoldable pub unfold_numerals : Unit {0}
unfolding unfold_vocabulary spell spelled filter_if digit_values pair_words join_at_scale by_scale cardinal_step short_cardinal cardinal_of cardinal digits form_in ordinal_form or_zero on_last ordinal
unfold_numerals = tt
