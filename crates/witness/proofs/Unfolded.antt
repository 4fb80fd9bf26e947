-- What is unfolded to compute the definitions on whole sheets. Assumes nothing.
use mathlib.Core.List.{flatten}
use Rattle.lists.specs.Bytes.{same_by, split, onto, span, all, any, after_last}
use Rattle.lists.specs.Recur.{recur, recur_at}
use Rattle.vocabulary.specs.Vocabulary.{ones, teens, tens, ordinal_ones, ordinal_teens, ordinal_tens}
use Rattle.units.specs.Units.{unit_abbreviations, abbreviations, unit_words, index_of}
use Rattle.shapes.specs.Shapes.{is_digits, is_alpha, split_once, is_hour_minute, is_dotted_abbrev}
use Rattle.numerals.proofs.Unfolded.{unfold_numerals}
use Rattle.numerals.specs.Value.{decimal_from, decimal}
use Rattle.years.specs.Year.{year_step, year_of, year}
use Rattle.reals.specs.Real.{pointed, real_step, real}
use Rattle.letters.specs.Letters.{letter_word, chars, letters}
use Rattle.fractions.specs.Fraction.{plural, fraction_of, fraction}
use Rattle.rows.specs.Rows.{clock, full_hour, clock_letters, read_step, read_with}
use Rattle.tokens.specs.Tokens.{cut, tokens_step, tokens}
use Rattle.sentences.specs.Sentences.{sentence_starts, sentence_starts_after, break_after}
use Rattle.call_spec.specs.Sheet.{entries_of, spaced_words, line_of}
use Rattle.clear.specs.Clear.{suffix, table_words}
use Rattle.clear.specs.Test.{is_exponent_clear, is_decimals_clear, is_figure_clear, is_clear}

-- for the tokens of a text
unfoldable pub unfold_tokens : Unit {0}
unfolding recur recur_at span all after_last cut tokens_step tokens
unfold_tokens = tt

-- for shapes and units
unfoldable pub unfold_shapes : Unit {0}
unfolding any same_by split onto is_digits is_alpha split_once is_hour_minute is_dotted_abbrev index_of unit_abbreviations abbreviations unit_words
unfold_shapes = tt

-- for the test of a clear name
unfoldable pub unfold_clear : Unit {0}
unfolding unfold_shapes is_clear is_exponent_clear is_decimals_clear is_figure_clear suffix table_words ones teens tens ordinal_ones ordinal_teens ordinal_tens
unfold_clear = tt

-- for the rows and their readings
unfoldable pub unfold_readings : Unit {0}
unfolding unfold_numerals year_step year_of year pointed real_step real letter_word chars letters clock full_hour clock_letters decimal decimal_from plural fraction_of fraction read_step read_with
unfold_readings = tt

-- for sentences and lines
unfoldable pub unfold_lines : Unit {0}
unfolding sentence_starts sentence_starts_after break_after entries_of spaced_words line_of flatten
unfold_lines = tt
