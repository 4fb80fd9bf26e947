-- Every set piece holds: the definitions are evaluated. Assumes nothing.
use mathlib.Core.List.{flat_map}
use lib.Dec.{T, eqb}
use Rattle.lists.specs.Bytes.{same_by, split, onto, non_empty, span, filter_if, all, after_last, any}
use Rattle.lists.specs.Recur.{recur, recur_at}
use Rattle.admit.specs.Utf8.{sequence_len, utf8_step, utf8}
use Rattle.admit.specs.Refusals.{text_tests, text_limit, text_refusal}
use Rattle.numerals.proofs.Unfolded.{unfold_numerals}
use Rattle.years.specs.Year.{year_step, year_of, year}
use Rattle.reals.specs.Real.{pointed, real_step, real}
use Rattle.roman.specs.Roman.{roman_letter_value, sum_added, sum_subtracted, roman_value}
use Rattle.tokens.specs.Tokens.{cut, tokens_step, tokens}
use Rattle.set_pieces.specs.SetPieces.{set_pieces, reading_corners, text_corners, same_texts, piece_holds}

-- what is unfolded to compute all readings that have set pieces
unfoldable unfold_readings : Unit {0}
unfolding unfold_numerals year_step year_of year pointed real_step real
unfold_readings = tt

-- and roman values, tokens and the pieces
unfoldable unfold_pieces : Unit {0}
unfolding same_by split onto non_empty span filter_if any recur recur_at flat_map all after_last roman_letter_value sum_added sum_subtracted roman_value cut tokens_step tokens same_texts piece_holds
unfold_pieces = tt

-- each of the texts is refused with its number
pub text_corners_lem : T (all (λ c. eqb (text_refusal text_limit c.0) c.1) text_corners)
unfolding all any text_tests utf8 utf8_step sequence_len recur recur_at text_corners
text_corners_lem = tt

-- the starred set pieces of document 01 hold
pub set_pieces_lem : T (all piece_holds set_pieces)
unfolding unfold_readings unfold_pieces set_pieces
set_pieces_lem = tt

-- the corners hold
pub reading_corners_lem : T (all piece_holds reading_corners)
unfolding unfold_readings unfold_pieces reading_corners
reading_corners_lem = tt
