-- Clear names of every kind at their edges, and names next to them that are not clear. Assumes nothing.
use mathlib.Core.Path.{◌≡◌, refl}
use mathlib.Core.Bool.{true, false}
use mathlib.Core.List.{List, [], ◌++◌}
use Prim.Native.Nat.{ℕ}
use Rattle.lists.specs.Bytes.{bytes, same, same_by, span, after_last, all, any}
use Rattle.lists.specs.Recur.{recur, recur_at}
use Rattle.lists.proofs.Table.{upto}
use Rattle.numerals.specs.Words.{spelled}
use Rattle.numerals.specs.Ordinal.{ordinal}
use Rattle.shapes.specs.Shapes.{is_comma_groups}
use Rattle.rows.specs.Rows.{read}
use Rattle.witness.proofs.Unfolded.{unfold_tokens, unfold_shapes, unfold_clear, unfold_readings}
use Rattle.numerals.proofs.Unfolded.{unfold_numerals}
use Rattle.clear.specs.Clear.{suffix}
use Rattle.clear.specs.Test.{last_two, is_clear}
use Rattle.decoder.specs.Decode.{digit_bytes, decimal_digits, last_word}
use Rattle.decoder.specs.Sheets.{names}

-- not clear: a plus, a leading zero in a figure, an hour with one or of three digits, minutes past 59, a time with %, a wrong
-- suffix or abbreviation, more than a hyphen between digits, a range with %, fractions, ..
unfoldable pub unclear_sheet : List ℕ
unclear_sheet =
    bytes "+5 05.5 .5 5e05 5E3 5%% 09:30 09:00 00:00 100:00 9:60 9:5 9:00% o'clock 9:60am 9:30PM 9.30am 09:00am 11st 21th 01st "
    ++ bytes "5lb 5lbs 05mm A AB A.b A..B a Rack thousand first three zeroth 1-2-3 -5-6 5- 12-18% 12-18mm 1/2 5/8 0/0"

-- none of its names is clear
pub unclear_names : any is_clear (names unclear_sheet) ≡ false
unfolding unclear_sheet unfold_tokens unfold_clear
unclear_names = refl

unfoldable pub clear_sheet : List ℕ
clear_sheet =
    bytes "0 12 007 -1 1.05 1e5 -1.50e+3 2e-7 007% -2.5% 0:00 0:01 23:59 9:00 9:30 99:00 9:00am 12:59pm 1st 2nd 3rd 4th 11th 12th 13th "
    ++ bytes "21st 111th 5LB 5ft 5kg 5mm 5hz 5KHz A.B X.Y.Z rack hundred 12-18 007-5 0-0 00-00 777777777777-7777777777777"

-- all its names are clear
pub clear_names : all is_clear (names clear_sheet) ≡ true
unfolding clear_sheet unfold_tokens unfold_clear
clear_names = refl

-- the right suffix of each number below 100 is what its ordinal's last word ends with
pub suffix_said : upto (λ k. let s = digit_bytes (decimal_digits 1 k []) in same (last_two (last_word (spelled (ordinal s)))) (suffix s)) 100 ≡ true
unfolding digit_bytes decimal_digits suffix same_by span all any recur recur_at unfold_numerals
suffix_said = refl

-- 02, A2: fractions are not clear, "because two long digit runs side by side can't be told apart". Nor can some short ones
pub fractions_alike :
    ((read (bytes "1111111111111/1111111111111111")).words ≡ (read (bytes "11111111111111/111111111111111")).words)
    × ((read (bytes "100/21000")).words ≡ (read (bytes "120/1000")).words)
unfolding unfold_shapes unfold_readings recur recur_at span all after_last is_comma_groups
fractions_alike = (refl, refl)
