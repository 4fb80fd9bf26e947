-- There are sheets to which `call_sheets_distinguish_sheets` applies: a sheet with a name of each kind is accepted and made only
-- of clear entries. Assumes nothing.
use mathlib.Core.Path.{◌≡◌, refl}
use mathlib.Core.Bool.{true}
use mathlib.Core.List.{List}
use Prim.Native.Nat.{ℕ}
use Rattle.lists.specs.Bytes.{bytes, all, any}
use Rattle.lists.proofs.Every.{every_tested}
use Rattle.admit.specs.Utf8.{utf8, utf8_step, sequence_len}
use Rattle.admit.specs.Refusals.{text_tests}
use Rattle.call_spec.specs.Calls.{AcceptedSheet}
use Rattle.clear.specs.Clear.{Clear}
use Rattle.clear.specs.Test.{is_clear}
use Rattle.clear.proofs.Tested.{test_clear}
use Rattle.witness.proofs.Unfolded.{unfold_tokens, unfold_lines, unfold_clear}
use Rattle.decoder.specs.Sheets.{names, AllClear}

-- a name of each kind in document 01's list, a full hour and a range; with % a name of each of the two kinds that may have it
unfoldable pub witness_sheet : List ℕ
witness_sheet = bytes "rack 12 -1.50e+3 007% -2.5% 9:30 9:00 9:00am 21st 5mm 12-18 A.B"

-- the sheet is accepted
pub witness_accepted : AcceptedSheet witness_sheet
unfolding witness_sheet unfold_tokens unfold_lines any text_tests utf8 utf8_step sequence_len
witness_accepted = refl

witness_passes : all is_clear (names witness_sheet) ≡ true
unfolding witness_sheet unfold_tokens unfold_clear
witness_passes = refl

-- the sheet is made only of clear entries
pub witness_clear : AllClear (names witness_sheet)
witness_clear = every_tested is_clear Clear test_clear (names witness_sheet) witness_passes
