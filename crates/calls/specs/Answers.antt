-- The answers of the two calls, with the buffer as the call leaves it. Definitions only.
use Rattle.std.specs.Prelude.{List, ℕ, Result}
use Rattle.admit.specs.Refusals.{Call, answered}
use Rattle.admit.specs.declared.Refusal.{Refusal}
use Rattle.rows.specs.Rows.{row_number, row_sign}
use Rattle.call_spec.specs.Calls.{SheetResult, EntryResult}
use Rattle.calls.specs.declared.CalledSheet.{CalledSheet}
use Rattle.calls.specs.declared.CalledEntry.{CalledEntry}

abbrev pub as_sheet : Result CalledSheet Refusal → List ℕ → Call SheetResult
as_sheet r buffer =
    answered (record { tokens = 0; words = 0; bytes = 0; buffer = buffer })
    (λ c. record { tokens = c.tokens; words = c.words; bytes = c.bytes; buffer = buffer }) r

-- "a refused call's record has row 0 and no sign"
abbrev pub as_entry : Result CalledEntry Refusal → List ℕ → Call EntryResult
as_entry r buffer =
    answered (record { row = 0; sign = 0; words = 0; bytes = 0; buffer = buffer })
    (λ c. record { row = row_number c.entry.row; sign = row_sign c.entry.row; words = c.words; bytes = c.bytes; buffer = buffer }) r
