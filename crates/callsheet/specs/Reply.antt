-- Document 01: "A program, `callsheet`, reads up to 4,096 bytes from standard input, leaves any further bytes unread, and writes
-- the call sheet, or one line of "refused", a space and the number." Definitions only.
use Rattle.std.specs.Prelude.{◌≡◌, ◌≤◌, ◌⊎◌, false, List, ◌++◌, ℕ, zero, suc, length, OnOk}
use Rattle.std.specs.Fmt.{decimal}
use Rattle.std.specs.declared.option.Option.{Option}
use Rattle.std.specs.declared.result.Result.{Result}
use Rattle.std.specs.Io.KnownBytes.{Consumes, IsAtEnd}
use Rattle.lists.specs.Bytes.{bytes}
use Rattle.admit.specs.Refusals.{first_refusal}
use Rattle.call_spec.specs.Sheet.{call_sheet}
use Rattle.call_spec.specs.Calls.{sheet_tests}

-- "up to 4,096 bytes"
abbrev pub sheet_limit : ℕ
sheet_limit = 4096

-- s was read from an input that had the bytes `old` left and now has `new`: "leaves any further bytes unread". If no read
-- failed, s is full or the input is at its end.
pub record ReadsSheet {V E : Type 0} (old new : Option (List ℕ)) (reading : Result V E) (s : List ℕ) : Type 0 where
  pub limit : length s ≤ sheet_limit
  pub unread : Consumes old new s
  pub whole : OnOk reading ((length s ≡ sheet_limit) ⊎ IsAtEnd new)

-- "one line of "refused", a space and the number"
abbrev pub refused_line : ℕ → List ℕ
refused_line number = bytes "refused " ++ (decimal number ++ bytes "\n")

-- the lines of a sheet that is accepted, or the line of its refusal's number
abbrev pub reply_with : ℕ → List ℕ → List ℕ
reply_with zero lines = lines
reply_with (suc n) lines = refused_line (suc n)

-- what the program writes for the sheet s. The number is that of a call with room for the call sheet.
unfoldable pub reply : List ℕ → List ℕ
reply s = reply_with (first_refusal (sheet_tests s false)) (call_sheet s)
