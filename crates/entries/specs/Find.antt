-- An entry that is looked for in its sheet. Definitions only; no public promise is made of them.
use Rattle.std.specs.Prelude.{Bool, true, false, List, ℕ, ltb, length, Option, Some, None}
use Rattle.tokens.specs.Tokens.{tokens}
use Rattle.sentences.specs.declared.SheetEntry.{SheetEntry as Given}
use Rattle.call_spec.specs.Sheet.{SheetEntry, no_entry}
use Rattle.call_spec.specs.Calls.{entry_at}

-- the entry that this one of crate sentences is
abbrev pub as_sheet_entry : Given → SheetEntry
as_sheet_entry e = record { starts = e.starts; name = e.name.now }

-- whether the entry is there, and the entry; an empty one if it is not there
pub record FoundEntry : Type 0 where
  pub found : Bool
  pub entry : SheetEntry

-- entry k of s
abbrev pub found_entry : List ℕ → ℕ → FoundEntry
found_entry s k = record { found = ltb k (length (tokens s)); entry = entry_at s k }

-- an answer
abbrev pub as_found_entry : Option Given → FoundEntry
as_found_entry None = record { found = false; entry = no_entry }
as_found_entry (Some e) = record { found = true; entry = as_sheet_entry e }

-- an entry of a sheet, from the pair that the iterator of crate sentences gives
abbrev pub sheet_entry : Bool × List ℕ → SheetEntry
sheet_entry e = record { starts = e.0; name = e.1 }
