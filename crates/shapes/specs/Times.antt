-- split_time_meridiem of patterns.rs: its answer as offsets, and what the offsets stand for. Definitions only.
use Rattle.std.specs.Prelude.{◌≡◌, Option, Some, None, Bool, cond, ◌&&◌, ◌||◌, List, ℕ, ◌+◌, ◌-◌, ltb, length, take, drop}
use Rattle.lists.specs.Bytes.{bytes, span, to_lower, ends_with_by}
use Rattle.lists.specs.Classes.{not_colon_or_point}
use Rattle.shapes.specs.Shapes.{is_hour_minute}
use Rattle.shapes.specs.declared.TimeSplit.{TimeSplit}

-- am or pm at the end, in any case
abbrev pub ends_in_meridiem : List ℕ → Bool
ends_in_meridiem s = ends_with_by to_lower (bytes "am") s || ends_with_by to_lower (bytes "pm") s

-- "its separator is the first colon or point": where it stands, given the time without its meridiem
abbrev pub separator_at : List ℕ → ℕ
separator_at time = span not_colon_or_point time

-- "answers hour, minute and meridiem, or none"
pub data TimeParts : Type 0 where
  parts_of_time : (hour minute meridiem : List ℕ) → TimeParts
  no_parts_of_time : TimeParts

-- the time without its meridiem
abbrev pub time_of : List ℕ → List ℕ
time_of s = take (length s - 2) s

-- am or pm at the end, and before it an hour, a separator and a minute
abbrev pub is_meridiem_time : List ℕ → Bool
is_meridiem_time s =
    let sep = separator_at (time_of s) in
    ends_in_meridiem s && (ltb sep (length (time_of s)) && is_hour_minute (take sep (time_of s)) (drop (sep + 1) (time_of s)))

-- split_time_meridiem, as the Rust has it
unfoldable pub time_parts : List ℕ → TimeParts
time_parts s =
    let sep = separator_at (time_of s) in
    cond (is_meridiem_time s) (parts_of_time (take sep (time_of s)) (drop (sep + 1) (time_of s)) (drop (length s - 2) s)) no_parts_of_time

-- the same as offsets: where the hour ends, where the minute starts, and where the minute ends and the meridiem starts
unfoldable pub time_split : List ℕ → Option TimeSplit
time_split s =
    let sep = separator_at (time_of s) in
    cond (is_meridiem_time s) (Some (record { hour = sep; minute = sep + 1; meridiem = length s - 2 })) None

-- what the offsets stand for in the name s
abbrev pub time_parts_at : Option TimeSplit → List ℕ → TimeParts
time_parts_at (Some t) s = parts_of_time (take t.hour s) (take (t.meridiem - t.minute) (drop t.minute s)) (drop t.meridiem s)
time_parts_at None s = no_parts_of_time

-- ---- no public promise is made of these

-- what the shape answers for the name s: the offsets of `time_split`, which stand for the parts of `time_parts`
pub record SplitsTime (s : List ℕ) (r : Option TimeSplit) : Type 0 where
  pub offsets : r ≡ time_split s
  pub parts_named : time_parts_at r s ≡ time_parts s
