-- How answers are laid out for C, which takes no enum: numbers and flags. Definitions only.
use Rattle.std.specs.Prelude.{Bool, true, false, cond, List, ℕ, ◌-◌, take, drop, Option, Some, None}
use Rattle.admit.specs.Refusals.{Call}
use Rattle.shapes.specs.Times.{TimeParts, parts_of_time, no_parts_of_time}
use Rattle.shapes.specs.declared.TimeSplit.{TimeSplit}
use Rattle.word_writer.specs.Words.{WordsResult}
use Rattle.tokens.specs.Table.{TokensResult}
use Rattle.sentences.specs.Calls.{StepResult}
use Rattle.call_spec.specs.Calls.{EntryResult, SheetResult}
use Rattle.patterns.specs.Calls.{FoundPart, UnitWordResult}
use Rattle.howhakiru.specs.declared.HwkVerdict.{HwkVerdict}
use Rattle.howhakiru.specs.declared.HwkPart.{HwkPart}
use Rattle.howhakiru.specs.declared.HwkWord.{HwkWord}
use Rattle.howhakiru.specs.declared.HwkTime.{HwkTime}
use Rattle.howhakiru.specs.declared.HwkWords.{HwkWords}
use Rattle.howhakiru.specs.declared.HwkNumber.{HwkNumber}
use Rattle.howhakiru.specs.declared.HwkTokens.{HwkTokens}
use Rattle.howhakiru.specs.declared.HwkStep.{HwkStep}
use Rattle.howhakiru.specs.declared.HwkEntry.{HwkEntry}
use Rattle.howhakiru.specs.declared.HwkSheet.{HwkSheet}

-- a verdict as a call's answer
abbrev pub as_verdict_at_c : HwkVerdict → Call Bool
as_verdict_at_c r = record { refusal = r.refusal; value = r.yes }

-- a unit's place in the name
abbrev pub as_unit_at_c : HwkPart → Call FoundPart
as_unit_at_c r = record { refusal = r.refusal; value = record { found = r.yes; offset = r.offset; size = r.len } }

-- a unit's word, with the store as the call leaves it
abbrev pub as_unit_word_at_c : HwkWord → List ℕ → Call UnitWordResult
as_unit_word_at_c r store = record { refusal = r.refusal; value = record { found = r.yes; size = r.len; store = store } }

-- each part by its offset and its length, in a text of n bytes; all of these are 0 if there are no parts
abbrev pub parts_at_c : ℕ → ℕ → Option TimeSplit → HwkTime
parts_at_c n number (Some t) =
    record {
      refusal = number;
      yes = true;
      hour_at = 0;
      hour_len = t.hour;
      minute_at = t.minute;
      minute_len = t.meridiem - t.minute;
      meridiem_at = t.meridiem;
      meridiem_len = n - t.meridiem;
    }
parts_at_c n number None =
    record { refusal = number; yes = false; hour_at = 0; hour_len = 0; minute_at = 0; minute_len = 0; meridiem_at = 0; meridiem_len = 0 }

abbrev pub time_at_c : ℕ → Call (Option TimeSplit) → HwkTime
time_at_c n r = parts_at_c n r.refusal r.value

-- the bytes that an offset and a length stand for in the text s
abbrev pub part_at : ℕ → ℕ → List ℕ → List ℕ
part_at at len s = take len (drop at s)

-- "hour, minute and meridiem, or none": the parts of the text s that the answer for C stands for
abbrev pub as_time_at_c : HwkTime → List ℕ → Call TimeParts
as_time_at_c r s =
    record {
      refusal = r.refusal;
      value =
          cond r.yes
          (parts_of_time (part_at r.hour_at r.hour_len s) (part_at r.minute_at r.minute_len s)
          (part_at r.meridiem_at r.meridiem_len s)) no_parts_of_time;
    }

-- counts of words, with the buffers as the call leaves them
abbrev pub as_words_at_c : HwkWords → List ℕ → List ℕ → Call WordsResult
as_words_at_c r store table = record { refusal = r.refusal; value = record { words = r.words; bytes = r.bytes; store = store; table = table } }

-- a value
abbrev pub as_number_at_c : HwkNumber → Call ℕ
as_number_at_c r = record { refusal = r.refusal; value = r.value }

-- a count of tokens, with the buffer as the call leaves it
abbrev pub as_tokens_at_c : HwkTokens → List ℕ → Call TokensResult
as_tokens_at_c r buffer = record { refusal = r.refusal; value = record { tokens = r.tokens; buffer = buffer } }

-- a step
abbrev pub as_step_at_c : HwkStep → Call StepResult
as_step_at_c r = record { refusal = r.refusal; value = record { breaks = r.breaks; state = r.state } }

-- an entry's answer, with the buffer as the call leaves it
abbrev pub as_entry_at_c : HwkEntry → List ℕ → Call EntryResult
as_entry_at_c r buffer = record { refusal = r.refusal; value = record { row = r.row; sign = r.sign; words = r.words; bytes = r.bytes; buffer = buffer } }

-- a sheet's answer, with the buffer as the call leaves it
abbrev pub as_sheet_at_c : HwkSheet → List ℕ → Call SheetResult
as_sheet_at_c r buffer = record { refusal = r.refusal; value = record { tokens = r.tokens; words = r.words; bytes = r.bytes; buffer = buffer } }
