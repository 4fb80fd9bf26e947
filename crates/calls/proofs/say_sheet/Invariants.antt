use Rattle.std.proofs.Common.{◌≡◌, ◌+◌, length, map}
use Rattle.word_writer.specs.Writer.{written, SameBuffers}
use Rattle.tokens.specs.Tokens.{tokens}
use Rattle.sentences.specs.Left.{entries_left}
use Rattle.call_spec.specs.Sheet.{entries}
use Rattle.entries.specs.Find.{sheet_entry}
use Rattle.calls.specs.Walk.{lines_to}
use Rattle.calls.proofs.say_sheet.Given as goal

abbrev pub invariant-loop-entry : goal.invariant-loop-entry
invariant-loop-entry l = record {
  count : l.tokens + length (entries_left l.entry-iterator) ≡ length (tokens l.s);
  buffers : SameBuffers l.initial.out l.out;
  lines : lines_to (map sheet_entry (entries_left l.entry-iterator)) (written l.out) ≡ lines_to (entries l.s) (written l.initial.out);
}
