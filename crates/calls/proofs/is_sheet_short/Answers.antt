use lib.ListN.{length}
use native.Mathlib.Omega.{arith}
use mathlib.Core.List.{[]}
use Rattle.call_spec.specs.Sheet.{entries}
use Rattle.calls.proofs.Lines.{wrote_lines, lines_words, measured_lines}
use Rattle.calls.proofs.Room.{sheet_room, room_suffices}
use Rattle.calls.proofs.is_sheet_short.Goals as goal

pub returns-then-s-buffer : goal.returns-then-s-buffer
returns-then-s-buffer c = room_suffices _ (length c.args.s.now) _ (sheet_room c.args.s.now) c.if-s-buffer.true

pub returns : goal.returns
returns c =
    let es = entries c.args.s.now in
    rw c.counts.ensures (measured_lines (wrote_lines es) (lines_words es) [] [] c.new-lines.result c.say_sheet.new.out c.new-lines.ensures.start c.say_sheet.ensures.lines.result _ (omega arith))
