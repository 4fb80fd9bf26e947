use lib.ListN.{length}
use native.Mathlib.Omega.{arith}
use mathlib.Core.List.{[]}
use Rattle.entries.specs.Find.{as_sheet_entry}
use Rattle.calls.proofs.Lines.{wrote_line, line_words, measured_lines}
use Rattle.calls.proofs.Room.{line_fits, room_suffices}
use Rattle.calls.proofs.is_line_short.Goals as goal

pub returns-then-called-buffer : goal.returns-then-called-buffer
returns-then-called-buffer c =
    room_suffices _ (length c.args.called.name.now) _ (line_fits (as_sheet_entry c.args.called)) c.if-called-buffer.true

pub returns : goal.returns
returns c =
    let e = as_sheet_entry c.args.called in
    rw c.counts.ensures
    (measured_lines (wrote_line e) (line_words e) [] []
    c.new-line.result c.say_line.new.out c.new-line.ensures.start c.say_line.ensures.line.result _ (omega arith))
