use mathlib.Core.Path.{sym, ap, ◌∙◌}
use Prim.Native.Char.{code}
use native.Mathlib.Omega.{arith}
use lib.ListN.{length, length-take}
use Rattle.rows.proofs.Laws.{ends_some, parts_fit}
use Rattle.row_readers.proofs.Laws.{reads_same}
use Rattle.entry_reader.proofs.Laws.{percent_taken, range_said}
use Rattle.entry_reader.proofs.+readers.Goals as goal

pub read_entry-read_percent-requires : goal.read_entry-read_percent-requires
read_entry-read_percent-requires t c =
    let some = ends_some (code "%") c.args.name.now (sym c.is_percent.ensures ∙ c.if-is_percent.true) in
    (omega arith, (omega arith, omega arith))

pub read_entry-returns-then-is_percent : goal.read_entry-returns-then-is_percent
read_entry-returns-then-is_percent t c =
    reads_same (percent_taken c.args.name.now c.args.percents (sym c.is_percent.ensures ∙ c.if-is_percent.true)) c.read_percent.ensures

pub read_entry-read_range-requires : goal.read_entry-read_range-requires
read_entry-read_range-requires t c = (omega arith, (omega arith, sym c.is_range.ensures ∙ c.if-is_range.true))

pub read_percent-read_entry-requires : goal.read_percent-read_entry-requires
read_percent-read_entry-requires t c =
    let shorter = simp length-take at (ap length c.without_back.ensures) in
    (omega arith, omega arith)

pub read_range-read_entry-requires : goal.read_range-read_entry-requires
read_range-read_entry-requires t c =
    let l = parts_fit c.args.name.now c.requires.1 in
    rw (c.front.ensures, c.span-hyphen.ensures) (omega arith, omega arith)

pub read_range-read_entry-requires-2 : goal.read_range-read_entry-requires-2
read_range-read_entry-requires-2 t c =
    let l = parts_fit c.args.name.now c.requires.1 in
    rw (c.tail-2.ensures, c.tail.ensures, c.span-hyphen.ensures) (omega arith, omega arith)

pub read_range-returns : goal.read_range-returns
read_range-returns t c =
    range_said c.args.name.now c.args.percents c.requires.1 (rw (c.front.ensures, c.span-hyphen.ensures) at c.read_entry.ensures)
    (rw c.word.ensures at c.put_word.ensures) (rw (c.tail-2.ensures, c.tail.ensures, c.span-hyphen.ensures) at c.read_entry-2.ensures)
