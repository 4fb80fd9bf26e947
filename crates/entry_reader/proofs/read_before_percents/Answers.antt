use Rattle.rows.specs.Rows.{read}
use Rattle.row_readers.proofs.Laws.{reads_same, once_read}
use Rattle.entry_reader.proofs.Laws.{percents_after}
use Rattle.entry_reader.proofs.read_before_percents.Goals as goal

pub returns : goal.returns
returns c =
    let once = once_read c.args.name.now c.requires.1 c.requires.0 in
    percents_after (read c.args.name.now) c.args.percents (reads_same once c.read_by_row-row.ensures) c.say_per_cents.ensures
