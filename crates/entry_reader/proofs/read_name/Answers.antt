use Rattle.rows.specs.Rows.{read}
use Rattle.row_readers.proofs.Laws.{reads_same}
use Rattle.entry_reader.proofs.Laws.{no_percents}
use Rattle.entry_reader.proofs.read_name.Goals as goal

pub returns : goal.returns
returns c = reads_same (no_percents (read c.args.name.now)) c.read_entry.ensures
