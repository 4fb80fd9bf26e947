use Rattle.entry_reader.proofs.Laws.{percent_said}
use Rattle.entry_reader.proofs.say_per_cent.Goals as goal

pub returns : goal.returns
returns c = percent_said (rw c.word.ensures at c.put_word.ensures) (rw c.word-2.ensures at c.put_word-2.ensures)
