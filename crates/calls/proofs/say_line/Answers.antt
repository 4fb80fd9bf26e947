use Rattle.calls.proofs.Lines.{line_said}
use Rattle.calls.proofs.say_line.Goals as goal

pub returns : goal.returns
returns c = line_said (rw c.mark_of.ensures at c.put_byte.ensures) c.read_name-entry.ensures c.put_byte-2.ensures
