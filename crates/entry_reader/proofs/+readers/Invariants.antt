-- A call on a shorter name has a smaller measure, and so has that of the percent reader or the range reader on the same name.
use Prim.Native.Nat.{◌+◌, ◌*◌}
use lib.ListN.{length}
use Rattle.entry_reader.proofs.+readers.Given as goal

abbrev pub decreases-read_entry : goal.decreases-read_entry
decreases-read_entry l = 2 * length l.name.now + 1

abbrev pub decreases-read_percent : goal.decreases-read_percent
decreases-read_percent l = 2 * length l.name.now

abbrev pub decreases-read_range : goal.decreases-read_range
decreases-read_range l = 2 * length l.name.now
