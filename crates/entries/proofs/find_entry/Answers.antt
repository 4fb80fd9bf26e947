use Rattle.entries.proofs.Found.{next_given, found_entry_lem}
use Rattle.entries.proofs.find_entry.Goals as goal

pub returns : goal.returns
returns c =
    found_entry_lem c.args.s.now c.args.k c.next.result _ c.after.ensures (next_given c.after.result c.next.new.self c.next.result c.next.ensures.steps)
