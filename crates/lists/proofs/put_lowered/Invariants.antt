use Rattle.std.proofs.Common.{◌≡◌}
use Rattle.lists.specs.Bytes.{to_lower}
use Rattle.lists.proofs.Sets.{stored}
use Rattle.lists.proofs.put_lowered.Given as goal

-- the first i bytes are stored
abbrev pub invariant-loop-i : goal.invariant-loop-i
invariant-loop-i l = record { stored : l.out ≡ stored to_lower l.initial.out l.at l.src l.i }
