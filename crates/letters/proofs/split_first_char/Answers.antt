use Rattle.std.proofs.Common.{arith}
use Rattle.lists.proofs.Scan.{span_le}
use Rattle.lists.specs.Classes.{continuation}
use Rattle.letters.proofs.split_first_char.Goals as goal

pub overflow_add-n : goal.overflow_add-n
overflow_add-n c = omega (arith, span_le continuation c.tail.result.now)
