use Rattle.std.proofs.Common.{arith, sym}
use Rattle.word_writer.specs.Writer.{pair_of}
use Rattle.lists.proofs.Sets.{sets_out}
use Rattle.word_writer.proofs.Pair.put.Goals as goal

pub returns-then-room-eq0 : goal.returns-then-room-eq0
returns-then-room-eq0 c = sym (sets_out c.args.table.now c.args.place (pair_of c.args.self.at c.args.self.size) (omega arith))
