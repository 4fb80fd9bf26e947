use Rattle.std.proofs.Common.{◌*◌, arith, sym}
use Rattle.lists.proofs.Sets.{sets_out}
use Rattle.word_writer.specs.Writer.{pair_of, pair_size}
use Rattle.word_writer.proofs.Pair.put_nth.Goals as goal

pub returns-else-n-table : goal.returns-else-n-table
returns-else-n-table c =
    sym (sets_out c.args.table.now (pair_size * c.args.n) (pair_of c.args.self.at c.args.self.size) (omega arith))
