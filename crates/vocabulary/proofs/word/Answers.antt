use Rattle.std.proofs.Common.{sym, arith}
use Rattle.vocabulary.proofs.Laws.{unfold_vocabulary, no_word}
use Rattle.vocabulary.proofs.Table.{now_at}
use Rattle.vocabulary.proofs.word.Goals as goal

-- the goal becomes an equation of two lists, which antt computes
pub returns-then-k-lt97 : goal.returns-then-k-lt97
unfolding unfold_vocabulary
returns-then-k-lt97 c = rw now_at

pub returns-else-k-lt97 : goal.returns-else-k-lt97
unfolding unfold_vocabulary
returns-else-k-lt97 c = sym (no_word c.args.k (omega arith))
