use Rattle.clear.proofs.Lookups.{first_zero, first_at}
use Rattle.clear.proofs.tests.is_first_at.Goals as goal

pub returns-then-k-eq0 : goal.returns-then-k-eq0
returns-then-k-eq0 c = rw c.if-k-eq0.true first_zero

pub returns-else-k-eq0 : goal.returns-else-k-eq0
returns-else-k-eq0 c = rw (c.word_number.ensures, c.word_number-else-k-eq0.ensures) (first_at c.args.k c.if-k-eq0.false)
