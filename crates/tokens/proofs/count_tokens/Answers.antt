use Rattle.std.proofs.Common.{sym, ◌∙◌, arith}
use Rattle.tokens.proofs.Count.{runs_on, one_more, runs_end}
use Rattle.tokens.proofs.count_tokens.Goals as goal

pub overflow_add-n : goal.overflow_add-n
overflow_add-n c = omega (arith, c.from-n.ensures, one_more)

pub loop-b-preserved : goal.loop-b-preserved
loop-b-preserved c = (
  omega (arith, c.from-n.ensures, one_more),
  rw (c.from-n.ensures, c.contains-next.ensures)
      (sym (runs_on c.loop-b.white c.args.s.now c.loop-b.b-index c.loop-b.n (omega arith)) ∙ c.loop-b.invariant.1),
)

pub returns : goal.returns
returns c = sym (runs_end c.loop-b.white c.args.s.now c.loop-b.b-index c.loop-b.n (omega arith)) ∙ c.loop-b.invariant.1
