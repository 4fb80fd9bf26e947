use mathlib.Core.Path.{sym}
use native.Mathlib.Omega.{arith}
use lib.ListN.{length}
use borrow.Author.Tests.{le-ltb}
use Rattle.tokens.specs.Tokens.{tokens}
use Rattle.tokens.proofs.Count.{tokens_bound}
use Rattle.tokens.proofs.has_more_tokens.Goals as goal

pub returns-then-s-n : goal.returns-then-s-n
returns-then-s-n c =
    let f = tokens_bound c.args.s.now in
    sym (le-ltb c.args.n (length (tokens c.args.s.now)) (omega arith))

pub returns : goal.returns
returns c = rw c.count_tokens.ensures
