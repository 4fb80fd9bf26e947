use Rattle.std.proofs.Common.{rules}
use borrow.Author.Tests.{tests}
use Rattle.std.proofs.lemmas.Iterator.{YieldsList-from_slice}
use Rattle.std.proofs.lemmas.Iterator.Search.{position_from_yields_List}
use Rattle.lists.proofs.Scan.{take_rest}
use Rattle.lists.proofs.Library.{around_at}
use Rattle.lists.proofs.split_once.Goals as goal

pub returns-in_err-at : goal.returns-in_err-at
returns-in_err-at g c =
    let at = position_from_yields_List _ _ _ _ c.position.ensures.ran (YieldsList-from_slice c.args.s.now cc) (λ x b q k. search (rules, tests)) in
    rw (around_at _ _ at, c.in_err-at.was, c.from_residual.ensures)

pub returns : goal.returns
returns g c =
    let at = position_from_yields_List _ _ _ _ c.position.ensures.ran (YieldsList-from_slice c.args.s.now cc) (λ x b q k. search (rules, tests)) in
    rw (around_at _ _ at, c.in_ok-at.was, take_rest)
