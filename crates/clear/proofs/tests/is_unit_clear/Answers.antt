use Rattle.std.proofs.Common.{rules}
use borrow.Author.Tests.{tests}
use Rattle.clear.proofs.Lookups.{first_of_row}
use Rattle.clear.proofs.tests.is_unit_clear.Goals as goal

pub returns : goal.returns
returns c =
    let row = rw (c.tail.ensures, c.last_end-at.ensures) at c.unit_index.ensures in
    rw (first_of_row _ row c.is_some_and.ensures (λ k q. search (rules, tests)), c.is_plain.ensures, c.front.ensures, c.last_end-at.ensures)
