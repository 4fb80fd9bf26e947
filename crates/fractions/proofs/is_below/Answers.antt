use mathlib.Core.Path.{◌∙◌}
use borrow.Author.Tests.{eq-eqb, ne_eqb}
use Rattle.fractions.proofs.Compare.{slice_lex_less, shortlex_of}
use Rattle.fractions.proofs.is_below.Goals as goal

pub returns-then-a-b : goal.returns-then-a-b
returns-then-a-b c =
    let a = c.without_leading_zeros-a in
    let b = c.without_leading_zeros-b in
    let order = shortlex_of c.args.a.now c.args.b.now c.requires a.ensures b.ensures in
    slice_lex_less a.result.now b.result.now c.lt.ensures ∙ (rw (eq-eqb _ _ c.if-a-b.true) at order)

pub returns-else-a-b : goal.returns-else-a-b
returns-else-a-b c =
    let a = c.without_leading_zeros-a in
    let b = c.without_leading_zeros-b in
    let order = shortlex_of c.args.a.now c.args.b.now c.requires a.ensures b.ensures in
    rw (ne_eqb _ _ c.if-a-b.false) at order
