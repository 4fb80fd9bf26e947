use mathlib.Core.Path.{sym, ◌∙◌}
use borrow.Author.Tests.{eq-eqb, ne_eqb}
use Rattle.shapes.proofs.Grammar.{digits_around_lem}
use Rattle.shapes.proofs.is_digits_around.Goals as goal

pub returns-then-at-eq0 : goal.returns-then-at-eq0
returns-then-at-eq0 c =
    let scan = digits_around_lem c.args.c c.requires c.args.s.now in
    rw (← c.span-at.ensures, eq-eqb _ _ c.if-at-eq0.true) at scan

pub returns-then-starts_with : goal.returns-then-starts_with
returns-then-starts_with c =
    let scan = digits_around_lem c.args.c c.requires c.args.s.now in
    let some = rw c.span-at.ensures at (ne_eqb _ _ c.if-at-eq0.false) in
    let first = rw (c.tail-rest.ensures, c.span-at.ensures) at (sym c.starts_with.ensures ∙ c.if-starts_with.true) in
    rw (c.is_digits.ensures, c.tail.ensures, c.tail-rest.ensures, c.span-at.ensures) (rw (some, first) at scan)

pub returns-else-starts_with : goal.returns-else-starts_with
returns-else-starts_with c =
    let scan = digits_around_lem c.args.c c.requires c.args.s.now in
    let some = rw c.span-at.ensures at (ne_eqb _ _ c.if-at-eq0.false) in
    let first = rw (c.tail-rest.ensures, c.span-at.ensures) at (sym c.starts_with.ensures ∙ c.if-starts_with.false) in
    c.if-starts_with.false ∙ (rw (some, first) at scan)
