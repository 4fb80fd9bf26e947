use Rattle.std.proofs.Common.{rules}
use Rattle.lists.specs.Classes.{prepunctuation_mark}
use Rattle.lists.proofs.Scan.{span_le}
use Rattle.tokens.proofs.Cutting.{cut_marks, cut_peeled}
use Rattle.tokens.proofs.cut_run.Goals as goal

pub split_at-requires : goal.split_at-requires
split_at-requires c = rw c.requires (span_le prepunctuation_mark c.args.run.now)

pub returns-then-ends-is_empty : goal.returns-then-ends-is_empty
returns-then-ends-is_empty c =
    cut_marks c.args.whitespace.now _ _ c.args.ends _ c.requires c.split_at.ensures.back (rw c.is_empty.ensures at c.if-ends-is_empty.true) (search rules)

pub returns : goal.returns
returns c =
    let e = cut_peeled c.args.whitespace.now _ _ c.args.ends _ c.requires c.split_at.ensures.back (rw c.is_empty.ensures at c.if-ends-is_empty.false) in
    rw (c.split_at-2.ensures.front, c.split_at-2.ensures.back, c.name_size.ensures.0, c.split_at.ensures.front) e
