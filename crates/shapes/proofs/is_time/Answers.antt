use Rattle.std.proofs.Common.{rules}
use borrow.Author.Tests.{tests}
use mathlib.Core.Path.{sym}
use Rattle.shapes.specs.Shapes.{is_hour_minute}
use Rattle.shapes.proofs.Laws.{time_length}
use Rattle.shapes.proofs.Parts.{split_once_lem}
use Rattle.shapes.proofs.is_time.Goals as goal

pub returns-then-s-gt5 : goal.returns-then-s-gt5
returns-then-s-gt5 c = sym (time_length _ c.if-s-gt5.true)

pub returns : goal.returns
returns c = split_once_lem _ 58 is_hour_minute _ c.split_once.ensures c.is_some_and.ensures (λ p k. search (rules, tests))
