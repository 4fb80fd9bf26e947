use Rattle.std.proofs.Common.{rules}
use borrow.Author.Tests.{tests}
use mathlib.Core.Path.{sym}
use Rattle.shapes.specs.Shapes.{is_phone_parts}
use Rattle.shapes.proofs.Laws.{phone_length}
use Rattle.shapes.proofs.Parts.{split_once_lem}
use Rattle.shapes.proofs.is_seven_digit_phone.Goals as goal

pub returns-then-s-ne8 : goal.returns-then-s-ne8
returns-then-s-ne8 c = sym (phone_length _ c.if-s-ne8.true)

pub returns : goal.returns
returns c = split_once_lem _ 45 is_phone_parts _ c.split_once.ensures c.is_some_and.ensures (λ p k. search (rules, tests))
