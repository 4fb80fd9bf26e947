use Rattle.std.proofs.Common.{rules, ◌∙◌}
use borrow.Author.Tests.{tests}
use mathlib.Core.Bool.{or_assoc, or-false}
use Rattle.std.proofs.lemmas.Iterator.{YieldsList-from_slice}
use Rattle.std.proofs.lemmas.Iterator.Search.{any_from_yields_List}
use Rattle.lists.specs.Bytes.{same}
use Rattle.shapes.proofs.is_small_roman.Goals as goal

pub returns : goal.returns
returns c =
    any_from_yields_List (λ t. same c.args.s.now t.now) _ _ _ c.any.ensures.ran
    (YieldsList-from_slice _ c.iter.ensures.rest) (λ x b q k. search (rules, tests))
    ∙ simp (or_assoc, or-false)
