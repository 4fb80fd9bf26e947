use Rattle.std.proofs.Common.{rules, length, ◌∙◌, ap}
use borrow.Author.Tests.{tests}
use Rattle.std.proofs.lemmas.Iterator.Consumers.{YieldsList-at, YieldsList-from_filter, count_from_yields_List}
use Rattle.shapes.proofs.Parts.{YieldsList-from_split, filter_lem}
use Rattle.shapes.proofs.nonempty_parts.Goals as goal

pub returns : goal.returns
returns c =
    count_from_yields_List c.filter.result _ c.count.ensures.ran
    (YieldsList-from_filter _ _
    (YieldsList-at c.filter.ensures.source
    (YieldsList-from_split _ c.args.c c.args.s.now c.split.ensures.rest c.split.ensures.done c.split.ensures.closure
    (λ x b q k. search (rules, tests))))
    c.filter.ensures.closure (λ x b q k. search (rules, tests))) ∙ ap length (filter_lem _)
