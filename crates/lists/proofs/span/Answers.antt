use Rattle.std.proofs.Common.{rules, tests, ◌∙◌}
use Rattle.std.proofs.lemmas.Iterator.{YieldsList-from_slice}
use Rattle.std.proofs.lemmas.Iterator.Consumers.{count_from_yields_List, YieldsList-at}
use Rattle.std.proofs.lemmas.Iterator.Search.{YieldsList-from_take_while}
use Rattle.lists.proofs.Library.{span_count}
use Rattle.lists.proofs.span.Goals as goal

pub returns : goal.returns
returns g c =
    count_from_yields_List c.take_while.result _ c.count.ensures.ran
    (YieldsList-from_take_while _ (g.C.ByteClass.contains c.args.class)
    (YieldsList-at c.take_while.ensures.source (YieldsList-from_slice c.args.s.now (cc)))
    c.take_while.ensures.closure c.take_while.ensures.done (λ x b q k. search (rules, tests)))
    ∙ span_count _ _
