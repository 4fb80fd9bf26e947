use Rattle.std.proofs.Common.{rules, tests, ◌∙◌, ◌-◌, ap, length, not}
use Rattle.std.proofs.lemmas.Iterator.Adapters.{YieldsList-from_rev_slice}
use Rattle.std.proofs.lemmas.Iterator.Consumers.{count_from_yields_List, YieldsList-at}
use Rattle.std.proofs.lemmas.Iterator.Search.{YieldsList-from_take_while}
use Rattle.lists.proofs.Library.{last_end_is}
use Rattle.lists.proofs.last_end.Goals as goal

pub returns : goal.returns
returns g c =
    ap (λ n. length c.args.s.now - n)
    (count_from_yields_List c.take_while.result c.count.result c.count.ensures.ran
    (YieldsList-from_take_while _ (λ b. not (g.C.ByteClass.contains c.args.class b))
    (YieldsList-at c.take_while.ensures.source (YieldsList-from_rev_slice c.args.s.now (cc)))
    c.take_while.ensures.closure c.take_while.ensures.done (λ x b q k. search (rules, tests))))
    ∙ last_end_is _ _
