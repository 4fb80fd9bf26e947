use Rattle.std.proofs.Common.{rules, tests, ◌∙◌}
use Rattle.std.proofs.lemmas.Iterator.{YieldsList-from_slice}
use Rattle.std.proofs.lemmas.Iterator.Search.{all_from_yields_List}
use Rattle.lists.proofs.Library.{all_is}
use Rattle.lists.proofs.all.Goals as goal

pub returns : goal.returns
returns g c =
    all_from_yields_List (g.C.ByteClass.contains c.args.class) _ _ c.all.result c.all.ensures.ran
    (YieldsList-from_slice c.args.s.now (cc)) (λ x b q k. search (rules, tests))
    ∙ all_is _ _
