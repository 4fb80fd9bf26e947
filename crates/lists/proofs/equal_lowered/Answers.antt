use Rattle.std.proofs.Common.{rules, tests, ◌∙◌, sym, eqb}
use borrow.Author.Tests.{ne_eqb}
use Rattle.std.proofs.lemmas.Iterator.{YieldsList-from_slice, YieldsList-from_zip}
use Rattle.std.proofs.lemmas.Iterator.Consumers.{YieldsList-at}
use Rattle.std.proofs.lemmas.Iterator.Search.{all_from_yields_List}
use Rattle.lists.specs.Bytes.{to_lower}
use Rattle.lists.proofs.Library.{equal_lowered_is}
use Rattle.lists.proofs.Scan.{same_long}
use Rattle.lists.proofs.equal_lowered.Goals as goal

pub returns-then-s-t : goal.returns-then-s-t
returns-then-s-t c =
    all_from_yields_List (λ p. eqb (to_lower p.0) p.1) c.all.new.self _ c.all.result c.all.ensures.ran
    (YieldsList-from_zip {s = c.zip.result} (YieldsList-at c.zip.ensures.first (YieldsList-from_slice c.args.s.now (cc)))
    (YieldsList-from_slice c.args.t.now (cc))) (λ x b q k. search (rules, tests))
    ∙ equal_lowered_is _ _ c.if-s-t.true

pub returns-else-s-t : goal.returns-else-s-t
returns-else-s-t c = ne_eqb _ _ c.if-s-t.false ∙ sym (same_long _ _ _ c.if-s-t.false)
