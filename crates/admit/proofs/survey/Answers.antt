use Rattle.std.proofs.Common.{rules, tests, min, max, ap, ◌∙◌}
use Rattle.std.proofs.lemmas.Iterator.{YieldsList-from_slice}
use Rattle.std.proofs.lemmas.Iterator.Consumers.{fold_from_yields_List}
use Rattle.admit.specs.Refusals.{control_rank}
use Rattle.admit.proofs.Control.{tested, survey_folded}
use Rattle.admit.proofs.survey.Goals as goal

pub returns : goal.returns
returns c =
    ap tested
    (fold_from_yields_List _ (λ f b. (max f.0 b, min f.1 (control_rank b))) (0, 255) c.fold-highest.result c.fold-highest.ensures.ran
    (YieldsList-from_slice c.args.s.now (cc)) (λ a x b q k. search (rules, tests)))
    ∙ survey_folded (0, 255) c.args.s.now
