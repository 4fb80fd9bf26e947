use Rattle.std.proofs.Common.{rules, refl, ◌∙◌}
use borrow.Author.Tests.{tests}
use Rattle.std.proofs.lemmas.Iterator.{YieldsList-from_range}
use Rattle.std.proofs.lemmas.Iterator.Consumers.{YieldsList-at, YieldsList-from_chain}
use Rattle.std.proofs.lemmas.Iterator.Search.{any_from_yields_List}
use Rattle.lists.specs.Bytes.{same}
use Rattle.vocabulary.specs.Vocabulary.{word_of}
use Rattle.clear.proofs.Lookups.{table_word}
use Rattle.clear.proofs.tests.is_table_word.Goals as goal

pub returns : goal.returns
returns c =
    any_from_yields_List (λ k. same (word_of k) c.args.s.now) _ _ _ c.any.ensures.ran
    (YieldsList-from_chain
    (YieldsList-at c.chain-2.ensures.first
    (YieldsList-from_chain (YieldsList-from_range 16 46 30 (cc) refl) (YieldsList-from_range 50 80 30 (cc) refl) (cc) (cc)))
    (YieldsList-from_range 47 50 3 (cc) refl) (cc) (cc)) (λ x b q k. search (rules, tests))
    ∙ table_word c.args.s.now
