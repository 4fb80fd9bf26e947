use Rattle.std.proofs.Common.{rules}
use borrow.Author.Tests.{tests}
use Rattle.std.proofs.lemmas.Iterator.Search.{all_from_yields_List}
use Rattle.shapes.specs.Shapes.{is_one_letter, is_dotted_abbrev}
use Rattle.lists.proofs.Parts.{elem_span, split_two}
use Rattle.shapes.proofs.Parts.{YieldsList-from_split, list_all_lem, list_any_lem}
use Rattle.shapes.proofs.is_dotted_abbrev.Goals as goal

pub returns : goal.returns
unfolding is_dotted_abbrev
returns c =
    let parts =
    all_from_yields_List is_one_letter _ _ _ c.all.ensures.ran
    (YieldsList-from_split _ 46 _ c.split.ensures.rest c.split.ensures.done c.split.ensures.closure (λ x b q k. search (rules, tests)))
    (λ x b q k. search (rules, tests)) in
    rw (parts, list_all_lem, c.contains.ensures.value, list_any_lem, c.strip_suffix-core.ensures, elem_span 46 _, split_two)
