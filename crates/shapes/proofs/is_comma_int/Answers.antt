use Rattle.std.proofs.Common.{rules}
use borrow.Author.Tests.{tests}
use Rattle.std.proofs.lemmas.Iterator.Search.{all_from_yields_List}
use Rattle.shapes.specs.Shapes.{is_n_digits}
use Rattle.shapes.proofs.Laws.{comma_more, comma_alone}
use Rattle.shapes.proofs.Parts.{YieldsList-from_split, list_all_lem}
use Rattle.shapes.proofs.is_comma_int.Goals as goal

pub returns-in_default : goal.returns-in_default
returns-in_default c = comma_alone _ (rw c.in_default.is at c.split_once.ensures)

pub returns : goal.returns
returns c =
    let parts =
    all_from_yields_List (is_n_digits 3) _ _ _ c.all.ensures.ran
    (YieldsList-from_split _ 44 _ c.split.ensures.rest c.split.ensures.done c.split.ensures.closure (λ x b q k. search (rules, tests)))
    (λ x b q k. search (rules, tests)) in
    rw (parts, list_all_lem, c.is_digits.ensures, comma_more _ (rw c.in-Some.is at c.split_once.ensures))
