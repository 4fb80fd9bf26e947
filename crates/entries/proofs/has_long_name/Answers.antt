use Rattle.std.proofs.Common.{rules, tests, sym, ◌∙◌, ltb, length}
use Rattle.std.proofs.lemmas.Iterator.Consumers.{YieldsList-from_first}
use Rattle.std.proofs.lemmas.Iterator.Search.{any_from_yields_List}
use Rattle.tokens.specs.Left.{parts_of, tokens_left}
use Rattle.call_spec.specs.Calls.{name_limit}
use Rattle.entries.proofs.Names.{any_is, long_names_lem}
use Rattle.entries.proofs.has_long_name.Goals as goal

pub returns-then-has_long_run : goal.returns-then-has_long_run
returns-then-has_long_run c =
    any_from_yields_List (λ t. ltb name_limit (length t.name)) c.any.new.self _ c.any.result c.any.ensures.ran
    (YieldsList-from_first parts_of tokens_left _ c.new.ensures) (λ x b q k. search (rules, tests))
    ∙ any_is _ _ ∙ long_names_lem c.args.s.now

pub returns-else-has_long_run : goal.returns-else-has_long_run
returns-else-has_long_run c = c.if-has_long_run.false ∙ sym (c.has_long_run.ensures c.if-has_long_run.false)
