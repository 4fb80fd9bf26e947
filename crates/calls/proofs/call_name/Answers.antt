use mathlib.Core.Path.{sym, ◌∙◌}
use mathlib.Core.List.{[]}
use native.Mathlib.Omega.{arith}
use borrow.Author.Rules.{rules}
use Rattle.entries.specs.Find.{as_sheet_entry}
use Rattle.calls.proofs.Answers.{name_long, line_short, line_result}
use Rattle.calls.proofs.call_name.Goals as goal

pub returns-then-called-gt-NAME_LIMIT : goal.returns-then-called-gt-NAME_LIMIT
returns-then-called-gt-NAME_LIMIT c = name_long (as_sheet_entry c.args.called) c.args.out.now c.if-called-gt-NAME_LIMIT.true

pub returns-then-is_line_short : goal.returns-then-is_line_short
returns-then-is_line_short c =
    line_short (as_sheet_entry c.args.called) c.args.out.now (omega arith) (sym c.is_line_short.ensures ∙ c.if-is_line_short.true)

pub returns : goal.returns
returns c =
    rw c.counts-words.ensures
    (line_result (as_sheet_entry c.args.called) c.args.out.now (let h = c.if-called-gt-NAME_LIMIT.false in omega arith)
    (sym c.is_line_short.ensures ∙ c.if-is_line_short.false) (omega arith) [] c.new-line.result c.say_line-entry.new.out
    c.new-line.ensures.start c.say_line-entry.ensures (search rules))
