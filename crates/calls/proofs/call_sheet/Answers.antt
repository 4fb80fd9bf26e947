use mathlib.Core.Path.{sym, ◌∙◌}
use mathlib.Core.List.{[]}
use native.Mathlib.Omega.{arith}
use borrow.Author.Rules.{rules}
use Rattle.calls.proofs.Answers.{sheet_left, sheet_long, sheet_short, sheet_result}
use Rattle.calls.proofs.call_sheet.Goals as goal

pub returns-in_err-admit_text : goal.returns-in_err-admit_text
returns-in_err-admit_text c =
    sheet_left c.args.s.now c.args.out.now c.admit_text.ensures c.from_residual.result c.in_err-admit_text.was c.from_residual.ensures.1

pub returns-then-has_long_name : goal.returns-then-has_long_name
returns-then-has_long_name c =
    sheet_long c.args.s.now c.args.out.now c.admit_text.ensures c.in_ok-admit_text.was (sym c.has_long_name.ensures ∙ c.if-has_long_name.true)

pub returns-then-is_sheet_short : goal.returns-then-is_sheet_short
returns-then-is_sheet_short c =
    sheet_short c.args.s.now c.args.out.now c.admit_text.ensures c.in_ok-admit_text.was
    (sym c.has_long_name.ensures ∙ c.if-has_long_name.false) (sym c.is_sheet_short.ensures ∙ c.if-is_sheet_short.true)

pub returns : goal.returns
returns c =
    rw c.counts-words.ensures
    (sheet_result c.args.s.now c.args.out.now c.admit_text.ensures c.in_ok-admit_text.was
    (sym c.has_long_name.ensures ∙ c.if-has_long_name.false) (sym c.is_sheet_short.ensures ∙ c.if-is_sheet_short.false)
    (omega arith) [] c.new-lines.result c.say_sheet-tokens.new.out c.say_sheet-tokens.ensures.tokens c.new-lines.ensures.start
    c.say_sheet-tokens.ensures.lines (search rules))
