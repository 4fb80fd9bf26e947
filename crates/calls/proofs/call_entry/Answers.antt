use mathlib.Core.Path.{◌∙◌}
use Rattle.calls.proofs.Answers.{entry_left, entry_none, entry_there}
use Rattle.calls.proofs.call_entry.Goals as goal

pub returns-in_err-admit_text : goal.returns-in_err-admit_text
returns-in_err-admit_text c =
    entry_left c.args.s.now c.args.out.now c.admit_text.ensures c.args.k c.from_residual.result c.in_err-admit_text.was c.from_residual.ensures.1

pub returns-in_default : goal.returns-in_default
returns-in_default c =
    entry_none c.args.s.now c.args.out.now c.admit_text.ensures c.args.k c.in_ok-admit_text.was _ c.find_entry.ensures c.in_default.is

pub returns : goal.returns
returns c =
    c.call_name.ensures
    ∙ entry_there c.args.s.now c.args.out.now c.admit_text.ensures c.args.k c.in_ok-admit_text.was _ c.find_entry.ensures c.in-Some.is
