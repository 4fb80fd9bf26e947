use Rattle.std.proofs.Common.{sym, ap, ◌∙◌}
use Rattle.admit.specs.Refusals.{text_limit, answer_number}
use Rattle.admit.proofs.Calls.{text_valid}
use Rattle.numbers.proofs.roman_value.Goals as goal

pub roman_value-requires : goal.roman_value-requires
roman_value-requires c = (text_valid text_limit c.args.s.now (sym c.admit_text.ensures ∙ ap answer_number c.in_ok-admit_text.was)).within_limit
