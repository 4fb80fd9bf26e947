use mathlib.Core.Path.{sym, ◌∙◌}
use Rattle.admit.proofs.Utf8.{utf8_all}
use Rattle.admit.proofs.Scalars.{utf8_tested}
use Rattle.admit.proofs.is_utf8.Goals as goal

pub returns-then-is_ascii : goal.returns-then-is_ascii
returns-then-is_ascii c = c.if-is_ascii.true ∙ sym (utf8_all _ (sym c.requires ∙ c.if-is_ascii.true))

pub returns-else-is_ascii : goal.returns-else-is_ascii
returns-else-is_ascii c = c.is_ok.ensures.value ∙ utf8_tested c.from_utf8.result c.args.s.now _ _ c.from_utf8.ensures.cases
