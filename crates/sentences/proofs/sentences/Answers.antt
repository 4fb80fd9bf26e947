use Rattle.std.proofs.Common.{ltb, length, sym, ap, ◌∙◌}
use borrow.Author.Tests.{ltb-false}
use Rattle.tokens.proofs.Answers.{fill_refused, fill_short, fill_done}
use Rattle.sentences.specs.Calls.{start_bytes}
use Rattle.sentences.proofs.Marking.{starts_length}
use Rattle.sentences.proofs.sentences.Goals as goal

pub returns-in_err-admit_text : goal.returns-in_err-admit_text
returns-in_err-admit_text c =
    fill_refused c.args.s.now (start_bytes c.args.s.now) c.args.starts.now c.admit_text.ensures c.from_residual.result c.in_err-admit_text.was
    c.from_residual.ensures.1

pub returns-then-has_more_tokens : goal.returns-then-has_more_tokens
returns-then-has_more_tokens c =
    fill_short c.args.s.now (start_bytes c.args.s.now) c.args.starts.now c.admit_text.ensures c.in_ok-admit_text.was
    (ap (ltb (length c.args.starts.now)) (starts_length c.args.s.now) ∙ sym c.has_more_tokens.ensures ∙ c.if-has_more_tokens.true)

pub write_starts-requires : goal.write_starts-requires
write_starts-requires c = ltb-false _ _ (sym c.has_more_tokens.ensures ∙ c.if-has_more_tokens.false)

pub returns : goal.returns
returns c =
    fill_done c.args.s.now (start_bytes c.args.s.now) c.args.starts.now c.admit_text.ensures c.in_ok-admit_text.was
    (ap (ltb (length c.args.starts.now)) (starts_length c.args.s.now) ∙ sym c.has_more_tokens.ensures ∙ c.if-has_more_tokens.false)
    c.write_starts.ensures.0 c.write_starts.ensures.1
