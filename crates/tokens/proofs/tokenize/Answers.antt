use Rattle.std.proofs.Common.{◌≤◌, length, sym, ◌∙◌}
use borrow.Author.Tests.{ltb-false}
use Rattle.tokens.specs.Tokens.{tokens}
use Rattle.tokens.specs.Table.{records}
use Rattle.tokens.proofs.Records.{records_length}
use Rattle.tokens.proofs.Answers.{records_short, fill_refused, fill_short, fill_done}
use Rattle.tokens.proofs.tokenize.Goals as goal

pub returns-in_err-admit_text : goal.returns-in_err-admit_text
returns-in_err-admit_text c =
    fill_refused c.args.s.now (records 0 (tokens c.args.s.now)) c.args.table.now c.admit_text.ensures c.from_residual.result c.in_err-admit_text.was
    c.from_residual.ensures.1

pub returns-then-has_more_tokens : goal.returns-then-has_more_tokens
returns-then-has_more_tokens c =
    fill_short c.args.s.now (records 0 (tokens c.args.s.now)) c.args.table.now c.admit_text.ensures c.in_ok-admit_text.was
    (records_short c.args.s.now c.args.table.now ∙ sym c.has_more_tokens.ensures ∙ c.if-has_more_tokens.true)

pub write_records-requires : goal.write_records-requires
write_records-requires c =
    let h : length (records 0 (tokens c.args.s.now)) ≤ length c.args.table.now =
    ltb-false _ _ (records_short c.args.s.now c.args.table.now ∙ sym c.has_more_tokens.ensures ∙ c.if-has_more_tokens.false) in
    rw (records_length 0 (tokens c.args.s.now)) at h

pub returns : goal.returns
returns c =
    fill_done c.args.s.now (records 0 (tokens c.args.s.now)) c.args.table.now c.admit_text.ensures c.in_ok-admit_text.was
    (records_short c.args.s.now c.args.table.now ∙ sym c.has_more_tokens.ensures ∙ c.if-has_more_tokens.false)
    c.write_records.ensures.0 c.write_records.ensures.1
