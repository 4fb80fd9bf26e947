use Rattle.std.proofs.Common.{◌≡◌, ap, ◌∙◌, arith, refl, length, zero-add}
use Rattle.tokens.specs.Tokens.{tokens}
use Rattle.tokens.specs.Left.{parts_of, tokens_left}
use Rattle.tokens.proofs.Records.{total_size, total_within, token_end_lem, records_step, records_end}
use Rattle.tokens.proofs.write_records.Goals as goal

pub loop-token-init : goal.loop-token-init
loop-token-init c =
    let all : tokens_left c.into_iter-token-iterator.result ≡ tokens c.args.s.now =
    ap tokens_left c.into_iter-token-iterator.ensures.into_iter_gives ∙ c.new-token-items.ensures in
    rw all (record { count = zero-add _; within = omega (arith, total_within c.args.s.now); table = refl })

pub put_record-at-requires-clause-fits : goal.put_record-at-requires-clause-fits
put_record-at-requires-clause-fits c =
    let size = ap total_size c.in-Some.ensures.steps in
    omega (arith, c.loop-token.invariant, token_end_lem c.loop-token.at (parts_of c.in-Some.token))

pub loop-token-preserved : goal.loop-token-preserved
loop-token-preserved c =
    let next = c.in-Some.ensures.steps in
    let size = ap total_size next in
    let count = ap length next in
    let end = c.put_record-at.ensures.end ∙ token_end_lem c.loop-token.at (parts_of c.in-Some.token) in
    record {
      count = omega (arith, c.loop-token.invariant);
      within = omega (arith, c.loop-token.invariant, end);
      table = rw (c.put_record-at.ensures.stored, end) (records_step _ _ _ _ _ _ next c.loop-token.invariant.table);
    }

pub returns : goal.returns
returns c =
    let none = c.in-None.ensures.steps.0 in
    let count = ap length none in
    (omega (arith, c.loop-token.invariant), records_end _ _ _ _ none c.loop-token.invariant.table)
