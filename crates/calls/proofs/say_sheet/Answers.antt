use Rattle.std.proofs.Common.{◌≡◌, refl, ap, ◌∙◌, arith, length, zero-add}
use Rattle.word_writer.proofs.Saying.{same_buffers_on}
use Rattle.tokens.specs.Tokens.{tokens}
use Rattle.tokens.proofs.Count.{tokens_bound}
use Rattle.sentences.specs.Sentences.{fresh}
use Rattle.sentences.specs.Left.{entries_left, entries_after}
use Rattle.sentences.proofs.Marking.{entries_length}
use Rattle.entries.proofs.Found.{sheet_entries_all}
use Rattle.calls.proofs.Lines.{lines_on, lines_done}
use Rattle.calls.proofs.say_sheet.Goals as goal

pub loop-entry-init : goal.loop-entry-init
loop-entry-init c =
    let all : entries_left c.into_iter-entry-iterator.result ≡ entries_after fresh (tokens c.args.s.now) =
    ap entries_left c.into_iter-entry-iterator.ensures.into_iter_gives ∙ c.new-entry-items.ensures in
    rw (all, sheet_entries_all, entries_length) (record { count = zero-add _; buffers = record { store = refl; table = refl }; lines = refl })

pub overflow_add-tokens : goal.overflow_add-tokens
overflow_add-tokens c =
    let count = ap length c.in-Some.ensures.steps in
    omega (arith, c.loop-entry.invariant, tokens_bound c.args.s.now)

pub loop-entry-preserved : goal.loop-entry-preserved
loop-entry-preserved c =
    let next = c.in-Some.ensures.steps in
    let count = ap length next in
    record {
      count = omega (arith, c.loop-entry.invariant);
      buffers = same_buffers_on c.loop-entry.invariant.buffers c.say_line.ensures.line.buffers;
      lines = lines_on _ next c.say_line.ensures.line.result c.loop-entry.invariant.lines;
    }

pub returns : goal.returns
returns c =
    let none = c.in-None.ensures.steps.0 in
    let count = ap length none in
    record {
      tokens = omega (arith, c.loop-entry.invariant);
      lines = record { buffers = c.loop-entry.invariant.buffers; result = lines_done _ none c.loop-entry.invariant.lines };
    }
