use Rattle.std.proofs.Common.{◌≡◌, ℕ, List, Ok, arith, sym, ◌∙◌, rules}
use Rattle.admit.specs.Refusals.{Call}
use Rattle.word_writer.specs.Writer.{written}
use Rattle.word_writer.specs.Words.{WordsResult, as_words, counts_at}
use Rattle.word_writer.specs.declared.Writer.{Writer}
use Rattle.word_writer.specs.declared.WordCounts.{WordCounts}
use Rattle.word_writer.proofs.Finish.{text_refused, short_refused, all_written}
use Rattle.numerals.specs.Words.{spelled}
use Rattle.numbers.specs.Calls.{words_as}
use Rattle.numbers.proofs.SayAs.write_words.Goals as goal

pub returns-in_err-admit_text : goal.returns-in_err-admit_text
returns-in_err-admit_text c =
    text_refused c.args.s.now (spelled (words_as c.args.self c.args.s.now)) c.args.store.now c.args.table.now
    c.admit_text.ensures c.from_residual.result c.in_err-admit_text.was c.from_residual.ensures.1

pub returns-then-too_short : goal.returns-then-too_short
returns-then-too_short c =
    short_refused c.args.s.now (spelled (words_as c.args.self c.args.s.now)) c.args.store.now c.args.table.now
    c.admit_text.ensures c.in_ok-admit_text.was (sym c.too_short.ensures ∙ c.if-too_short.true)

-- what is given back is what the writer q holds at the end
given_back : {k : WordCounts} {x y : List ℕ} {e : Call WordsResult} (q : Writer) → k ≡ counts_at (written q) → x ≡ q.store.now → y ≡ q.table.now
    → as_words (Ok (counts_at (written q))) q.store.now q.table.now ≡ e → as_words (Ok k) x y ≡ e
given_back q a b d h = rw (a, b, d) h

pub returns : goal.returns
returns c =
    given_back c.say.new.out c.counts.ensures (search rules) (search rules)
    (all_written c.args.s.now (spelled (words_as c.args.self c.args.s.now)) c.args.store.now c.args.table.now c.admit_text.ensures
    c.in_ok-admit_text.was (sym c.too_short.ensures ∙ c.if-too_short.false) (omega arith) (omega arith) c.new-out.ensures.start c.say.ensures)
