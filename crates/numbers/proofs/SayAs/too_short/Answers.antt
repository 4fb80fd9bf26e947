use Rattle.std.proofs.Common.{length, arith, sym, ◌∙◌}
use Rattle.word_writer.proofs.Finish.{measured}
use Rattle.numerals.specs.Words.{spelled}
use Rattle.numbers.specs.Calls.{words_as}
use Rattle.numbers.proofs.Bounds.{ample_room_fits}
use Rattle.numbers.proofs.SayAs.too_short.Goals as goal

pub returns-then-has_ample_room : goal.returns-then-has_ample_room
returns-then-has_ample_room c =
    sym (ample_room_fits c.args.self c.args.s.now (length c.args.store.now) (length c.args.table.now)
    (sym c.has_ample_room.ensures ∙ c.if-has_ample_room.true))

pub returns : goal.returns
returns c =
    c.exceeds.ensures
    ∙ measured (spelled (words_as c.args.self c.args.s.now)) (length c.args.store.now) (length c.args.table.now) (omega arith) (omega arith)
    c.new-measured.ensures.start c.say.ensures
