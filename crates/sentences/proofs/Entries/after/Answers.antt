use Rattle.std.proofs.Common.{◌-◌, arith, refl, []}
use Rattle.lists.specs.Bytes.{all}
use Rattle.tokens.proofs.Forward.{tokens_none}
use Rattle.sentences.specs.Sentences.{fresh}
use Rattle.sentences.proofs.After.{after_last_given, after_none_given}
use Rattle.sentences.proofs.Entries.after.Goals as goal

pub returns-in-Some : goal.returns-in-Some
returns-in-Some c =
    let ran = c.in-Some.ensures.ran in
    rw (c.kept.ensures, ← c.new-tokens.ensures)
    (after_last_given fresh c.new-tokens.result ran.1.0 ran.0 (c.args.n - 1) ran.1.1 c.in-Some.last ran.1.2 ran.2 (omega arith))

pub returns-in-None : goal.returns-in-None
unfolding all
returns-in-None c =
    let ran = c.in-None.ensures.ran in
    let none = tokens_none [] refl in
    rw (c.new-in-None.ensures, ← c.new-tokens.ensures)
    (after_none_given fresh c.new-tokens.result ran.1.0 ran.0 (c.args.n - 1) ran.1.1 ran.1.2.0 none ran.2 (omega arith) fresh)
