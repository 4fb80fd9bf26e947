use Rattle.std.proofs.Common.{arith}
use Rattle.std.proofs.lemmas.Bool.Decides.{nat_tests}
use Rattle.word_writer.proofs.Saying.{says_nothing, says_same, leaves_all, leaves_next, leaves_none}
use Rattle.letters.proofs.LetterLaws.{rest_shorter, letters_on, letters_end}
use Rattle.letters.proofs.say_letters.Goals as goal

pub loop-rest-init : goal.loop-rest-init
loop-rest-init c = leaves_all

pub loop-rest-smaller : goal.loop-rest-smaller
loop-rest-smaller c = rest_shorter c.loop-rest.rest.now (grind (arith, nat_tests)) c.split_first_char.ensures.rest

pub loop-rest-preserved : goal.loop-rest-preserved
loop-rest-preserved c =
    let split = c.split_first_char.ensures in
    leaves_next c.loop-rest.invariant _ _ (letters_on c.loop-rest.rest.now (grind (arith, nat_tests)) split.char split.rest) c.say_letter.ensures

pub returns : goal.returns
returns c = leaves_none c.loop-rest.invariant (says_same (letters_end c.loop-rest.rest.now (grind (arith, nat_tests))) says_nothing)
