use Rattle.std.proofs.Common.{arith}
use Rattle.std.proofs.lemmas.Bool.Decides.{nat_tests}
use Rattle.word_writer.proofs.Saying.{says_nothing, says_same, leaves_all, leaves_next, leaves_none}
use Rattle.reals.proofs.RealLaws.{rest_shorter, real_on, real_end}
use Rattle.reals.proofs.say_real.Goals as goal

pub loop-rest-init : goal.loop-rest-init
loop-rest-init c = leaves_all

pub loop-rest-smaller : goal.loop-rest-smaller
loop-rest-smaller c = rest_shorter c.loop-rest.rest.now (grind (arith, nat_tests)) c.say_part-rest.ensures.rest

pub loop-rest-preserved : goal.loop-rest-preserved
loop-rest-preserved c = leaves_next c.loop-rest.invariant _ _ (real_on c.loop-rest.rest.now c.say_part-rest.ensures.rest) c.say_part-rest.ensures.said

pub returns : goal.returns
returns c = leaves_none c.loop-rest.invariant (says_same (real_end c.loop-rest.rest.now (grind (arith, nat_tests))) says_nothing)
