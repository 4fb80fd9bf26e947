use Rattle.reals.proofs.PartLaws.{pointed_whole, pointed_parts}
use Rattle.reals.proofs.say_pointed.Goals as goal

pub returns-in-None : goal.returns-in-None
returns-in-None c = pointed_whole c.args.s.now (rw c.in-None.is at c.split_once.ensures) c.say_cardinal.ensures

pub returns-in-Some : goal.returns-in-Some
returns-in-Some c =
    pointed_parts c.args.s.now (rw c.in-Some.is at c.split_once.ensures) c.say_cardinal-in-Some.ensures c.say.ensures c.say_digits.ensures
