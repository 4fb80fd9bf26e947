use Rattle.std.proofs.Common.{arith}
use Rattle.std.proofs.lemmas.Bool.Decides.{nat_tests}
use Rattle.lists.proofs.Scan.{take_rest}
use Rattle.reals.proofs.PartLaws.{part_minus, part_plus, part_last, part_e}
use Rattle.reals.proofs.say_part.Goals as goal

pub returns-in-45 : goal.returns-in-45
returns-in-45 c = rw (take_rest c.args.s.now 1) (part_minus c.args.s.now (omega arith) (omega arith) c.say.ensures)

pub returns-in-43 : goal.returns-in-43
returns-in-43 c = rw (take_rest c.args.s.now 1) (part_plus c.args.s.now (omega arith) (omega arith) c.say-in-43.ensures)

pub returns-in-None : goal.returns-in-None
returns-in-None c =
    part_last c.args.s.now (grind (arith, nat_tests)) (grind (arith, nat_tests)) (rw c.in-None.is at c.split_once.ensures) c.say_pointed.ensures

pub returns-in-Some : goal.returns-in-Some
returns-in-Some c =
    part_e c.args.s.now (grind (arith, nat_tests)) (grind (arith, nat_tests)) (rw c.in-Some.is at c.split_once.ensures)
    c.say_pointed-in-Some.ensures c.say-in-Some.ensures
