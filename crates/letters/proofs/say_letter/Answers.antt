use Rattle.std.proofs.Common.{arith, rules}
use Rattle.std.proofs.lemmas.Bool.Decides.{nat_tests}
use Rattle.lists.proofs.Library.{lower_is}
use Rattle.letters.proofs.LetterLaws.{says_a, says_lowered, says_bytes}
use Rattle.letters.proofs.say_letter.Goals as goal

pub returns-in-97 : goal.returns-in-97
returns-in-97 c = says_a c.args.c.now (omega arith) (grind (arith, nat_tests)) (search rules)

pub returns-in-len1 : goal.returns-in-len1
returns-in-len1 c = says_lowered c.args.c.now (omega arith) (grind (arith, nat_tests)) (search (rules, lower_is))

pub returns-in_default : goal.returns-in_default
returns-in_default c = says_bytes c.args.c.now (grind (arith, nat_tests)) (search rules)
