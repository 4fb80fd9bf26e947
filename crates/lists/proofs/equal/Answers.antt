use Rattle.std.proofs.Common.{◌∙◌}
use Rattle.lists.proofs.Library.{equal_is}
use Rattle.lists.proofs.equal.Goals as goal

pub returns : goal.returns
returns c = c.eq.ensures ∙ equal_is _ _
