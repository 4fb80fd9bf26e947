use Rattle.std.proofs.Common.{◌∙◌}
use Rattle.lists.specs.Bytes.{bytes}
use Rattle.shapes.proofs.Parts.{ends_with_lem}
use Rattle.shapes.proofs.is_illion.Goals as goal

pub returns : goal.returns
returns c = c.ends_with.ensures.value ∙ ends_with_lem c.args.s.now (bytes "illion")
