use Rattle.shapes.specs.Shapes.{is_digits_dash_digits}
use Rattle.shapes.proofs.Laws.{dash_all}
use Rattle.shapes.proofs.Parts.{list_any_lem}
use Rattle.shapes.proofs.is_digits_dash_digits.Goals as goal

pub returns : goal.returns
unfolding is_digits_dash_digits
returns c = rw (c.nonempty_parts.ensures, c.contains.ensures.value, c.all.ensures, ← dash_all, list_any_lem)
