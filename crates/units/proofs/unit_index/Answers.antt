use Rattle.std.proofs.Common.{◌∙◌}
use Rattle.lists.specs.LittleEndian.{le_value}
use Rattle.units.specs.Units.{unit_abbreviations, abbreviations, unit_keys, key}
use Rattle.units.proofs.Laws.{row_of_key, row_of_no_key}
use Rattle.units.proofs.unit_index.Goals as goal

pub returns-in_err-unit_key : goal.returns-in_err-unit_key
returns-in_err-unit_key c = rw c.from_residual.ensures (row_of_no_key c.args.u.now (rw c.in_err-unit_key.was at c.unit_key.ensures))

pub returns : goal.returns
unfolding unit_keys abbreviations unit_abbreviations key le_value
returns c = c.first_equal.ensures ∙ row_of_key c.args.u.now _ (λ i. (c.type_inv.u i).fits) (rw c.in_ok-unit_key.was at c.unit_key.ensures)
