use Rattle.admit.proofs.Control.{ascii_text_tested}
use Rattle.admit.proofs.is_ascii_text.Goals as goal

pub returns : goal.returns
returns c = ascii_text_tested c.args.b c.ranges.b.fits c.cast_signed.ensures
