use Rattle.std.proofs.Common.{rules}
use Rattle.recorded.proofs.buffer.is_given.Goals as goal

pub returns-then-any-clause-fits : goal.returns-then-any-clause-fits
returns-then-any-clause-fits g c = (λ none is. absurd (none (search rules)))
