use Rattle.std.proofs.Common.{length}
use Rattle.entries.proofs.Runs.{NoLongRun}
use Rattle.entries.proofs.has_long_run.Given as goal

abbrev pub invariant-loop-ahead : goal.invariant-loop-ahead
invariant-loop-ahead l = NoLongRun l.rest → NoLongRun l.s

abbrev pub decreases-loop-ahead : goal.decreases-loop-ahead
decreases-loop-ahead l = length l.rest
