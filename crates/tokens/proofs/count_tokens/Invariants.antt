use Rattle.std.proofs.Common.{◌≡◌, ◌+◌, ◌≤◌, length, drop}
use Rattle.tokens.specs.Tokens.{tokens}
use Rattle.tokens.proofs.Count.{run_starts}
use Rattle.tokens.proofs.count_tokens.Given as goal

abbrev pub invariant-loop-b : goal.invariant-loop-b
invariant-loop-b l = (l.n ≤ l.b-index) × (l.n + run_starts l.white (drop l.b-index l.s) ≡ length (tokens l.s))
