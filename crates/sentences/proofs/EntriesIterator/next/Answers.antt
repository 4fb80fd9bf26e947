use Rattle.std.proofs.Common.{◌≡◌, ◌∷◌, rules, length, ap}
use Rattle.sentences.specs.Left.{entries_left}
use Rattle.sentences.proofs.Marking.{entries_none, entries_next}
use Rattle.sentences.proofs.EntriesIterator.next.Goals as goal

pub returns-in_err-token-clause-steps : goal.returns-in_err-token-clause-steps
returns-in_err-token-clause-steps c =
    rw c.from_residual.ensures (entries_none _ c.in_err-token.ensures.steps.0, entries_none _ c.in_err-token.ensures.steps.1)

first : (c : goal.After-result-1)
    → entries_left c.args.self.now ≡ (c.starts_sentence-starts.result, c.in_ok-token.token.name.now)
    ∷ entries_left (record { tokens = c.next.new.self; state = c.kept-self.result })
first c = entries_next _ c.in_ok-token.ensures.steps c.starts_sentence-starts.ensures c.kept-self.ensures

pub returns-clause-steps : goal.returns-clause-steps
returns-clause-steps c = first c

pub returns-clause-goes : goal.returns-clause-goes
returns-clause-goes c = let shorter = ap length (first c) in search rules
