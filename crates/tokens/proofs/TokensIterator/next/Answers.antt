use Rattle.std.proofs.Common.{◌≡◌, ◌≤◌, ◌+◌, ◌∷◌, rules, sym, ap, ◌∙◌, arith, length}
use Rattle.lists.specs.Classes.{whitespace}
use Rattle.lists.proofs.Scan.{span_le}
use Rattle.tokens.specs.Tokens.{tokens}
use Rattle.tokens.specs.Left.{parts_of}
use Rattle.tokens.proofs.Cutting.{none_left, run_within, run_marks, token_first}
use Rattle.tokens.proofs.TokensIterator.next.Goals as goal

pub split_at-requires : goal.split_at-requires
split_at-requires c = rw c.span.ensures (span_le whitespace c.args.self.now.rest.now)

pub returns-then-is_empty-clause-steps : goal.returns-then-is_empty-clause-steps
returns-then-is_empty-clause-steps c =
    let n = none_left _ _ _ c.span.ensures c.split_at.ensures.back (sym c.is_empty.ensures ∙ c.if-is_empty.true) in (n, n)

within : (c : goal.After-span-more) → c.span-marks.result + c.span-more.result ≤ length c.split_at.result.1.now
within c = run_within _ _ _ c.span.ensures c.split_at.ensures.back _ _ _ c.span-marks.ensures c.tail.ensures c.span-more.ensures

pub overflow_add-marks : goal.overflow_add-marks
overflow_add-marks c = let k = within c in omega arith

pub split_at-requires-2 : goal.split_at-requires-2
split_at-requires-2 c = within c

pub cut_run-requires : goal.cut_run-requires
cut_run-requires c =
    rw c.split_at-2.ensures.front
    (run_marks _ _ _ c.span.ensures c.split_at.ensures.back _ _ _ c.span-marks.ensures c.tail.ensures c.span-more.ensures)

first : (c : goal.After-cut_run) → tokens c.args.self.now.rest.now ≡ parts_of c.cut_run.result ∷ tokens c.split_at-2.result.1.now
first c =
    let t = token_first _ _ _ c.span.ensures c.split_at.ensures.back _ _ _ c.span-marks.ensures c.tail.ensures c.span-more.ensures
    (sym c.is_empty.ensures ∙ c.if-is_empty.false) in
    rw (c.cut_run.ensures, c.is_empty-2.ensures, c.split_at-2.ensures.front, c.split_at-2.ensures.back, c.split_at.ensures.front) t

pub returns-clause-steps : goal.returns-clause-steps
returns-clause-steps c = first c

pub returns-clause-goes : goal.returns-clause-goes
returns-clause-goes c = let shorter = ap length (first c) in search rules
