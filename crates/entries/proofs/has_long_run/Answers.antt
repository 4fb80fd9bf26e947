use Rattle.std.proofs.Common.{◌≡◌, take, length, length-drop, ap, arith, ◌∙◌}
use Rattle.entries.proofs.Runs.{NoLongRun, no_run_before, no_run_short, no_long_entry}
use Rattle.entries.proofs.has_long_run.Goals as goal

pub loop-ahead-smaller : goal.loop-ahead-smaller
loop-ahead-smaller c =
    let e = ap length c.tail-rest.ensures ∙ length-drop c.last_end-end.result c.loop-ahead.rest.now in
    omega (arith, e, c.in-Some.ensures.lookup)

pub loop-ahead-preserved : goal.loop-ahead-preserved
loop-ahead-preserved c =
    let e : c.in-Some.ahead.now ≡ take 4097 c.loop-ahead.rest.now = c.in-Some.ensures.lookup.0.2 in
    λ (f : NoLongRun c.tail-rest.result.now).
    c.loop-ahead.invariant (no_run_before c.loop-ahead.rest.now _ _ e c.last_end-end.ensures c.if-end-eq0.false (rw c.tail-rest.ensures at f))

pub returns : goal.returns
returns c = λ e.
    no_long_entry c.args.s.now (c.loop-ahead.invariant (no_run_short c.loop-ahead.rest.now (omega (arith, c.in_default.ensures.lookup))))
