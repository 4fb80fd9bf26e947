use Rattle.std.proofs.Common.{◌≡◌, ap, ◌∙◌, arith, refl, length, zero-add}
use Rattle.tokens.specs.Tokens.{tokens}
use Rattle.sentences.specs.Sentences.{fresh}
use Rattle.sentences.specs.Left.{entries_left, entries_after}
use Rattle.sentences.proofs.Marking.{entries_length, starts_whole, starts_step, starts_end}
use Rattle.sentences.proofs.write_starts.Goals as goal

pub loop-entry-init : goal.loop-entry-init
loop-entry-init c =
    let all : entries_left c.into_iter-entry-iterator.result ≡ entries_after fresh (tokens c.args.s.now) =
    ap entries_left c.into_iter-entry-iterator.ensures.into_iter_gives ∙ c.new-entry-items.ensures in
    rw (all, starts_whole, entries_length) (record { count = zero-add _; starts = refl })

pub bounds-starts-n : goal.bounds-starts-n
bounds-starts-n c = let count = ap length c.in-Some.ensures.steps in omega (arith, c.loop-entry.invariant)

pub loop-entry-preserved : goal.loop-entry-preserved
loop-entry-preserved c =
    let next = c.in-Some.ensures.steps in
    let count = ap length next in
    record { count = omega (arith, c.loop-entry.invariant); starts = starts_step _ _ next c.from.ensures c.loop-entry.invariant.starts }

pub returns : goal.returns
returns c =
    let none = c.in-None.ensures.steps.0 in
    let count = ap length none in
    (omega (arith, c.loop-entry.invariant), starts_end _ _ none c.loop-entry.invariant.starts)
