use Rattle.std.proofs.Common.{◌∙◌, add-one}
use Rattle.std.proofs.lemmas.List.{length_push}
use Rattle.std.proofs.lemmas.Iterator.Adapters.{YieldsList-from_rev_slice}
use Rattle.std.proofs.lemmas.Iterator.Consumers.{YieldsList-turn, YieldsList-end}
use Rattle.roman.proofs.RomanLaws.{summed_none, summed_adds, summed_takes, summed_all, foreign}
use Rattle.roman.proofs.roman_value.Goals.{then-value-largest, else-value-largest}
use Rattle.roman.proofs.roman_value.Goals as goal

pub loop-letter-init : goal.loop-letter-init
loop-letter-init c = summed_none c.args.s.now

pub returns-in_default : goal.returns-in_default
returns-in_default c =
    let s = c.args.s.now in
    let t = YieldsList-turn (YieldsList-from_rev_slice s cc) c.loop-letter.yielded _ c.loop-letter.yielded_by _ _ c.in-Some.letter c.in-Some.is
    c.next.ensures.steps in
    foreign s _ _ t (cc)

pub loop-letter-preserved : goal.loop-letter-preserved
loop-letter-preserved c =
    let s = c.args.s.now in
    let t = YieldsList-turn (YieldsList-from_rev_slice s cc) c.loop-letter.yielded _ c.loop-letter.yielded_by _ _ c.in-Some.letter c.in-Some.is
    c.next.ensures.steps in
    let small = c.in-Some-letter_value.ensures.bound in
    rw (length_push, add-one) (elim c.if-value-largest.branch [
      | then-value-largest w ↦ summed_takes s _ _ t c.loop-letter.invariant (cc) small w.if-value-largest.true w.added-is w.subtracted-is
          c.max-largest.ensures
      | else-value-largest w ↦ summed_adds s _ _ t c.loop-letter.invariant (cc) small w.if-value-largest.false w.added-is w.subtracted-is
          c.max-largest.ensures
    ])

pub returns : goal.returns
returns c =
    let s = c.args.s.now in
    let t = YieldsList-end (YieldsList-from_rev_slice s cc) c.loop-letter.yielded _ c.loop-letter.yielded_by _ _ c.in-None.is c.next.ensures.steps in
    c.saturating_sub.ensures ∙ summed_all s _ _ _ _ t.1 c.loop-letter.invariant
