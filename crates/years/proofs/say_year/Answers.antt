use Rattle.std.proofs.Common.{sym, ◌∙◌}
use Rattle.numerals.specs.Words.{spelled}
use Rattle.word_writer.proofs.Saying.{leaves_all, leaves_next, leaves_none}
use Rattle.numerals.proofs.Picking.{picked_digits}
use Rattle.years.specs.Year.{year}
use Rattle.years.proofs.YearLaws.{digit_values_count, left_after, year_at}
use Rattle.years.proofs.say_year.Goals as goal

pub loop-left-init : goal.loop-left-init
loop-left-init c = record { count = c.count-left.ensures ∙ sym (digit_values_count c.args.s.now); words = leaves_all }

pub loop-left-preserved : goal.loop-left-preserved
loop-left-preserved c =
    let l = c.loop-left in
    let lead = c.say_lead-rest in
    record {
      count = left_after l.rest.now lead.result.now l.left l.invariant.count lead.ensures.others;
      words =
          leaves_next l.invariant.words _ (spelled (year lead.result.now))
          (year_at l.rest.now lead.result.now l.left l.invariant.count lead.ensures.others c.loop-left-test.true) lead.ensures.words;
    }

pub returns-in-Ok : goal.returns-in-Ok
unfolding year
returns-in-Ok c =
    let rest = c.loop-left.rest.now in
    leaves_none c.loop-left.invariant.words (rw (c.digits.ensures, picked_digits rest c.in-Ok.ensures) at c.say_last.ensures)
